use Rattle.std.proofs.Common.{◌≡◌, ◌<◌, length, sym, ap, ◌∙◌, arith}
use Rattle.std.specs.Option.{option_copied}
use Rattle.std.proofs.lemmas.List.{get_or_read}
use Rattle.label_codec.specs.ModuleLabels.{Module}
use Rattle.region_map.specs.declared.platform.Region.{Region}
use Rattle.label_table.specs.Belonging.{member_at}
use Rattle.region_labels.specs.Modules.{labels_in}
use Rattle.namespace_passes.proofs.Seats.{is-over, is-position, not-nowhere, not-repeated, stands-at}
use Rattle.namespace_passes.proofs.places.place_of.Goals as goal

pub unreachable-requires : goal.unreachable-requires
unreachable-requires c =
    not-nowhere c.args.modules.now c.args.regions.now c.args.region.now c.args.uuid.now c.args.position c.kept_of-kept.result.now c.requires.together c.kept_of-kept.ensures.region c.kept_of-kept.ensures.among c.requires.one c.requires.position
    c.in-Nowhere.ensures.labels

pub unreachable-requires-in-Repeated : goal.unreachable-requires-in-Repeated
unreachable-requires-in-Repeated c =
    not-repeated c.args.modules.now c.args.regions.now c.args.region.now c.args.uuid.now c.args.position c.kept_of-kept.result.now c.requires.together c.kept_of-kept.ensures.region c.kept_of-kept.ensures.among c.requires.one c.requires.position
    c.in-Repeated.ensures.labels

pub returns : goal.returns
returns c =
    let kept = c.kept_of-kept.result.now in
    let L = labels_in c.args.modules.now in
    let over = is-over c.args.modules.now c.args.regions.now c.args.region.now c.args.uuid.now c.args.position kept c.requires.together c.kept_of-kept.ensures.region c.kept_of-kept.ensures.among c.requires.one c.requires.position in
    let here = is-position c.args.modules.now c.args.regions.now c.args.region.now c.args.uuid.now c.args.position kept c.requires.together c.kept_of-kept.ensures.region c.kept_of-kept.ensures.among c.requires.one c.requires.position in
    let each : length kept.seats.items ≡ length kept.region.members = over.seats.each in
    let lt : c.args.position < length kept.seats.items = omega (arith, each, here) in
    let shown = sym (sym (ap option_copied c.in-Some.is) ∙ c.label.ensures ∙ ap (λ (m : Module). m.at c.in-Once.slot) (c.module_at.ensures.stands ∙ ap (λ (r : Region). L (member_at r c.args.position).handle) c.kept_of-kept.ensures.region)) in
    stands-at c.args.modules.now c.args.regions.now c.args.region.now c.args.uuid.now c.args.position kept c.requires.together c.kept_of-kept.ensures.region c.kept_of-kept.ensures.among c.requires.one c.requires.position
    c.index-seat.result.now (get_or_read kept.seats.items c.args.position _ lt c.index-seat.ensures 0) c.in-Once.slot c.in-Once.ensures.labels c.in-Some.label.now shown
