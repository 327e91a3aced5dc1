use Rattle.std.proofs.Common.{◌≡◌, ◌<◌, ◌+◌, ◌++◌, List, length, drop, refl, sym, ap, ◌∙◌, arith}
use Rattle.uuid_index.specs.declared.entry.Entry.{Entry}
use Rattle.uuid_index.specs.Labels.{entries_from, entries_of}
use Rattle.uuid_index.proofs.Collecting.{entries_from-next}
use Rattle.region_labels.specs.Modules.{labels_in}
use Rattle.region_labels.specs.Regions.{handles}
use Rattle.region_labels.proofs.Seated.{handle-at, length-handles, seated-module}
use Rattle.region_labels.proofs.seats.index_of.Goals as goal

pub loop-position-preserved : goal.loop-position-preserved
loop-position-preserved c =
    let modules = c.args.modules.now in
    let region = c.args.region.now in
    let L = labels_in modules in
    let i = c.loop-position.position in
    let done = c.loop-position.entries.items in
    let each : length c.args.seats.now ≡ length region.members = c.requires.seats.each in
    let lt : i < length region.members = omega (arith, c.loop-position-test.true) in
    let len : length (handles region) ≡ length region.members = length-handles region in
    let at = seated-module modules region c.args.seats.now c.requires.once c.requires.seats i lt _ c.index-modules-seat.result refl c.index-modules-seat.is ∙ ap L (sym (handle-at region i lt)) in
    ap (λ (es : List Entry). es ++ entries_from (i + 1) (drop (i + 1) (handles region)) L) (c.in_ok-push_entries.ensures ∙ ap (λ M. done ++ entries_of i M) at)
    ∙ entries_from-next (handles region) L i done (omega arith)
    ∙ c.loop-position.invariant
