use Rattle.std.proofs.Common.{◌≡◌, None, sym, ap, ◌∙◌}
use Rattle.std.specs.Option.{option_copied}
use Rattle.label_codec.specs.ModuleLabels.{Labels}
use Rattle.region_map.specs.declared.platform.Region.{Region}
use Rattle.label_table.specs.Plain.{labels_in}
use Rattle.label_table.proofs.ListTests.{never}
use Rattle.label_table.specs.Wholes.{all_ready}
use Rattle.table_steps.specs.Refusals.{area_by}
use Rattle.table_steps.proofs.Unready.{is-none, none-unready, region-refusal}
use Rattle.table_steps.proofs.releases.region_refusal.Goals as goal

pub returns-in-Some : goal.returns-in-Some
returns-in-Some c =
    let L : Labels = labels_in c.args.modules.now in
    let r : Region = c.args.region.now in
    let usable : r.rule ≡ None = is-none r.rule (sym c.is_some.ensures ∙ c.if-is_some.false) in
    c.area_refusal.ensures ∙ ap (area_by c.in-Some.member.now.handle) c.kind_of.ensures
    ∙ region-refusal L r usable c.in-Some.member.now (sym c.first_unready.ensures ∙ ap option_copied c.in-Some.is)

pub returns-in-None : goal.returns-in-None
returns-in-None c =
    let L : Labels = labels_in c.args.modules.now in
    let r : Region = c.args.region.now in
    never (all_ready r L) (none-unready L r (sym c.first_unready.ensures ∙ ap option_copied c.in-None.is)) c.requires
