use Rattle.std.proofs.Common.{◌≡◌, find, not, Some, sym, ap, ◌∙◌}
use Rattle.std.specs.Option.{option_copied}
use Rattle.std.proofs.lemmas.Bool.{and_parts}
use Rattle.label_codec.specs.ModuleLabels.{Labels}
use Rattle.region_map.specs.declared.platform.Region.{Region}
use Rattle.label_table.specs.Plain.{labels_in}
use Rattle.label_table.specs.Wholes.{all_ready}
use Rattle.label_table.proofs.ListTests.{find-some, not_true}
use Rattle.table_steps.specs.Release.{holds_of, lacks_area}
use Rattle.table_steps.proofs.releases.region_lacks_area.Goals as goal

pub region_refusal-requires : goal.region_refusal-requires
region_refusal-requires c =
    let P = c.args.platform.now in
    let L : Labels = labels_in c.args.modules.now in
    let r : Region = c.in-Some.region.now in
    let found : find (lacks_area P L c.args.dimm c.args.uuid.now) P.regions ≡ Some r = sym c.first_lacking.ensures ∙ ap option_copied c.in-Some.is in
    not_true (all_ready r L) (and_parts (holds_of P L c.args.dimm c.args.uuid.now r) (not (all_ready r L)) (find-some (lacks_area P L c.args.dimm c.args.uuid.now) P.regions r found).1).1
