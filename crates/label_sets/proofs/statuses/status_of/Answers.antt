use Rattle.std.proofs.Common.{map, ap, ◌∙◌}
use Rattle.label_table.specs.Namespaces.{namespaces}
use Rattle.region_labels.specs.Modules.{labels_in}
use Rattle.region_labels.specs.Statuses.{space_in}
use Rattle.region_labels.proofs.Sorted.{unlisted}
use Rattle.label_sets.proofs.statuses.status_of.Goals as goal

pub status-requires-clause-spaces : goal.status-requires-clause-spaces
status-requires-clause-spaces c =
    let r = c.args.kept.now.region in
    let L = labels_in c.args.modules.now in
    ap (map space_in) (c.deref.ensures.value ∙ c.in_ok-spaces.ensures) ∙ unlisted L r (namespaces L r)
