use Rattle.std.proofs.Common.{◌≡◌, ◌++◌, drop}
use Rattle.uuid_index.specs.Labels.{entries_from}
use Rattle.region_labels.specs.Modules.{labels_in}
use Rattle.region_labels.specs.Regions.{handles}
use Rattle.region_labels.proofs.seats.index_of.Given as goal

abbrev pub invariant-loop-position : goal.invariant-loop-position
invariant-loop-position l =
    l.entries.items ++ entries_from l.position (drop l.position (handles l.region)) (labels_in l.modules) ≡ entries_from 0 (handles l.region) (labels_in l.modules)
