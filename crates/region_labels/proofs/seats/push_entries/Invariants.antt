use Rattle.std.proofs.Common.{◌≡◌, ◌++◌}
use Rattle.uuid_index.specs.Labels.{entries_below}
use Rattle.region_labels.specs.Modules.{module_in}
use Rattle.region_labels.proofs.seats.push_entries.Given as goal

abbrev pub invariant-loop-slot : goal.invariant-loop-slot
invariant-loop-slot l = l.entries.items ≡ l.fn.entries.items ++ entries_below l.position (module_in l.loaded).at l.slot
