use Rattle.std.proofs.Common.{◌≡◌, ◌≤◌}
use Rattle.label_codec.specs.ModuleLabels.{count, has}
use Rattle.region_labels.specs.Modules.{module_in}
use Rattle.module_flips.proofs.lists.count_labels.Given as goal

abbrev pub invariant-loop-slot : goal.invariant-loop-slot
invariant-loop-slot l = record {
  counted : l.count ≡ count (has l.uuid) (module_in l.loaded).at l.slot;
  few : l.count ≤ l.slot;
}
