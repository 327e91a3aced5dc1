use Rattle.std.proofs.Common.{◌≡◌, ◌≤◌, take}
use Rattle.std.specs.Prelude.{vec_capacity, vec_len}
use Rattle.region_labels.specs.Modules.{module_in}
use Rattle.region_labels.specs.SlotLabels.{slot_labels}
use Rattle.module_flips.proofs.lists.list_labels.Given as goal

abbrev pub invariant-loop-slot : goal.invariant-loop-slot
invariant-loop-slot l = record {
  listed : l.labels.items ≡ slot_labels (module_in l.loaded) (take l.slot-index l.slots);
  few : vec_len l.labels ≤ l.slot-index;
  room : vec_capacity l.fn.labels ≤ vec_capacity l.labels;
}
