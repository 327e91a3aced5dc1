use Rattle.std.proofs.Common.{◌≡◌, ◌≤◌}
use Rattle.std.specs.Prelude.{vec_capacity, vec_len}
use Rattle.region_labels.specs.Fates.{platform_of}
use Rattle.region_labels.specs.Modules.{labels_in}
use Rattle.module_flips.specs.Sweeps.{is_dead_of, is_unwanted, slots_below}
use Rattle.module_flips.proofs.lists.list_unwanted.Given as goal

abbrev pub invariant-loop-slot : goal.invariant-loop-slot
invariant-loop-slot l = record {
  listed : l.slots.items ≡ slots_below (is_unwanted (is_dead_of (platform_of l.regions) (labels_in l.modules) l.loaded) l.loaded) l.slot;
  few : vec_len l.slots ≤ l.slot;
  room : vec_capacity l.fn.slots ≤ vec_capacity l.slots;
}
