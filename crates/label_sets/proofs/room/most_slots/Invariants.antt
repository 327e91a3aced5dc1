use Rattle.std.proofs.Common.{ℕ, ◌<◌, get_or}
use Rattle.region_labels.specs.declared.modules.LoadedModule.{LoadedModule}
use Rattle.module_flips.specs.Sweeps.{HasSlotsWithin}
use Rattle.label_sets.proofs.room.most_slots.Given as goal

abbrev pub invariant-loop-loaded : goal.invariant-loop-loaded
invariant-loop-loaded l = (k : ℕ) (d : LoadedModule) → k < l.loaded-index → HasSlotsWithin l.most (get_or l.modules k d)
