use Rattle.std.proofs.Common.{◌≡◌, ◌≤◌, length, drop}
use Rattle.rig_trait.specs.Kept.{AllLieIn}
use Rattle.rig_trait.specs.Memory.{areas_of}
use Rattle.rig_trait.specs.Undone.{before, whole}
use Rattle.rig_trait.proofs.kept_calls.KeptCalls.rewind.Given as goal

abbrev pub invariant-loop-i : goal.invariant-loop-i
invariant-loop-i l = record {
  above : l.to ≤ l.i;
  below : l.i ≤ length l.self.kept;
  state : whole (areas_of l.areas) l.said.items ≡ before (drop l.i l.self.kept) (whole (areas_of l.fn.areas) l.fn.said.items);
  lie : AllLieIn (areas_of l.areas) l.self.kept;
}

abbrev pub decreases-loop-i : goal.decreases-loop-i
decreases-loop-i l = l.i
