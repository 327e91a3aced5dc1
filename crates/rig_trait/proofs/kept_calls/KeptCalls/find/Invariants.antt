use Rattle.std.proofs.Common.{◌≡◌, drop}
use Rattle.rig_trait.specs.Kept.{kept_from}
use Rattle.rig_trait.proofs.kept_calls.KeptCalls.find.Given as goal

abbrev pub invariant-loop-i : goal.invariant-loop-i
invariant-loop-i l = kept_from l.call l.self.kept ≡ kept_from l.call (drop l.i l.self.kept)
