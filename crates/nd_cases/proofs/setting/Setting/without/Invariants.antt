use Rattle.std.proofs.Common.{◌≡◌, None}
use Rattle.nd_cases.proofs.setting.Setting.without.Given as goal

abbrev pub invariant-loop-handle : goal.invariant-loop-handle
invariant-loop-handle l = l.rig.keeping ≡ None
