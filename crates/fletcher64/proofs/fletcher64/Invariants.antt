use Rattle.fletcher64.specs.Sums.{word}
use Rattle.fletcher64.proofs.Running.{AreSums}
use Rattle.fletcher64.proofs.fletcher64.Given as goal

abbrev pub invariant-loop-i : goal.invariant-loop-i
invariant-loop-i l = AreSums (word l.bytes) l.i l.sums.low l.sums.high
