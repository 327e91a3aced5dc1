use Rattle.fletcher64.proofs.Holes.{word_but}
use Rattle.fletcher64.proofs.Running.{AreSums}
use Rattle.fletcher64.proofs.fletcher64_but.Given as goal

abbrev pub invariant-loop-i : goal.invariant-loop-i
invariant-loop-i l = AreSums (word_but l.bytes l.hole) l.i l.sums.low l.sums.high
