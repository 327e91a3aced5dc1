use Rattle.region_labels.proofs.Walked.{HasLostBelow}
use Rattle.region_labels.proofs.member_positions.lose.Given as goal

abbrev pub invariant-loop-position : goal.invariant-loop-position
invariant-loop-position l = HasLostBelow l.dimm l.lost l.position l.fn.kept l.kept
