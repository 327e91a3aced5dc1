use Rattle.region_labels.proofs.Walked.{HasGained}
use Rattle.region_labels.proofs.member_positions.gain.Given as goal

abbrev pub invariant-loop-position : goal.invariant-loop-position
invariant-loop-position l = HasGained l.dimm l.gained l.position l.fn.kept l.kept
