use Rattle.region_labels.proofs.Follows.{HasFreed}
use Rattle.region_labels.proofs.follow.follow_free_in.Given as goal

abbrev pub invariant-loop-one : goal.invariant-loop-one
invariant-loop-one l = HasFreed l.modules l.seat l.lost l.one-index l.fn.kept l.kept
