use Rattle.region_labels.proofs.Looped.{AreChanged}
use Rattle.region_labels.proofs.Reserved.{IsReserved}
use Rattle.region_labels.proofs.rooms.reserve.Given as goal

abbrev pub invariant-loop-kept : goal.invariant-loop-kept
invariant-loop-kept l = AreChanged IsReserved l.fn.regions l.kept-index l.regions
