use Rattle.region_labels.specs.Changes.{dimm_at}
use Rattle.region_labels.specs.Rooms.{room_after_put}
use Rattle.region_labels.proofs.AllFollow.{HasFollowed}
use Rattle.region_labels.proofs.Looped.{AreChanged}
use Rattle.region_labels.proofs.follow.follow_put.Given as goal

abbrev pub invariant-loop-kept : goal.invariant-loop-kept
invariant-loop-kept l = AreChanged (HasFollowed l.modules (room_after_put (dimm_at l.modules l.seat) l.lost))
    l.fn.regions l.kept-index l.regions
