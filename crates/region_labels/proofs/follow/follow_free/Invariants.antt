use Rattle.std.proofs.Common.{length}
use Rattle.region_labels.specs.Changes.{dimm_at}
use Rattle.region_labels.specs.Rooms.{room_after_free}
use Rattle.region_labels.proofs.AllFollow.{HasFollowed}
use Rattle.region_labels.proofs.Looped.{AreChanged}
use Rattle.region_labels.proofs.follow.follow_free.Given as goal

abbrev pub invariant-loop-kept : goal.invariant-loop-kept
invariant-loop-kept l = AreChanged (HasFollowed l.modules (room_after_free (dimm_at l.modules l.seat) (length l.lost)))
    l.fn.regions l.kept-index l.regions
