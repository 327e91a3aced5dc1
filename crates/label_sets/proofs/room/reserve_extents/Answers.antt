use Rattle.std.proofs.Common.{◌≡◌, length, subst, ◌∙◌, arith}
use Rattle.std.proofs.Math.Seq.{map-set_same}
use Rattle.std.proofs.lemmas.List.{get_or_read}
use Rattle.label_sets.specs.Room.{HasExtentRoom, without_spare}
use Rattle.label_sets.proofs.Rooms.{same-length, spare-more}
use Rattle.label_sets.proofs.room.reserve_extents.Goals as goal

-- the free spaces are as many as the regions
same-count : (c : goal.In_ok-reserve_extent) → length c.loop-at.free ≡ length c.args.regions.now
same-count c = same-length without_spare c.loop-at.free c.args.free.now c.loop-at.invariant.same ∙ c.requires

pub loop-at-preserved : goal.loop-at-preserved
loop-at-preserved c = record {
  same = map-set_same without_spare c.loop-at.free c.loop-at.at c.reserve_extent.new.free c.index-free-at.result c.reserve_extent.ensures.same ∙ c.loop-at.invariant.same;
  room = spare-more c.args.regions.now c.loop-at.free c.loop-at.at c.reserve_extent.new.free (let n = same-count c in omega (arith, n, c.loop-at-test.true)) c.loop-at.invariant.room
      (λ d. subst (λ k. HasExtentRoom k c.reserve_extent.new.free) (get_or_read c.args.regions.now c.loop-at.at c.index-regions-at.result c.loop-at-test.true c.index-regions-at.is d) c.in_ok-reserve_extent.ensures.room);
}

pub returns-in_err-reserve_extent-clause-same : goal.returns-in_err-reserve_extent-clause-same
returns-in_err-reserve_extent-clause-same c = map-set_same without_spare c.loop-at.free c.loop-at.at c.reserve_extent.new.free c.index-free-at.result c.reserve_extent.ensures.same ∙ c.loop-at.invariant.same
