use Rattle.std.proofs.Common.{◌≡◌, length, subst, arith}
use Rattle.region_labels.specs.Regions.{IsOver}
use Rattle.region_labels.specs.Changes.{dimm_at}
use Rattle.region_labels.specs.Rooms.{room_after_free}
use Rattle.region_labels.proofs.AllFollow.{HasFollowed, ahead-only, followed-kept, followed-over}
use Rattle.region_labels.proofs.Looped.{AreChanged, changed-next, changed-none}
use Rattle.region_labels.proofs.follow.follow_free.Goals as goal

pub loop-kept-init : goal.loop-kept-init
loop-kept-init c = changed-none (HasFollowed c.args.modules.now (room_after_free (dimm_at c.args.modules.now c.args.seat) (length c.args.lost.now))) c.args.regions.now

pub follow_free_in-requires : goal.follow_free_in-requires
follow_free_in-requires c =
    let stood = c.requires in
    let room = room_after_free (dimm_at c.args.modules.now c.args.seat) (length c.args.lost.now) in
    record {
      before = stood.before;
      over = ahead-only c.args.modules.now room c.args.regions.now c.loop-kept.regions (IsOver stood.before)
          c.loop-kept.kept-index c.kept-item.result c.loop-kept-test.true c.loop-kept.invariant stood.over;
      changed = stood.changed;
      flip = stood.flip;
    }

pub loop-kept-preserved : goal.loop-kept-preserved
loop-kept-preserved c =
    changed-next (HasFollowed c.args.modules.now (room_after_free (dimm_at c.args.modules.now c.args.seat) (length c.args.lost.now)))
    c.args.regions.now c.loop-kept.regions c.loop-kept.kept-index c.follow_free_in.new.kept c.loop-kept-test.true
    c.loop-kept.invariant c.kept-item.result (record { over = c.follow_free_in.ensures.over; kept = c.follow_free_in.ensures.kept })

pub returns-clause-over : goal.returns-clause-over
returns-clause-over c =
    let room = room_after_free (dimm_at c.args.modules.now c.args.seat) (length c.args.lost.now) in
    let end : c.loop-kept.kept-index ≡ length c.args.regions.now = omega arith in
    followed-over c.args.modules.now room c.args.regions.now c.loop-kept.regions
    (subst (λ n. AreChanged (HasFollowed c.args.modules.now room) c.args.regions.now n c.loop-kept.regions) end c.loop-kept.invariant)

pub returns-clause-kept : goal.returns-clause-kept
returns-clause-kept c =
    let room = room_after_free (dimm_at c.args.modules.now c.args.seat) (length c.args.lost.now) in
    let end : c.loop-kept.kept-index ≡ length c.args.regions.now = omega arith in
    followed-kept c.args.modules.now room c.args.regions.now c.loop-kept.regions
    (subst (λ n. AreChanged (HasFollowed c.args.modules.now room) c.args.regions.now n c.loop-kept.regions) end c.loop-kept.invariant)
