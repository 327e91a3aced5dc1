use Rattle.std.proofs.Common.{◌≡◌, length, subst, sym, arith}
use Rattle.region_labels.specs.Regions.{IsOver}
use Rattle.region_labels.specs.Changes.{dimm_at}
use Rattle.region_labels.specs.Rooms.{HasRoomFor, room_after_put}
use Rattle.region_labels.proofs.AllFollow.{HasFollowed, ahead-only, followed-kept, followed-over}
use Rattle.region_labels.proofs.Looped.{AreChanged, changed-next, changed-none}
use Rattle.region_labels.proofs.follow.follow_put.Goals as goal

pub loop-kept-init : goal.loop-kept-init
loop-kept-init c = changed-none (HasFollowed c.args.modules.now (room_after_put (dimm_at c.args.modules.now c.args.seat) c.args.lost.now)) c.args.regions.now

pub follow_put_in-requires-clause-put : goal.follow_put_in-requires-clause-put
follow_put_in-requires-clause-put c =
    let stood = c.requires.put in
    let room = room_after_put (dimm_at c.args.modules.now c.args.seat) c.args.lost.now in
    record {
      before = stood.before;
      over = ahead-only c.args.modules.now room c.args.regions.now c.loop-kept.regions (IsOver stood.before)
          c.loop-kept.kept-index c.kept-item.result c.loop-kept-test.true c.loop-kept.invariant stood.over;
      changed = stood.changed;
      flip = stood.flip;
    }

pub follow_put_in-requires-clause-room : goal.follow_put_in-requires-clause-room
follow_put_in-requires-clause-room c = λ none.
    let dimm = dimm_at c.args.modules.now c.args.seat in
    let at = c.loop-kept.kept-index in
    subst (HasRoomFor dimm) (sym (c.loop-kept.invariant.ahead at c.kept-item.result (omega arith)))
    (c.requires.room none at c.kept-item.result c.loop-kept-test.true)

pub loop-kept-preserved : goal.loop-kept-preserved
loop-kept-preserved c =
    changed-next (HasFollowed c.args.modules.now (room_after_put (dimm_at c.args.modules.now c.args.seat) c.args.lost.now))
    c.args.regions.now c.loop-kept.regions c.loop-kept.kept-index c.follow_put_in.new.kept c.loop-kept-test.true
    c.loop-kept.invariant c.kept-item.result (record { over = c.follow_put_in.ensures.over; kept = c.follow_put_in.ensures.kept })

pub returns-clause-over : goal.returns-clause-over
returns-clause-over c =
    let room = room_after_put (dimm_at c.args.modules.now c.args.seat) c.args.lost.now in
    let end : c.loop-kept.kept-index ≡ length c.args.regions.now = omega arith in
    followed-over c.args.modules.now room c.args.regions.now c.loop-kept.regions
    (subst (λ n. AreChanged (HasFollowed c.args.modules.now room) c.args.regions.now n c.loop-kept.regions) end c.loop-kept.invariant)

pub returns-clause-kept : goal.returns-clause-kept
returns-clause-kept c =
    let room = room_after_put (dimm_at c.args.modules.now c.args.seat) c.args.lost.now in
    let end : c.loop-kept.kept-index ≡ length c.args.regions.now = omega arith in
    followed-kept c.args.modules.now room c.args.regions.now c.loop-kept.regions
    (subst (λ n. AreChanged (HasFollowed c.args.modules.now room) c.args.regions.now n c.loop-kept.regions) end c.loop-kept.invariant)
