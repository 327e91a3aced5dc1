use Rattle.std.proofs.Common.{◌<◌, None, length, sym, subst}
use Rattle.region_labels.specs.Followed.{FollowsGain, LosesIfAny}
use Rattle.region_labels.specs.Rooms.{HasRoomFor, KeepsRegion, room_after_put}
use Rattle.region_labels.proofs.ChangedModules.{dimm-at}
use Rattle.region_labels.proofs.Follows.{put-kept, put-over, put-room}
use Rattle.region_labels.proofs.follow.follow_put_in.Goals as goal

pub gain-requires : goal.gain-requires
gain-requires c =
    let modules = c.args.modules.now in
    let seat = c.args.seat in
    let changed = c.requires.put.changed in
    let lt : seat < length modules = subst (λ n. seat < n) (sym changed.each) changed.within in
    let same = dimm-at modules seat c.index-modules-seat.result lt in
    subst (λ dimm. HasRoomFor dimm c.lose_if_any.new.kept) same
    (put-room modules seat c.args.gained.now c.args.kept.now c.args.lost.now c.lose_if_any.new.kept c.requires.put c.requires.room
    (subst (λ dimm. LosesIfAny dimm c.args.lost.now c.args.kept.now c.lose_if_any.new.kept) (sym same) c.lose_if_any.ensures))

pub returns-clause-over : goal.returns-clause-over
returns-clause-over c =
    let modules = c.args.modules.now in
    let seat = c.args.seat in
    let changed = c.requires.put.changed in
    let lt : seat < length modules = subst (λ n. seat < n) (sym changed.each) changed.within in
    let same = dimm-at modules seat c.index-modules-seat.result lt in
    put-over modules seat c.args.gained.now c.args.kept.now c.args.lost.now c.lose_if_any.new.kept c.gain.new.kept c.requires.put
    (subst (λ dimm. LosesIfAny dimm c.args.lost.now c.args.kept.now c.lose_if_any.new.kept) (sym same) c.lose_if_any.ensures)
    c.gain.ensures.kept.region c.gain.ensures.kept.seats
    (subst (λ dimm. FollowsGain dimm c.args.gained.now c.lose_if_any.new.kept c.gain.new.kept) (sym same) c.gain.ensures.index)

pub returns-clause-kept : goal.returns-clause-kept
returns-clause-kept c =
    let modules = c.args.modules.now in
    let seat = c.args.seat in
    let changed = c.requires.put.changed in
    let lt : seat < length modules = subst (λ n. seat < n) (sym changed.each) changed.within in
    let same = dimm-at modules seat c.index-modules-seat.result lt in
    put-kept modules seat c.args.gained.now c.args.kept.now c.args.lost.now c.lose_if_any.new.kept c.gain.new.kept c.requires.put
    (subst (λ dimm. LosesIfAny dimm c.args.lost.now c.args.kept.now c.lose_if_any.new.kept) (sym same) c.lose_if_any.ensures)
    (subst (λ dimm. KeepsRegion (room_after_put dimm None) c.lose_if_any.new.kept c.gain.new.kept) (sym same) c.gain.ensures.kept)
