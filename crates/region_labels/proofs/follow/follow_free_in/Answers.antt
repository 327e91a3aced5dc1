use Rattle.std.proofs.Common.{◌≡◌, ◌<◌, ◌+◌, ◌*◌, [], length, get_or, subst, sym, arith}
use Rattle.std.proofs.lemmas.List.{get_or_default}
use Rattle.region_labels.specs.declared.by_slot.SlotLabel.{SlotLabel}
use Rattle.region_labels.specs.Changes.{dimm_at}
use Rattle.region_labels.specs.Followed.{FollowsLoss}
use Rattle.region_labels.specs.Rooms.{position_count}
use Rattle.region_labels.proofs.ChangedModules.{dimm-at}
use Rattle.region_labels.proofs.Follows.{HasFreed, freed-all, freed-next, freed-none}
use Rattle.region_labels.proofs.follow.follow_free_in.Goals as goal

abbrev no_label : SlotLabel
no_label = record { uuid = []; slot = 0 }

pub loop-one-init : goal.loop-one-init
loop-one-init c = freed-none c.args.modules.now c.args.seat c.args.lost.now c.args.kept.now

pub loop-one-preserved : goal.loop-one-preserved
loop-one-preserved c =
    let modules = c.args.modules.now in
    let seat = c.args.seat in
    let lt : seat < length modules = subst (λ n. seat < n) (sym c.requires.changed.each) c.requires.changed.within in
    let same = dimm-at modules seat c.index-modules-seat.result lt in
    let one = get_or c.args.lost.now c.loop-one.one-index no_label in
    freed-next modules seat c.args.lost.now c.loop-one.one-index
    one c.args.kept.now c.loop-one.kept c.lose.new.kept c.loop-one-test.true
    (get_or_default c.args.lost.now c.loop-one.one-index no_label one c.loop-one-test.true) c.loop-one.invariant
    c.lose.ensures.region c.lose.ensures.seats
    (subst (λ dimm. FollowsLoss dimm one c.loop-one.kept c.lose.new.kept) (sym same) c.lose.ensures.index)

pub returns-clause-over : goal.returns-clause-over
returns-clause-over c =
    let end : c.loop-one.one-index ≡ length c.args.lost.now = omega (arith, c.loop-one-test.false, c.loop-one.auto.one-index-end) in
    freed-all c.args.modules.now c.args.seat c.args.lost.now c.args.kept.now c.loop-one.kept c.requires
    (subst (λ n. HasFreed c.args.modules.now c.args.seat c.args.lost.now n c.args.kept.now c.loop-one.kept) end c.loop-one.invariant)

pub returns-clause-kept : goal.returns-clause-kept
returns-clause-kept c =
    let end : c.loop-one.one-index ≡ length c.args.lost.now = omega (arith, c.loop-one-test.false, c.loop-one.auto.one-index-end) in
    let done = c.loop-one.invariant in
    record {
      region = done.region;
      seats = done.seats;
      room_is = subst (λ n. c.loop-one.kept.index.room ≡ c.args.kept.now.index.room
          + n * position_count (dimm_at c.args.modules.now c.args.seat) c.args.kept.now.region) end (done.index c.requires).room;
    }
