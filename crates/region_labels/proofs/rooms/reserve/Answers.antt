use Rattle.std.proofs.Common.{◌≡◌, length, subst, arith}
use Rattle.region_labels.proofs.Looped.{AreChanged, changed-next, changed-none}
use Rattle.region_labels.proofs.Reserved.{IsReserved, refused-kept, reserved-kept, reserved-room, zip-over}
use Rattle.region_labels.proofs.rooms.reserve.Goals as goal

pub loop-kept-init : goal.loop-kept-init
loop-kept-init c = changed-none IsReserved c.args.regions.now

pub loop-kept-preserved : goal.loop-kept-preserved
loop-kept-preserved c =
    changed-next IsReserved c.args.regions.now c.loop-kept.regions c.loop-kept.kept-index c.reserve_in.new.kept
    c.loop-kept-test.true c.loop-kept.invariant c.kept-item.result (record { kept = c.in_ok-reserve_in.ensures.kept; room = c.in_ok-reserve_in.ensures.room })

pub returns-clause-room : goal.returns-clause-room
returns-clause-room c =
    let end : c.loop-kept.kept-index ≡ length c.args.regions.now = omega arith in
    reserved-room c.args.regions.now c.loop-kept.regions
    (subst (λ n. AreChanged IsReserved c.args.regions.now n c.loop-kept.regions) end c.loop-kept.invariant)

pub returns-clause-kept : goal.returns-clause-kept
returns-clause-kept c =
    let end : c.loop-kept.kept-index ≡ length c.args.regions.now = omega arith in
    reserved-kept c.args.regions.now c.loop-kept.regions
    (subst (λ n. AreChanged IsReserved c.args.regions.now n c.loop-kept.regions) end c.loop-kept.invariant)

pub returns-clause-over : goal.returns-clause-over
returns-clause-over c =
    let end : c.loop-kept.kept-index ≡ length c.args.regions.now = omega arith in
    zip-over c.args.regions.now c.loop-kept.regions (reserved-kept c.args.regions.now c.loop-kept.regions
    (subst (λ n. AreChanged IsReserved c.args.regions.now n c.loop-kept.regions) end c.loop-kept.invariant))

pub returns-in_err-reserve_in-clause-kept : goal.returns-in_err-reserve_in-clause-kept
returns-in_err-reserve_in-clause-kept c =
    refused-kept c.args.regions.now c.loop-kept.regions c.loop-kept.kept-index c.reserve_in.new.kept
    c.loop-kept-test.true c.loop-kept.invariant c.kept-item.result c.in_err-reserve_in.ensures.kept

pub returns-in_err-reserve_in-clause-over : goal.returns-in_err-reserve_in-clause-over
returns-in_err-reserve_in-clause-over c =
    zip-over c.args.regions.now _ (refused-kept c.args.regions.now c.loop-kept.regions c.loop-kept.kept-index
    c.reserve_in.new.kept c.loop-kept-test.true c.loop-kept.invariant c.kept-item.result c.in_err-reserve_in.ensures.kept)
