use Rattle.std.proofs.Common.{◌≡◌, length, ap, subst, arith}
use Rattle.region_labels.proofs.Walked.{lost-all, lost-next, lost-none, HasLostBelow}
use Rattle.region_labels.proofs.member_positions.lose.Goals as goal

pub loop-position-init : goal.loop-position-init
loop-position-init c = lost-none c.args.dimm c.args.lost.now c.args.kept.now

pub loop-position-preserved : goal.loop-position-preserved
loop-position-preserved c =
    let done = c.loop-position.invariant in
    let len : length c.loop-position.kept.region.members ≡ length c.args.kept.now.region.members = ap (λ r. length r.members) done.region in
    lost-next c.args.dimm c.args.lost.now c.loop-position.position c.args.kept.now c.loop-position.kept c.lose_at.new.kept
    (omega (arith, c.loop-position-test.true, c.len-position-end.ensures, len))
    done c.lose_at.ensures.region c.lose_at.ensures.seats c.lose_at.ensures.index

pub returns : goal.returns
returns c =
    let end : c.loop-position.position ≡ length c.args.kept.now.region.members =
    omega (arith, c.loop-position-test.false, c.loop-position.auto.position-end, c.len-position-end.ensures) in
    record {
      region = c.loop-position.invariant.region;
      seats = c.loop-position.invariant.seats;
      index = lost-all c.args.dimm c.args.lost.now c.args.kept.now c.loop-position.kept
          (subst (λ at. HasLostBelow c.args.dimm c.args.lost.now at c.args.kept.now c.loop-position.kept) end c.loop-position.invariant);
    }
