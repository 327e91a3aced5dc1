use Rattle.std.proofs.Common.{◌≡◌, length, ap, subst, arith}
use Rattle.region_labels.proofs.Walked.{gained-all, gained-next, gained-none, HasGained}
use Rattle.region_labels.proofs.member_positions.gain.Goals as goal

pub loop-position-init : goal.loop-position-init
loop-position-init c = gained-none c.args.dimm c.args.gained.now c.args.kept.now

pub loop-position-preserved : goal.loop-position-preserved
loop-position-preserved c =
    let done = c.loop-position.invariant in
    let len : length c.loop-position.kept.region.members ≡ length c.args.kept.now.region.members = ap (λ r. length r.members) done.region in
    gained-next c.args.dimm c.args.gained.now c.loop-position.position c.args.kept.now c.loop-position.kept c.gain_at.new.kept
    (omega (arith, c.loop-position-test.true, c.len-position-end.ensures, len))
    done c.gain_at.ensures.region c.gain_at.ensures.seats c.gain_at.ensures.room c.gain_at.ensures.index

pub returns-clause-index : goal.returns-clause-index
returns-clause-index c =
    let end : c.loop-position.position ≡ length c.args.kept.now.region.members =
    omega (arith, c.loop-position-test.false, c.loop-position.auto.position-end, c.len-position-end.ensures) in
    gained-all c.args.dimm c.args.gained.now c.args.kept.now c.loop-position.kept
    (subst (λ at. HasGained c.args.dimm c.args.gained.now at c.args.kept.now c.loop-position.kept) end c.loop-position.invariant)
