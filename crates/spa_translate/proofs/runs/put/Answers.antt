use Rattle.std.proofs.Common.{arith}
use Rattle.spa_translate.proofs.Putting.{put_behind, put_joined, put_none}
use Rattle.spa_translate.proofs.runs.put.Goals as goal

pub returns-then-len-eq0 : goal.returns-then-len-eq0
returns-then-len-eq0 c = put_none c.args.extents.now.items c.args.start c.args.len c.if-len-eq0.true

pub returns-in_ok-push-in-Some-joined : goal.returns-in_ok-push-in-Some-joined
returns-in_ok-push-in-Some-joined c =
    rw (c.in-Some.ensures.items, c.in_ok-push-in-Some-joined.ensures.items, c.in-Some-joined.ensures.1)
    (put_joined c.pop.new.self.items c.in-Some.last c.args.start c.args.len c.in-Some-joined.ensures.0)

pub returns-in_ok-push-in-None-joined-2 : goal.returns-in_ok-push-in-None-joined-2
returns-in_ok-push-in-None-joined-2 c =
    rw (c.in-Some.ensures.items, c.in_ok-push-in-None-joined-2.ensures.items, c.in_ok-push-in-None-joined.ensures.items)
    (put_behind c.pop.new.self.items c.in-Some.last c.args.start c.args.len c.in-None-joined.ensures (omega (arith, c.if-len-eq0.false)))
