use Rattle.std.proofs.Common.{◌+◌, ◌-◌, ◌<◌, max, min, arith}
use Rattle.spa_translate.specs.Runs.{AreUpTo, IsPutAt}
use Rattle.spa_translate.proofs.Reaching.{cut_none, cut_to}
use Rattle.spa_translate.proofs.Running.{ok_then}
use Rattle.spa_translate.proofs.runs.put_cut.Goals as goal

pub returns-then-from-to : goal.returns-then-from-to
returns-then-from-to c = λ woven a are line.
    let lo = max c.args.address c.args.spa in
    let hi = min (c.args.address + c.args.width) (c.args.spa + c.args.length) in
    let old = c.args.extents.now.items in
    let new = c.put.new.extents.items in
    let below : lo < hi = rw (← c.max-from.ensures, ← c.min-to.ensures) c.if-from-to.true in
    ok_then c.put.result (IsPutAt old (c.args.d + (c.max-from.result - c.args.address)) (c.min-to.result - c.max-from.result) new) (AreUpTo woven c.args.spa c.args.length a (c.args.d + c.args.width) new) c.put.ensures
    (λ put.
    let here : IsPutAt old (c.args.d + (lo - c.args.address)) (hi - lo) new = rw (← c.max-from.ensures, ← c.min-to.ensures) put in
    cut_to woven c.args.spa c.args.length a c.args.d c.args.width c.args.address old new are line here (omega (arith, below)))

pub returns-else-from-to : goal.returns-else-from-to
returns-else-from-to c = λ woven a are line.
    cut_none woven c.args.spa c.args.length a c.args.d c.args.width c.args.address c.args.extents.now.items are line (rw (← c.max-from.ensures, ← c.min-to.ensures) c.if-from-to.false)
