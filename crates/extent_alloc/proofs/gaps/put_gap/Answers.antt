use Rattle.std.proofs.Common.{min, sym, ap, ◌∙◌, subst, arith}
use Rattle.extent_alloc.specs.Chains.{extents_of}
use Rattle.extent_alloc.specs.Free.{kept}
use Rattle.extent_alloc.specs.Gaps.{AreFoundFrom}
use Rattle.extent_alloc.proofs.Sweeping.{empty_passed, gap_put}
use Rattle.extent_alloc.proofs.gaps.put_gap.Goals as goal

pub returns-then-range-eq0-clause-found : goal.returns-then-range-eq0-clause-found
returns-then-range-eq0-clause-found c whole ranges left few h =
    empty_passed c.args.end whole ranges left c.args.range (extents_of c.args.chain.now.links) c.if-range-eq0.true h

pub returns-clause-found : goal.returns-clause-found
returns-clause-found c whole ranges left few h =
    let es = extents_of c.args.chain.now.links in
    let from = c.saturating_add-start.result in
    let put = gap_put c.args.end whole ranges left c.args.range es from few (omega (arith, c.if-range-eq0.false)) c.saturating_add-start.ensures h in
    let now = c.in_ok-put_front.ensures.extents ∙ ap (λ n. kept (record { start = from; len = n }) es) c.saturating_sub-len.ensures in
    rw c.min.ensures (subst (AreFoundFrom (min c.args.range.start c.args.end) whole ranges left) (sym now) put)
