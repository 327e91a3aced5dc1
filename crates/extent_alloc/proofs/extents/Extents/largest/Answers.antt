use Rattle.std.proofs.Common.{◌≡◌, ◌+◌, ◌∷◌, sym, ap, ◌∙◌, subst, arith}
use Rattle.view_types.specs.Intervals.{Ascend, greatest_aligned, end_of}
use Rattle.view_types.proofs.Intervals.{ascend_from}
use Rattle.extent_alloc.specs.Chains.{extents_of}
use Rattle.extent_alloc.specs.Free.{FreeSpace}
use Rattle.extent_alloc.proofs.extents.Extents.largest.Goals as goal

pub loop-extent-init : goal.loop-extent-init
loop-extent-init c =
    let given = c.into_iter-extent-iterator.ensures.into_iter_gives ∙ c.iter-extent-items.ensures in
    let extents : extents_of c.self.inside.chain.links ≡ c.args.self.now.extents = ap (λ (f : FreeSpace). f.extents) c.self.view_is in
    let whole : c.self.inside.whole ≡ c.args.self.now.whole = ap (λ (f : FreeSpace). f.whole) c.self.view_is in
    let all = ap (greatest_aligned c.args.align) (given ∙ extents) in
    record {
      ascend = subst (λ w. Ascend 0 w c.into_iter-extent-iterator.result) whole (subst (Ascend 0 c.self.inside.whole) (sym given) c.self.invariant.ascend);
      bound = omega (arith, whole, c.self.invariant.bound);
      greatest = omega (arith, all);
    }

pub loop-extent-preserved : goal.loop-extent-preserved
loop-extent-preserved c =
    let was : c.loop-extent.extent-iterator ≡ c.in-Some.extent ∷ c.next.new.self = c.in-Some.ensures.steps in
    let now = c.loop-extent.invariant in
    let up = subst (Ascend 0 c.args.self.now.whole) was now.ascend in
    let next = ap (greatest_aligned c.args.align) was in
    record {
      ascend = ascend_from 0 (end_of c.in-Some.extent + 1) c.args.self.now.whole c.next.new.self (omega arith) up.3;
      bound = now.bound;
      greatest = omega (arith, now.greatest, next, c.aligned_len.ensures, c.max-largest.ensures);
    }
