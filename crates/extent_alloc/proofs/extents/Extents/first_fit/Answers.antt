use Rattle.std.proofs.Common.{sym, ◌∙◌, subst}
use Rattle.extent_alloc.specs.Fits.{IsLeft}
use Rattle.extent_alloc.specs.Chains.{extents_of}
use Rattle.extent_alloc.specs.Free.{FreeSpace}
use Rattle.extent_alloc.proofs.Fitting.{all_left, left_others, first_fit}
use Rattle.extent_alloc.proofs.extents.Extents.first_fit.Goals as goal

pub loop-extent-init : goal.loop-extent-init
loop-extent-init c =
    let given = c.into_iter-extent-iterator.ensures.into_iter_gives ∙ c.iter-extent-items.ensures in
    subst (λ (f : FreeSpace). IsLeft f.whole f.extents c.into_iter-extent-iterator.result c.args.len c.args.align) c.self.view_is
    (subst (λ es. IsLeft c.self.inside.whole (extents_of c.self.inside.chain.links) es c.args.len c.args.align) (sym given)
    (all_left c.self.inside.whole (extents_of c.self.inside.chain.links) c.args.len c.args.align c.self.invariant.ascend c.self.invariant.bound))

pub loop-extent-preserved : goal.loop-extent-preserved
loop-extent-preserved c =
    let now = subst (λ es. IsLeft c.args.self.now.whole c.args.self.now.extents es c.args.len c.args.align) c.in-Some.ensures.steps c.loop-extent.invariant in
    left_others c.args.self.now.whole c.args.self.now.extents c.next.new.self c.in-Some.extent c.args.len c.args.align c.requires.some now c.in_default.ensures.none

pub returns-in-Some-fit_in-clause-found : goal.returns-in-Some-fit_in-clause-found
returns-in-Some-fit_in-clause-found c =
    let now = subst (λ es. IsLeft c.args.self.now.whole c.args.self.now.extents es c.args.len c.args.align) c.in-Some.ensures.steps c.loop-extent.invariant in
    first_fit c.args.self.now.whole c.args.self.now.extents c.next.new.self c.in-Some.extent c.args.len c.args.align c.requires.some now
    c.in-Some-fit_in.start c.in-Some-fit_in.ensures.fit
