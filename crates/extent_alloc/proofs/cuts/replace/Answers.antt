use Rattle.std.proofs.Common.{◌≡◌, ◌<◌, ◌∷◌, [], sym, ap, ◌∙◌, subst, refl, arith}
use Rattle.extent_alloc.specs.declared.pool.Link.{Link}
use Rattle.extent_alloc.specs.Chains.{extents_of, times, unwind}
use Rattle.extent_alloc.specs.Free.{kept}
use Rattle.extent_alloc.proofs.Unwinding.{Cut, cut_from, extents_of-unwind}
use Rattle.extent_alloc.proofs.Passing.{some_here}
use Rattle.extent_alloc.proofs.Placing.{kept-empty, kept-some}
use Rattle.extent_alloc.proofs.cuts.replace.Goals as goal

pub insert_after-requires-clause-before : goal.insert_after-requires-clause-before
insert_after-requires-clause-before g c k e =
    let at = c.args.at in
    let cut : Cut at c.args.chain.now.links = cut_from at [] c.args.chain.now.links c.requires.in_use in
    let same : at ≡ k = cc in
    subst (λ j. 0 < times j c.set_extent-in_default.new.self.links) same
    (some_here at c.args.left c.set_extent-in_default.new.self.links cut.done cut.rest (c.set_extent-in_default.ensures.links cut.done cut.rest cut.extent cut.is))

pub returns-in-0-eq0-clause-extents : goal.returns-in-0-eq0-clause-extents
returns-in-0-eq0-clause-extents g c done rest e is =
    ap extents_of (c.remove.ensures.links done rest e is) ∙ extents_of-unwind done rest
    ∙ ap (unwind (extents_of done)) (sym (kept-empty c.args.left (kept c.args.right (extents_of rest)) c.in-0-eq0.is-0 ∙ kept-empty c.args.right (extents_of rest) c.in-0-eq0.is-1))

pub returns-in-0-default-clause-extents : goal.returns-in-0-default-clause-extents
returns-in-0-default-clause-extents g c done rest e is =
    ap extents_of (c.set_extent.ensures.links done rest e is) ∙ extents_of-unwind done (record { at = c.args.at; extent = c.args.right } ∷ rest)
    ∙ ap (unwind (extents_of done)) (sym (kept-empty c.args.left (kept c.args.right (extents_of rest)) c.in-0-default.is-0
    ∙ kept-some c.args.right (extents_of rest) (omega (arith, c.in-0-default.is-1))))

pub returns-in_default-eq0-clause-extents : goal.returns-in_default-eq0-clause-extents
returns-in_default-eq0-clause-extents g c done rest e is =
    ap extents_of (c.set_extent-in_default-eq0.ensures.links done rest e is) ∙ extents_of-unwind done (record { at = c.args.at; extent = c.args.left } ∷ rest)
    ∙ ap (unwind (extents_of done)) (sym (kept-some c.args.left (kept c.args.right (extents_of rest)) (omega (arith, c.in_default-eq0.is-0))
    ∙ ap (λ es. c.args.left ∷ es) (kept-empty c.args.right (extents_of rest) c.in_default-eq0.is-1)))

pub returns-in_default-clause-extents : goal.returns-in_default-clause-extents
returns-in_default-clause-extents g c done rest e is =
    let link : Link = record { at = c.args.at; extent = c.args.left } in
    c.insert_after.ensures.extents (link ∷ done) rest (c.set_extent-in_default.ensures.links done rest e is) refl
    ∙ ap (unwind (extents_of done)) (sym (kept-some c.args.left (kept c.args.right (extents_of rest)) (omega (arith, c.in_default.is-0))
    ∙ ap (λ es. c.args.left ∷ es) (kept-some c.args.right (extents_of rest) (omega (arith, c.in_default.is-1)))))
