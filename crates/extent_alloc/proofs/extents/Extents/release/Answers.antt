use Rattle.std.proofs.Common.{ap, ◌∙◌, subst, arith}
use Rattle.view_types.specs.Intervals.{NoneFree, AreMaximal, is_free, with_range}
use Rattle.extent_alloc.specs.Chains.{extents_of}
use Rattle.extent_alloc.specs.Free.{FreeSpace}
use Rattle.extent_alloc.proofs.Releasing.{released}
use Rattle.extent_alloc.proofs.extents.Extents.release.Goals as goal

pub invariant_of-self : goal.invariant_of-self
invariant_of-self g c =
    let space = c.self.inside in
    let s = c.args.start in
    let n = c.args.len in
    let none : NoneFree (is_free (extents_of space.chain.links)) s n = λ o ge lt. ap (λ (f : FreeSpace). is_free f.extents o) c.self.view_is ∙ c.requires.taken o ge lt in
    let inside = ap (λ (f : FreeSpace). f.whole) c.self.view_is in
    let cut = c.cut_at-cut.ensures.cut in
    let new : AreMaximal space.whole (with_range (is_free (extents_of space.chain.links)) s n) (extents_of c.put.new.chain.links) =
    released space.whole space.chain.links cut.done cut.rest s n (extents_of c.put.new.chain.links) c.requires.some (omega (arith, inside, c.requires.inside)) c.self.invariant.ascend
    cut.is cut.passed cut.reached none (c.put.ensures.extents cut.done cut.rest cut.is cut.before cut.after) in
    record { ascend = new.ascend; bound = c.self.invariant.bound }

pub returns-clause-released : goal.returns-clause-released
returns-clause-released g c =
    let space = c.self.inside in
    let s = c.args.start in
    let n = c.args.len in
    let none : NoneFree (is_free (extents_of space.chain.links)) s n = λ o ge lt. ap (λ (f : FreeSpace). is_free f.extents o) c.self.view_is ∙ c.requires.taken o ge lt in
    let inside = ap (λ (f : FreeSpace). f.whole) c.self.view_is in
    let cut = c.cut_at-cut.ensures.cut in
    let new : AreMaximal space.whole (with_range (is_free (extents_of space.chain.links)) s n) (extents_of c.put.new.chain.links) =
    released space.whole space.chain.links cut.done cut.rest s n (extents_of c.put.new.chain.links) c.requires.some (omega (arith, inside, c.requires.inside)) c.self.invariant.ascend
    cut.is cut.passed cut.reached none (c.put.ensures.extents cut.done cut.rest cut.is cut.before cut.after) in
    subst (λ (v : FreeSpace). AreMaximal v.whole (with_range (is_free v.extents) s n) (extents_of c.put.new.chain.links)) c.self.view_is new
