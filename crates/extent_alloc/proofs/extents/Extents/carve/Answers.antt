use Rattle.std.proofs.Common.{◌≡◌, ◌+◌, ◌-◌, ap, ◌∙◌, subst, refl, arith}
use Rattle.view_types.specs.declared.extents.Extent.{Extent}
use Rattle.view_types.specs.Intervals.{AllFree, AreMaximal, end_of, is_free, without_range}
use Rattle.extent_alloc.specs.Chains.{extents_of}
use Rattle.extent_alloc.specs.Free.{FreeSpace}
use Rattle.extent_alloc.proofs.Carving.{IsFound, found, carved, some_reached}
use Rattle.extent_alloc.proofs.Passing.{some_here}
use Rattle.extent_alloc.proofs.extents.Extents.carve.Goals as goal

pub unwrap-found-requires : goal.unwrap-found-requires
unwrap-found-requires g c =
    let space = c.self.inside in
    let s = c.args.start in
    let n = c.args.len in
    let free : AllFree (is_free (extents_of space.chain.links)) s n = λ o ge lt. ap (λ (f : FreeSpace). is_free f.extents o) c.self.view_is ∙ c.requires.free o ge lt in
    some_reached space.chain.links s n c.cut_at-cut.result c.requires.some free c.cut_at-cut.ensures.cut

pub overflow_add-end : goal.overflow_add-end
overflow_add-end g c =
    let space = c.self.inside in
    let s = c.args.start in
    let n = c.args.len in
    let free : AllFree (is_free (extents_of space.chain.links)) s n = λ o ge lt. ap (λ (f : FreeSpace). is_free f.extents o) c.self.view_is ∙ c.requires.free o ge lt in
    let l = c.unwrap-found.result in
    let f : IsFound space.whole space.chain.links s n l =
    found space.whole space.chain.links s n c.cut_at-cut.result l c.requires.some c.self.invariant.ascend free c.cut_at-cut.ensures.cut c.unwrap-found.ensures in
    omega (arith, f.inside.ends, f.ends, c.self.invariant.bound)

pub overflow_sub-left : goal.overflow_sub-left
overflow_sub-left g c =
    let space = c.self.inside in
    let s = c.args.start in
    let n = c.args.len in
    let free : AllFree (is_free (extents_of space.chain.links)) s n = λ o ge lt. ap (λ (f : FreeSpace). is_free f.extents o) c.self.view_is ∙ c.requires.free o ge lt in
    let l = c.unwrap-found.result in
    let f : IsFound space.whole space.chain.links s n l =
    found space.whole space.chain.links s n c.cut_at-cut.result l c.requires.some c.self.invariant.ascend free c.cut_at-cut.ensures.cut c.unwrap-found.ensures in
    f.inside.starts

pub end-requires : goal.end-requires
end-requires g c =
    let space = c.self.inside in
    let s = c.args.start in
    let n = c.args.len in
    let free : AllFree (is_free (extents_of space.chain.links)) s n = λ o ge lt. ap (λ (f : FreeSpace). is_free f.extents o) c.self.view_is ∙ c.requires.free o ge lt in
    let l = c.unwrap-found.result in
    let f : IsFound space.whole space.chain.links s n l =
    found space.whole space.chain.links s n c.cut_at-cut.result l c.requires.some c.self.invariant.ascend free c.cut_at-cut.ensures.cut c.unwrap-found.ensures in
    omega (arith, f.ends, c.self.invariant.bound)

pub overflow_sub-right : goal.overflow_sub-right
overflow_sub-right g c =
    let space = c.self.inside in
    let s = c.args.start in
    let n = c.args.len in
    let free : AllFree (is_free (extents_of space.chain.links)) s n = λ o ge lt. ap (λ (f : FreeSpace). is_free f.extents o) c.self.view_is ∙ c.requires.free o ge lt in
    let l = c.unwrap-found.result in
    let f : IsFound space.whole space.chain.links s n l =
    found space.whole space.chain.links s n c.cut_at-cut.result l c.requires.some c.self.invariant.ascend free c.cut_at-cut.ensures.cut c.unwrap-found.ensures in
    omega (arith, f.inside.ends, c.end.ensures)

pub replace-requires-clause-in_use : goal.replace-requires-clause-in_use
replace-requires-clause-in_use g c =
    let space = c.self.inside in
    let s = c.args.start in
    let n = c.args.len in
    let free : AllFree (is_free (extents_of space.chain.links)) s n = λ o ge lt. ap (λ (f : FreeSpace). is_free f.extents o) c.self.view_is ∙ c.requires.free o ge lt in
    let l = c.unwrap-found.result in
    let f : IsFound space.whole space.chain.links s n l =
    found space.whole space.chain.links s n c.cut_at-cut.result l c.requires.some c.self.invariant.ascend free c.cut_at-cut.ensures.cut c.unwrap-found.ensures in
    some_here l.at l.extent space.chain.links f.done f.rest f.is

pub invariant_of-self : goal.invariant_of-self
invariant_of-self g c =
    let space = c.self.inside in
    let s = c.args.start in
    let n = c.args.len in
    let free : AllFree (is_free (extents_of space.chain.links)) s n = λ o ge lt. ap (λ (f : FreeSpace). is_free f.extents o) c.self.view_is ∙ c.requires.free o ge lt in
    let l = c.unwrap-found.result in
    let f : IsFound space.whole space.chain.links s n l =
    found space.whole space.chain.links s n c.cut_at-cut.result l c.requires.some c.self.invariant.ascend free c.cut_at-cut.ensures.cut c.unwrap-found.ensures in
    let left : Extent = record { start = l.extent.start; len = s - l.extent.start } in
    let right : Extent = record { start = s + n; len = c.end.result - (s + n) } in
    let right_is : right ≡ record { start = s + n; len = end_of l.extent - (s + n) } = λ i. record { start = s + n; len = c.end.ensures i - (s + n) } in
    let new : AreMaximal space.whole (without_range (is_free (extents_of space.chain.links)) s n) (extents_of c.replace.new.chain.links) =
    carved space.whole space.chain.links f.done f.rest l.extent left right l.at s n (extents_of c.replace.new.chain.links) c.requires.some c.self.invariant.ascend
    f.is f.passed f.inside refl right_is (c.replace.ensures.extents f.done f.rest l.extent f.is) in
    record { ascend = new.ascend; bound = c.self.invariant.bound }

pub returns-clause-carved : goal.returns-clause-carved
returns-clause-carved g c =
    let space = c.self.inside in
    let s = c.args.start in
    let n = c.args.len in
    let free : AllFree (is_free (extents_of space.chain.links)) s n = λ o ge lt. ap (λ (f : FreeSpace). is_free f.extents o) c.self.view_is ∙ c.requires.free o ge lt in
    let l = c.unwrap-found.result in
    let f : IsFound space.whole space.chain.links s n l =
    found space.whole space.chain.links s n c.cut_at-cut.result l c.requires.some c.self.invariant.ascend free c.cut_at-cut.ensures.cut c.unwrap-found.ensures in
    let left : Extent = record { start = l.extent.start; len = s - l.extent.start } in
    let right : Extent = record { start = s + n; len = c.end.result - (s + n) } in
    let right_is : right ≡ record { start = s + n; len = end_of l.extent - (s + n) } = λ i. record { start = s + n; len = c.end.ensures i - (s + n) } in
    let new : AreMaximal space.whole (without_range (is_free (extents_of space.chain.links)) s n) (extents_of c.replace.new.chain.links) =
    carved space.whole space.chain.links f.done f.rest l.extent left right l.at s n (extents_of c.replace.new.chain.links) c.requires.some c.self.invariant.ascend
    f.is f.passed f.inside refl right_is (c.replace.ensures.extents f.done f.rest l.extent f.is) in
    subst (λ (v : FreeSpace). AreMaximal v.whole (without_range (is_free v.extents) s n) (extents_of c.replace.new.chain.links)) c.self.view_is new
