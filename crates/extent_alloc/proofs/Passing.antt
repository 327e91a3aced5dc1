-- A walk along a chain: what is passed, and what comes next.
use Rattle.std.proofs.Common.{◌≡◌, ℕ, ◌+◌, ◌<◌, ◌≤◌, List, [], ◌∷◌, Option, Some, sym, ap, ◌∙◌, subst, arith}
use Rattle.view_types.specs.declared.extents.Extent.{Extent}
use Rattle.view_types.specs.Intervals.{end_of, Ascend}
use Rattle.view_types.proofs.Intervals.{ascend_from}
use Rattle.extent_alloc.specs.declared.pool.Node.{Node}
use Rattle.extent_alloc.specs.declared.pool.Link.{Link}
use Rattle.extent_alloc.specs.Chains.{first_at, times, unwind, extents_of}
use Rattle.extent_alloc.specs.Cuts.{IsPassing}
use Rattle.extent_alloc.proofs.Chains.{times-here}
use Rattle.extent_alloc.proofs.Unwinding.{times-unwind, extents_of-unwind}

-- the first of some links, where its index is known
pub record First (at : ℕ) (rest : List Link) : Type 0 where
  pub extent : Extent
  pub later : List Link
  pub is : rest ≡ record { at = at; extent = extent } ∷ later

pub first_link : (at : ℕ) (rest : List Link) → first_at rest ≡ Some at → First at rest
first_link at [] e = absurd cc
first_link at (l ∷ ls) e =
    let same : l.at ≡ at = cc in
    record { extent = l.extent; later = ls; is = λ i. record { at = same i; extent = l.extent } ∷ ls }

-- what stands ahead in an ascending list ascends
pub ascend_ahead : (from whole : ℕ) (done rest : List Extent) → Ascend from whole (unwind done rest) → Ascend 0 whole rest
ascend_ahead from whole [] rest up = ascend_from 0 from whole rest (omega arith) up
ascend_ahead from whole (d ∷ done) rest up =
    let here : Ascend 0 whole (d ∷ rest) = ascend_ahead from whole done (d ∷ rest) up in
    ascend_from 0 (end_of d + 1) whole rest (omega arith) here.3

pub ends_inside : (whole : ℕ) (links done rest : List Link) (l : Link) → Ascend 0 whole (extents_of links) → links ≡ unwind done (l ∷ rest) → end_of l.extent ≤ whole
ends_inside whole links done rest l up is =
    let ahead : Ascend 0 whole (l.extent ∷ extents_of rest) =
    ascend_ahead 0 whole (extents_of done) (l.extent ∷ extents_of rest)
    (subst (Ascend 0 whole) (ap extents_of is ∙ extents_of-unwind done (l ∷ rest)) up) in
    ahead.2

pub some_here : (at : ℕ) (e : Extent) (links done rest : List Link) → links ≡ unwind done (record { at = at; extent = e } ∷ rest) → 0 < times at links
some_here at e links done rest is =
    let link : Link = record { at = at; extent = e } in
    omega (arith, ap (times at) is, times-unwind at done (link ∷ rest), times-here link rest)

-- the link that comes next on the way
module _ (links : List Link) (offset from steps : ℕ) (before : Option Link) (next : Option ℕ) (at : ℕ) (way : IsPassing links offset from steps before next) (e : next ≡ Some at) where
  pub coming : First at way.rest
  coming = first_link at way.rest (sym way.next_is ∙ e)

  pub coming_is : links ≡ unwind way.done (record { at = at; extent = coming.extent } ∷ coming.later)
  unfolding coming
  coming_is = way.is ∙ ap (unwind way.done) coming.is

  pub next_in_use : 0 < times at links
  next_in_use = some_here at coming.extent links way.done coming.later coming_is

  pub passed_one : (node : Node) → node ≡ record { extent = coming.extent; before = first_at way.done; after = first_at coming.later } → end_of node.extent ≤ offset
      → IsPassing links offset from (steps + 1) (Some (record { at = at; extent = node.extent })) node.after
  passed_one node is ends =
      let same : node.extent ≡ coming.extent = ap (λ (n : Node). n.extent) is in
      record {
        done = record { at = at; extent = coming.extent } ∷ way.done;
        rest = coming.later;
        is = coming_is;
        before_is = λ i. Some (record { at = at; extent = same i });
        next_is = ap (λ (n : Node). n.after) is;
        passed = (subst (λ (x : Extent). end_of x ≤ offset) same ends, way.passed);
        steps_are = omega (arith, way.steps_are);
      }
