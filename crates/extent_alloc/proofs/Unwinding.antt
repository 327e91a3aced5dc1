-- Lists that are cut in two, and how often a node stands in their parts.
use Rattle.std.proofs.Common.{◌≡◌, ◌≢◌, ◌⊎◌, inl, inr, ℕ, ◌+◌, ◌<◌, ◌≤◌, true, false, cond, List, [], ◌∷◌, length, Option, None, Some, refl, sym, ◌∙◌, subst, arith}
use Rattle.std.specs.Prelude.{◌==◌, if◌then◌else◌, drop}
use Rattle.std.proofs.lemmas.Bool.Decides.{eqb_tells}
use Rattle.view_types.specs.declared.extents.Extent.{Extent}
use Rattle.extent_alloc.specs.declared.pool.Link.{Link}
use Rattle.extent_alloc.specs.Chains.{first_at, times, unwind, extents_of}
use Rattle.extent_alloc.proofs.Chains.{times-here, times-later}

pub length-unwind : {X : Type 0} (done rest : List X) → length (unwind done rest) ≡ length done + length rest
length-unwind [] rest = omega arith
length-unwind (x ∷ done) rest = omega (arith, length-unwind done (x ∷ rest))

pub times-unwind : (k : ℕ) (done rest : List Link) → times k (unwind done rest) ≡ times k done + times k rest
times-unwind k [] rest = omega arith
times-unwind k (l ∷ done) rest = omega (arith, times-unwind k done (l ∷ rest))

pub extents_of-unwind : (done rest : List Link) → extents_of (unwind done rest) ≡ unwind (extents_of done) (extents_of rest)
extents_of-unwind [] rest = refl
extents_of-unwind (l ∷ done) rest = extents_of-unwind done (l ∷ rest)

-- the extent of a node in a chain, with what stands before and after it
pub record Cut (at : ℕ) (ls : List Link) : Type 0 where
  pub done : List Link
  pub rest : List Link
  pub extent : Extent
  pub is : ls ≡ unwind done (record { at = at; extent = extent } ∷ rest)

cut_here : (at : ℕ) (done : List Link) (l : Link) (rest : List Link) → l.at ≡ at → Cut at (unwind done (l ∷ rest))
cut_here at done l rest e = record {
  done = done;
  rest = rest;
  extent = l.extent;
  is = λ i. unwind done (record { at = e i; extent = l.extent } ∷ rest);
}

pub times-other : (k : ℕ) (l : Link) (ls : List Link) → l.at ≢ k → times k (l ∷ ls) ≡ times k ls
times-other k l ls other = by (eqb_tells l.at k)
  where
    by : ((l.at == k) ≡ true) × (l.at ≡ k) ⊎ ((l.at == k) ≡ false) × (l.at ≢ k) → times k (l ∷ ls) ≡ times k ls
    by (inl same) = absurd (other same.1)
    by (inr apart) = (λ i. cond {A = ℕ} (apart.0 i) 1 0 + times k ls) ∙ omega arith

cut_step : (at : ℕ) (done : List Link) (l : Link) (rest : List Link) → (0 < times at rest → Cut at (unwind (l ∷ done) rest)) → 0 < times at (l ∷ rest)
    → ((l.at == at) ≡ true) × (l.at ≡ at) ⊎ ((l.at == at) ≡ false) × (l.at ≢ at) → Cut at (unwind done (l ∷ rest))
cut_step at done l rest later some (inl same) = cut_here at done l rest same.1
cut_step at done l rest later some (inr apart) = later (subst (λ n. 0 < n) (times-other at l rest apart.1) some)

pub cut_from : (at : ℕ) (done rest : List Link) → 0 < times at rest → Cut at (unwind done rest)
cut_from at done [] some = absurd (omega arith)
cut_from at done (l ∷ rest) some = cut_step at done l rest (λ more. cut_from at (l ∷ done) rest more) some (eqb_tells l.at at)

-- what stands after a node, or at the front
pub record CutAfter (before : Option ℕ) (ls : List Link) : Type 0 where
  pub done : List Link
  pub rest : List Link
  pub is : ls ≡ unwind done rest
  pub before_is : before ≡ first_at done

pub cut_after : (before : Option ℕ) (ls : List Link) → ((at : ℕ) → before ≡ Some at → 0 < times at ls) → CutAfter before ls
cut_after None ls some = record { done = []; rest = ls; is = refl; before_is = refl }
cut_after (Some at) ls some =
    let cut : Cut at ls = cut_from at [] ls (some at refl) in
    record { done = record { at = at; extent = cut.extent } ∷ cut.done; rest = cut.rest; is = cut.is; before_is = refl }

pub times-first : (k : ℕ) (ls : List Link) → first_at ls ≡ Some k → times k ls ≡ 1 + times k (drop 1 ls)
times-first k [] first = absurd cc
times-first k (l ∷ ls) first =
    let is : l.at ≡ k = cc in
    subst (λ n. times n (l ∷ ls) ≡ 1 + times n ls) is (times-here l ls)

pub times-drop : (k : ℕ) (ls : List Link) → times k (drop 1 ls) ≤ times k ls
times-drop k [] = omega arith
times-drop k (l ∷ ls) = times-later k l ls

pub times-taken : (at k : ℕ) (ls : List Link) → first_at ls ≡ Some at → times k ls ≡ (if at == k then 1 else 0) + times k (drop 1 ls)
times-taken at k [] first = absurd cc
times-taken at k (l ∷ ls) first =
    let is : l.at ≡ at = cc in
    λ i. cond {A = ℕ} (is i == k) 1 0 + times k ls

pub times-untaken : (at k : ℕ) (ls : List Link) → first_at ls ≡ Some at → at ≢ k → times k ls ≡ times k (drop 1 ls)
times-untaken at k [] first other = refl
times-untaken at k (l ∷ ls) first other =
    let is : l.at ≡ at = cc in
    times-other k l ls (λ e. other (sym is ∙ e))

pub length-taken : (at : ℕ) (ls : List Link) → first_at ls ≡ Some at → length ls ≡ 1 + length (drop 1 ls)
length-taken at [] first = absurd cc
length-taken at (l ∷ ls) first = omega arith

-- the front of a list that is cut is that of its first part, or of its second
pub first_at-unwind : (done xs ys : List Link) → first_at xs ≡ first_at ys → first_at (unwind done xs) ≡ first_at (unwind done ys)
first_at-unwind [] xs ys same = same
first_at-unwind (l ∷ done) xs ys same = first_at-unwind done (l ∷ xs) (l ∷ ys) refl

pub some_links : (k : ℕ) (ls : List Link) → 0 < times k ls → 0 < length ls
some_links k [] some = absurd (omega arith)
some_links k (l ∷ ls) some = omega arith
