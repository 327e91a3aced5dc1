-- The free space of one region more.
use Rattle.std.proofs.Common.{◌≡◌, ℕ, ◌+◌, ◌<◌, ◌++◌, ◌∷◌, [], List, length, get_or, sym, ap, subst, ◌∙◌, inl, inr, arith}
use Rattle.std.proofs.lemmas.Bool.{cases_lt}
use Rattle.std.proofs.lemmas.List.{get_or_append_left, get_or_push, get_or_read}
use Rattle.extent_alloc.specs.Free.{FreeSpace}
use Rattle.region_labels.specs.declared.modules.LoadedModule.{LoadedModule}
use Rattle.region_labels.specs.declared.region.RegionLabels.{RegionLabels}
use Rattle.label_sets.specs.Kept.{IsFree}

pub free-more : (modules : List LoadedModule) (regions : List RegionLabels) (old new : List FreeSpace) (free : FreeSpace) (n : ℕ) (kept : RegionLabels) → length old ≡ n → n < length regions → kept ≡ get_or regions n kept
    → new ≡ old ++ free ∷ [] → ((place : ℕ) (d : RegionLabels) (e : FreeSpace) → place < n → IsFree modules regions (get_or regions place d) (get_or old place e)) → IsFree modules regions kept free
    → (place : ℕ) (d : RegionLabels) (e : FreeSpace) → place < n + 1 → IsFree modules regions (get_or regions place d) (get_or new place e)
free-more modules regions old new free n kept len lt is items before here place d e below = elim (cases_lt place n) [
  | inl less ↦
      let at : get_or new place e ≡ get_or old place e = ap (λ fs. get_or fs place e) items ∙ get_or_append_left old (free ∷ []) e place (omega arith) in
      subst (λ f. IsFree modules regions (get_or regions place d) f) (sym at) (before place d e less)
  | inr more ↦
      let same : place ≡ n = omega arith in
      let at : get_or new place e ≡ free = ap (λ fs. get_or fs place e) items ∙ get_or_push old free e place (omega arith) in
      let there : get_or regions place d ≡ kept = ap (λ k. get_or regions k d) same ∙ sym (get_or_read regions n kept lt is d) in
      subst (λ f. IsFree modules regions (get_or regions place d) f) (sym at) (subst (λ k. IsFree modules regions k free) (sym there) here)
]
