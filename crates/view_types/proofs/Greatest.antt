-- What fits, told by the greatest aligned length.
use Rattle.std.proofs.Common.{◌≡◌, ◌⊎◌, inl, inr, ℕ, ◌+◌, ◌*◌, ◌/◌, ◌%◌, ◌≤◌, ◌<◌, Bool, true, false, List, [], ◌∷◌, sym, ap, ◌∙◌, arith}
use Rattle.std.specs.Prelude.{◌||◌}
use Rattle.std.specs.Int.{next_multiple_of}
use Rattle.std.proofs.Math.Nat.{mul-mod_left}
use Rattle.std.proofs.lemmas.Bool.{cases_lt}
use Rattle.std.proofs.lemmas.Nat.{div-add-mod'}
use Rattle.view_types.specs.declared.extents.Extent.{Extent}
use Rattle.view_types.specs.Intervals.{end_of, is_within, is_free, AllFree, Ascend, AreMaximal, IsInside, NoneFits, aligned_len, greatest_aligned}
use Rattle.view_types.proofs.Intervals.{within_yes, free_later, inside_first, or_true}
use Rattle.view_types.proofs.Multiples.{IsNextMultiple, next_multiple, rounded_down}

fits_step : (e : Extent) (es : List Extent) (len align : ℕ) → 0 < len → 0 < align → len ≤ greatest_aligned align (e ∷ es)
    → (len ≤ greatest_aligned align es → (at : ℕ) × (at % align ≡ 0) × AllFree (is_free es) at len)
    → (aligned_len align e < len) ⊎ (len ≤ aligned_len align e) → (at : ℕ) × (at % align ≡ 0) × AllFree (is_free (e ∷ es)) at len
fits_step e es len align some positive le later (inr fits) =
    let next : IsNextMultiple e.start align (next_multiple_of e.start align) = next_multiple e.start align positive in
    (next_multiple_of e.start align, next.multiple, λ o ge lt i. within_yes e.start e.len o (omega (arith, next.from)) (omega arith) i || is_free es o)
fits_step e es len align some positive le later (inl short) =
    let there = later (omega arith) in
    (there.0, there.1, λ o ge lt. or_true (is_within e.start e.len o) (is_free es o) (there.2 o ge lt))

fits_in : (es : List Extent) (len align : ℕ) → 0 < len → 0 < align → len ≤ greatest_aligned align es → (at : ℕ) × (at % align ≡ 0) × AllFree (is_free es) at len
fits_in [] len align some positive le = absurd (omega arith)
fits_in (e ∷ es) len align some positive le =
    fits_step e es len align some positive le (λ more. fits_in es len align some positive more) (cases_lt (aligned_len align e) len)

sum_multiple : (p q align : ℕ) → p % align ≡ 0 → q % align ≡ 0 → (p + q) % align ≡ 0
sum_multiple p q align a b =
    let both : p + q ≡ (p / align + q / align) * align = omega (arith, div-add-mod' p align, div-add-mod' q align) in
    ap (λ n. n % align) both ∙ mul-mod_left (p / align + q / align) align

none_in : (from whole : ℕ) (es : List Extent) (len align : ℕ) → Ascend from whole es → 0 < len → 0 < align → len % align ≡ 0 → greatest_aligned align es < len
    → (p : ℕ) → p % align ≡ 0 → AllFree (is_free es) p len → ⊥
none_in from whole [] len align up some positive whole_len short p multiple free =
    let never : false ≡ true = free p (omega arith) (omega arith) in absurd cc
none_in from whole (e ∷ es) len align up some positive whole_len short p multiple free = elim (cases_lt p (end_of e)) [
  | inl lt ↦
      let inside : IsInside e p len = inside_first from whole e es p len up some free lt in
      let next : IsNextMultiple e.start align (next_multiple_of e.start align) = next_multiple e.start align positive in
      let first = next.least p multiple inside.starts in
      let last = rounded_down (end_of e) align positive (p + len) (sum_multiple p len align multiple whole_len) inside.ends in
      absurd (omega arith)
  | inr past ↦ none_in (end_of e + 1) whole es len align up.3 some positive whole_len (omega arith) p multiple
      (λ o ge lt. sym (free_later e es o (omega arith)) ∙ free o ge lt)
]

pub fits : (whole : ℕ) (free : ℕ → Bool) (es : List Extent) (len align : ℕ) → AreMaximal whole free es → 0 < len → 0 < align
    → len ≤ greatest_aligned align es → (at : ℕ) × (at % align ≡ 0) × AllFree free at len
fits whole free es len align all some positive le =
    let there = fits_in es len align some positive le in
    (there.0, there.1, λ o ge lt. sym (all.free_in o) ∙ there.2 o ge lt)

pub none : (whole : ℕ) (free : ℕ → Bool) (es : List Extent) (len align : ℕ) → AreMaximal whole free es → 0 < len → 0 < align
    → len % align ≡ 0 → greatest_aligned align es < len → NoneFits free len align
none whole free es len align all some positive whole_len short p multiple free_from =
    none_in 0 whole es len align all.ascend some positive whole_len short p multiple (λ o ge lt. all.free_in o ∙ free_from o ge lt)
