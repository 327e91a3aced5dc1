-- The gaps between ranges that are taken from the last one on.
use Rattle.std.proofs.Common.{◌≡◌, ◌⊎◌, inl, inr, ℕ, ◌+◌, ◌-◌, ◌≤◌, ◌<◌, ◌^◌, min, Bool, true, false, not, ◌&&◌, List, [], ◌∷◌, ◌++◌, length, get_or, refl, sym, ap, ◌∙◌, subst, arith}
use Rattle.std.specs.Prelude.{◌||◌, nat_lt}
use Rattle.std.specs.List.Sorted.{IsNonDecreasingBy, IsPermutation}
use Rattle.std.proofs.Math.ListN.{get_or-append}
use Rattle.std.proofs.Math.Seq.{get_or-append_seam, take-append_seam}
use Rattle.std.proofs.lemmas.Bool.{cases_lt}
use Rattle.std.proofs.lemmas.Bool.Decides.{nat_tests}
use Rattle.std.proofs.lemmas.List.{length-append}
use Rattle.std.proofs.lemmas.List.Elements.{All-from_get_or}
use Rattle.std.proofs.lemmas.List.Folds.{list_any-append, list_any_none}
use Rattle.std.proofs.lemmas.List.Sorted.{IsNonDecreasingBy-take, list_any-IsPermutation}
use Rattle.view_types.specs.declared.extents.Extent.{Extent}
use Rattle.view_types.specs.Intervals.{is_within, is_free, Ascend, AreMaximal}
use Rattle.view_types.proofs.Intervals.{none_below, within_yes, within_below, within_above, ascend_from}
use Rattle.extent_alloc.specs.Free.{is_outside, is_taken, kept}
use Rattle.extent_alloc.specs.Gaps.{AreFoundFrom, end_in_64_bits}
use Rattle.extent_alloc.proofs.Carving.{free_kept}
use Rattle.extent_alloc.proofs.Placing.{kept-empty, kept-some}

or_false : (b : Bool) → (b || false) ≡ b
or_false true = refl
or_false false = refl

or_true : (b : Bool) → (b || true) ≡ true
or_true true = refl
or_true false = refl

within_none : (s n o : ℕ) → n ≡ 0 → is_within s n o ≡ false
within_none s n o none = grind (arith, nat_tests)

-- what one range more has
taken_last : (left : List Extent) (r : Extent) (o : ℕ) → is_taken (left ++ r ∷ []) o ≡ (is_taken left o || is_within r.start r.len o)
taken_last left r o =
    list_any-append (λ (x : Extent). is_within x.start x.len o) left (r ∷ []) ∙ ap (λ b. is_taken left o || b) (or_false (is_within r.start r.len o))

not_taken_last : (left : List Extent) (r : Extent) (o : ℕ) → is_within r.start r.len o ≡ false → is_taken left o ≡ is_taken (left ++ r ∷ []) o
not_taken_last left r o none = sym (taken_last left r o ∙ ap (λ b. is_taken left o || b) none ∙ or_false (is_taken left o))

sorted_left : (left : List Extent) (r : Extent) → IsNonDecreasingBy end_in_64_bits (left ++ r ∷ []) → IsNonDecreasingBy end_in_64_bits left
sorted_left left r up =
    subst (IsNonDecreasingBy end_in_64_bits) (take-append_seam left (r ∷ [])) (IsNonDecreasingBy-take end_in_64_bits (length left) (left ++ r ∷ []) up)

none_past : (x : Extent) (m o : ℕ) → end_in_64_bits x ≤ m → m ≤ o → o < 2 ^ 64 - 1 → is_within x.start x.len o ≡ false
none_past x m o by past few = within_above x.start x.len o (omega arith)

-- no range has an offset that is past the last one's end
none_left : (left : List Extent) (r : Extent) (o : ℕ) → IsNonDecreasingBy end_in_64_bits (left ++ r ∷ []) → end_in_64_bits r ≤ o → o < 2 ^ 64 - 1 → is_taken left o ≡ false
none_left left r o up past few =
    list_any_none (λ (x : Extent). is_within x.start x.len o) left (All-from_get_or (λ x. is_within x.start x.len o ≡ false) left r (λ i lt.
    let most : end_in_64_bits (get_or (left ++ r ∷ []) i r) ≤ end_in_64_bits (get_or (left ++ r ∷ []) (length left) r) =
    up i (length left) r (omega arith) (omega (arith, length-append left (r ∷ []))) in
    let by_seam : end_in_64_bits (get_or (left ++ r ∷ []) i r) ≤ end_in_64_bits r =
    subst (λ (x : Extent). end_in_64_bits (get_or (left ++ r ∷ []) i r) ≤ end_in_64_bits x) (get_or-append_seam left r [] r) most in
    let by_last : end_in_64_bits (get_or left i r) ≤ end_in_64_bits r =
    subst (λ (x : Extent). end_in_64_bits x ≤ end_in_64_bits r) (get_or-append left (r ∷ []) r i lt) by_seam in
    none_past (get_or left i r) (end_in_64_bits r) o by_last past few))

pub all_left : (whole : ℕ) (ranges left : List Extent) → IsPermutation ranges left → IsNonDecreasingBy end_in_64_bits left → AreFoundFrom whole whole ranges left []
all_left whole ranges left same up = record {
  inside = omega arith;
  sorted = up;
  ascend = tt;
  found = λ o ge. past o (is_taken ranges o) ge;
  left_below = λ o lt. sym (list_any-IsPermutation (λ (x : Extent). is_within x.start x.len o) ranges left same);
}
  where
    past : (o : ℕ) (taken : Bool) → whole ≤ o → false ≡ (nat_lt o whole && not taken)
    past o taken ge = grind (arith, nat_tests)

pub empty_passed : (end whole : ℕ) (ranges left : List Extent) (r : Extent) (es : List Extent) → r.len ≡ 0 → AreFoundFrom end whole ranges (left ++ r ∷ []) es
    → AreFoundFrom end whole ranges left es
empty_passed end whole ranges left r es none h = record {
  inside = h.inside;
  sorted = sorted_left left r h.sorted;
  ascend = h.ascend;
  found = h.found;
  left_below = λ o lt. not_taken_last left r o (within_none r.start r.len o none) ∙ h.left_below o lt;
}

-- one offset of a gap between `from` and `end`, or of the range before it
free_there : (whole o : ℕ) (taken : Bool) → o < whole → taken ≡ false → true ≡ (nat_lt o whole && not taken)
free_there whole o taken lt none = grind (arith, nat_tests)

taken_there : (whole o : ℕ) (taken : Bool) → taken ≡ true → false ≡ (nat_lt o whole && not taken)
taken_there whole o taken is = grind (arith, nat_tests)

module _ (end whole : ℕ) (ranges left : List Extent) (r : Extent) (es : List Extent) (from : ℕ) (few : whole < 2 ^ 64) (some : 0 < r.len)
    (from_is : from ≡ end_in_64_bits r) (h : AreFoundFrom end whole ranges (left ++ r ∷ []) es) where
  gap : Extent
  gap = record { start = from; len = end - from }

  ascend_gap : Ascend (min r.start end + 1) whole (kept gap es)
  unfolding gap
  ascend_gap = elim (cases_lt from end) [
    | inl more ↦
        let last : from + (end - from) ≡ end = omega arith in
        subst (Ascend (min r.start end + 1) whole) (sym (kept-some gap es (omega arith)))
        (omega (arith, from_is, some, few, h.inside), omega arith, omega (arith, last, h.inside), subst (λ n. Ascend (n + 1) whole es) (sym last) h.ascend)
    | inr none ↦
        subst (Ascend (min r.start end + 1) whole) (sym (kept-empty gap es (omega arith))) (ascend_from (min r.start end + 1) (end + 1) whole es (omega arith) h.ascend)
  ]

  free_gap : (o : ℕ) → min r.start end ≤ o → (is_within from (end - from) o || is_free es o) ≡ is_outside whole ranges o
  free_gap o ge = elim (cases_lt o end) [
    | inr past ↦ (λ i. within_above_gap o past i || is_free es o) ∙ h.found o past
    | inl lt ↦
        let none : is_free es o ≡ false = none_below (end + 1) whole es o h.ascend (omega arith) in
        let all : is_taken ranges o ≡ (is_taken left o || is_within r.start r.len o) = sym (h.left_below o lt) ∙ taken_last left r o in
        elim (cases_lt o from) [
          | inl in_range ↦
              let has : is_within r.start r.len o ≡ true = within_yes r.start r.len o (omega arith) (omega (arith, from_is)) in
              (λ i. within_below from (end - from) o in_range i || none i)
              ∙ taken_there whole o (is_taken ranges o) (all ∙ ap (λ b. is_taken left o || b) has ∙ or_true (is_taken left o))
          | inr in_gap ↦
              let few_o : o < 2 ^ 64 - 1 = omega (arith, h.inside, few) in
              let not_left : is_taken left o ≡ false = none_left left r o h.sorted (omega (arith, from_is)) few_o in
              let not_r : is_within r.start r.len o ≡ false = none_past r from o (omega (arith, from_is)) in_gap few_o in
              (λ i. within_yes from (end - from) o in_gap (omega arith) i || none i)
              ∙ free_there whole o (is_taken ranges o) (omega (arith, h.inside)) (all ∙ (λ i. not_left i || not_r i))
        ]
  ]
    where
      within_above_gap : (o : ℕ) → end ≤ o → is_within from (end - from) o ≡ false
      within_above_gap o past = grind (arith, nat_tests)

  pub gap_put : AreFoundFrom (min r.start end) whole ranges left (kept (record { start = from; len = end - from }) es)
  unfolding gap
  gap_put = record {
    inside = omega (arith, h.inside);
    sorted = sorted_left left r h.sorted;
    ascend = ascend_gap;
    found = λ o ge. free_kept gap es o ∙ free_gap o ge;
    left_below = λ o lt. not_taken_last left r o (within_below r.start r.len o (omega arith)) ∙ h.left_below o (omega arith);
  }

-- where no range is left, the offsets below are one more gap
pub last_put : (end whole : ℕ) (ranges : List Extent) (es : List Extent) → AreFoundFrom end whole ranges [] es
    → AreMaximal whole (is_outside whole ranges) (kept (record { start = 0; len = end }) es)
last_put end whole ranges es h = record {
  ascend = elim (cases_lt 0 end) [
    | inl some ↦ subst (Ascend 0 whole) (sym (kept-some (record { start = 0; len = end }) es some)) (omega arith, some, omega (arith, h.inside), subst (λ n. Ascend (n + 1) whole es) (zero-add end) h.ascend)
    | inr none ↦ subst (Ascend 0 whole) (sym (kept-empty (record { start = 0; len = end }) es (omega arith))) (ascend_from 0 (end + 1) whole es (omega arith) h.ascend)
  ];
  free_in = λ o. free_kept (record { start = 0; len = end }) es o ∙ by o (cases_lt o end);
}
  where
    zero-add : (n : ℕ) → n ≡ 0 + n
    zero-add n = omega arith

    by : (o : ℕ) → (o < end) ⊎ (end ≤ o) → (is_within 0 end o || is_free es o) ≡ is_outside whole ranges o
    by o (inr past) = (λ i. within_above 0 end o (omega arith) i || is_free es o) ∙ h.found o past
    by o (inl lt) =
        (λ i. within_yes 0 end o (omega arith) (omega arith) i || is_free es o)
        ∙ free_there whole o (is_taken ranges o) (omega (arith, h.inside)) (sym (h.left_below o lt))
