-- A set of offsets of a whole has a list of maximal intervals.
use Rattle.std.proofs.Common.{◌≡◌, inl, inr, ℕ, zero, suc, ◌+◌, ◌≤◌, ◌<◌, ◌⊎◌, Bool, true, false, List, [], ◌∷◌, refl, sym, ◌∙◌, subst, arith}
use Rattle.std.specs.Prelude.{◌||◌}
use Rattle.std.proofs.lemmas.Bool.{cases_Bool, cases_eq, cases_lt}
use Rattle.view_types.specs.declared.extents.Extent.{Extent}
use Rattle.view_types.specs.Intervals.{end_of, is_within, is_free, Ascend, AreMaximal}
use Rattle.view_types.proofs.Intervals.{ascend_from, none_below, within_above, within_yes}

-- the maximal intervals of the free offsets of a range
record SomeFrom (free : ℕ → Bool) (from count : ℕ) : Type 0 where
  es : List Extent
  ascend : Ascend from (from + count) es
  free_in : (o : ℕ) → from ≤ o → o < from + count → is_free es o ≡ free o

ascend_within : (from a b : ℕ) (es : List Extent) → a ≤ b → Ascend from a es → Ascend from b es
ascend_within from a b [] le up = tt
ascend_within from a b (e ∷ es) le up =
    (up.0, up.1, omega (arith, up.2), ascend_within (end_of e + 1) a b es le up.3)

module _ (free : ℕ → Bool) (from count : ℕ) where
  without_first : free from ≡ false → SomeFrom free (from + 1) count → SomeFrom free from (suc count)
  without_first none rest = record {
    es = rest.es;
    ascend = ascend_within from (from + 1 + count) (from + suc count) rest.es (omega arith)
        (ascend_from from (from + 1) (from + 1 + count) rest.es (omega arith) rest.ascend);
    free_in = λ o ge lt. here o ge lt (cases_eq o from);
  }
    where
      here : (o : ℕ) → from ≤ o → o < from + suc count → (o ≡ from) ⊎ (o ≡ from → ⊥) → is_free rest.es o ≡ free o
      here o ge lt (inl is) = none_below (from + 1) (from + 1 + count) rest.es o rest.ascend (omega arith)
          ∙ sym (subst (λ x. free x ≡ false) (sym is) none)
      here o ge lt (inr more) = rest.free_in o (omega arith) (omega arith)

  -- the first offset as an extent of its own
  apart : free from ≡ true → (es : List Extent) → Ascend (from + 2) (from + suc count) es
      → ((o : ℕ) → from + 1 ≤ o → o < from + 1 + count → is_free es o ≡ free o) → SomeFrom free from (suc count)
  apart is_free_here es up same = record {
    es = record { start = from; len = 1 } ∷ es;
    ascend = (omega arith, omega arith, omega arith, ascend_from (from + 1 + 1) (from + 2) (from + suc count) es (omega arith) up);
    free_in = λ o ge lt. here o ge lt (cases_eq o from);
  }
    where
      here : (o : ℕ) → from ≤ o → o < from + suc count → (o ≡ from) ⊎ (o ≡ from → ⊥)
          → is_free (record { start = from; len = 1 } ∷ es) o ≡ free o
      here o ge lt (inl is) = (λ i. within_yes from 1 o ge (omega arith) i || is_free es o)
          ∙ sym (subst (λ x. free x ≡ true) (sym is) is_free_here)
      here o ge lt (inr more) = (λ i. within_above from 1 o (omega arith) i || is_free es o)
          ∙ same o (omega arith) (omega arith)

  -- the first offset joins the extent that begins right behind it
  longer : free from ≡ true → (e : Extent) (es : List Extent) → e.start ≡ from + 1
      → Ascend (from + 1) (from + 1 + count) (e ∷ es)
      → ((o : ℕ) → from + 1 ≤ o → o < from + 1 + count → is_free (e ∷ es) o ≡ free o) → SomeFrom free from (suc count)
  longer is_free_here e es starts up same = record {
    es = record { start = from; len = e.len + 1 } ∷ es;
    ascend = (
      omega arith,
      omega arith,
      omega (arith, up.2),
      ascend_within (from + (e.len + 1) + 1) (from + 1 + count) (from + suc count) es (omega arith)
          (ascend_from (from + (e.len + 1) + 1) (end_of e + 1) (from + 1 + count) es (omega arith) up.3),
    );
    free_in = λ o ge lt. here o ge lt (cases_eq o from);
  }
    where
      same_within : (o : ℕ) → from + 1 ≤ o → is_within from (e.len + 1) o ≡ is_within e.start e.len o
      same_within o ge = elim (cases_lt o (end_of e)) [
        | inl lt ↦ within_yes from (e.len + 1) o (omega arith) (omega arith) ∙ sym (within_yes e.start e.len o (omega arith) lt)
        | inr past ↦ within_above from (e.len + 1) o (omega arith) ∙ sym (within_above e.start e.len o past)
      ]

      here : (o : ℕ) → from ≤ o → o < from + suc count → (o ≡ from) ⊎ (o ≡ from → ⊥)
          → is_free (record { start = from; len = e.len + 1 } ∷ es) o ≡ free o
      here o ge lt (inl is) = (λ i. within_yes from (e.len + 1) o ge (omega arith) i || is_free es o)
          ∙ sym (subst (λ x. free x ≡ true) (sym is) is_free_here)
      here o ge lt (inr more) = (λ i. same_within o (omega arith) i || is_free es o) ∙ same o (omega arith) (omega arith)

  with_first : free from ≡ true → SomeFrom free (from + 1) count → SomeFrom free from (suc count)
  with_first is_free_here rest = by rest.es rest.ascend rest.free_in
    where
      by : (es : List Extent) → Ascend (from + 1) (from + 1 + count) es
          → ((o : ℕ) → from + 1 ≤ o → o < from + 1 + count → is_free es o ≡ free o) → SomeFrom free from (suc count)
      by [] up same = apart is_free_here [] tt same
      by (e ∷ es) up same = elim (cases_eq e.start (from + 1)) [
        | inl starts ↦ longer is_free_here e es starts up same
        | inr later ↦ apart is_free_here (e ∷ es)
            (omega (arith, up.0), up.1, omega (arith, up.2), ascend_within (end_of e + 1) (from + 1 + count) (from + suc count) es (omega arith) up.3)
            same
      ]

some_from : (free : ℕ → Bool) (from count : ℕ) → SomeFrom free from count
some_from free from zero = record { es = []; ascend = tt; free_in = λ o ge lt. absurd (omega (arith, ge, lt)) }
some_from free from (suc count) = elim (cases_Bool (free from)) [
  | inl is_free_here ↦ with_first free from count is_free_here (some_from free (from + 1) count)
  | inr none ↦ without_first free from count none (some_from free (from + 1) count)
]

-- nothing is free behind the end of an ascending list
none_past : (from whole : ℕ) (es : List Extent) (o : ℕ) → Ascend from whole es → whole ≤ o → is_free es o ≡ false
none_past from whole [] o up past = refl
none_past from whole (e ∷ es) o up past =
    (λ i. within_above e.start e.len o (omega (arith, up.2)) i || is_free es o) ∙ none_past (end_of e + 1) whole es o up.3 past

pub some_list : (whole : ℕ) (free : ℕ → Bool) → ((o : ℕ) → whole ≤ o → free o ≡ false) → (es : List Extent) × AreMaximal whole free es
some_list whole free none = (
  some.es,
  record {
    ascend = ascend_within 0 (0 + whole) whole some.es (omega arith) some.ascend;
    free_in = λ o. by o (cases_lt o whole);
  },
)
  where
    some : SomeFrom free 0 whole
    some = some_from free 0 whole

    by : (o : ℕ) → (o < whole) ⊎ (whole ≤ o) → is_free some.es o ≡ free o
    by o (inl lt) = some.free_in o (omega arith) (omega (arith, lt))
    by o (inr past) = none_past 0 (0 + whole) some.es o some.ascend (omega (arith, past)) ∙ sym (none o past)
