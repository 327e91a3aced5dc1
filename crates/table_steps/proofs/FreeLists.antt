-- Each set of offsets below an end has a list of extents.
use Rattle.std.proofs.Common.{◌≡◌, inl, inr, ℕ, zero, suc, ◌+◌, ◌-◌, ◌≤◌, ◌<◌, Bool, true, false, ◌&&◌, List, [], ◌∷◌, sym, ap, subst, ◌∙◌, arith}
use Rattle.std.specs.Prelude.{◌||◌, nat_le, nat_lt}
use Rattle.std.proofs.lemmas.Bool.{cases_eq}
use Rattle.view_types.specs.declared.extents.Extent.{Extent}
use Rattle.view_types.specs.Intervals.{AreMaximal, Ascend, is_free}
use Rattle.label_table.proofs.ListTests.{both, le_from, lt_from, lt_not}
use Rattle.label_table.proofs.Partition.{late}

module _ (whole : ℕ) (free : ℕ → Bool) where
  -- the extents of the free offsets from one on
  record AreFrom (from : ℕ) (es : List Extent) : Type 0 where
    ascend : Ascend from whole es
    free_in : (o : ℕ) → from ≤ o → is_free es o ≡ free o

  none_before : (from : ℕ) (es : List Extent) (o : ℕ) → Ascend from whole es → o < from → is_free es o ≡ false
  none_before from es o up lt = elim (both (is_free es o)) [
    | inr none ↦ none
    | inl some ↦ absurd (let le : from ≤ o = late from whole es o up some in omega arith)
  ]

  earlier : (from : ℕ) (es : List Extent) → Ascend (suc from) whole es → Ascend from whole es
  earlier from [] up = tt
  earlier from (e ∷ es) up = let ge = up.0 in (omega arith, up.1, up.2, up.3)

  -- an offset that is not free
  taken : (from : ℕ) (es : List Extent) → AreFrom (suc from) es → free from ≡ false → AreFrom from es
  taken from es are n = record { ascend = earlier from es are.ascend; free_in = free_in }
    where
      free_in : (o : ℕ) → from ≤ o → is_free es o ≡ free o
      free_in o ge = elim (cases_eq o from) [
        | inr other ↦ are.free_in o (omega arith)
        | inl is ↦ none_before (suc from) es o are.ascend (omega arith) ∙ sym (ap free is ∙ n)
      ]

  -- a free offset, with a gap behind it
  alone : (from : ℕ) (es : List Extent) → from < whole → AreFrom (suc from) es → Ascend (from + 2) whole es → free from ≡ true → AreFrom from (record { start = from; len = 1 } ∷ es)
  alone from es lt are up t = record { ascend = (omega arith, omega arith, omega arith, subst (λ k. Ascend k whole es) (let e : from + 2 ≡ from + 1 + 1 = omega arith in e) up); free_in = free_in }
    where
      free_in : (o : ℕ) → from ≤ o → is_free (record { start = from; len = 1 } ∷ es) o ≡ free o
      free_in o ge = elim (cases_eq o from) [
        | inl is ↦
            let a : nat_le from o ≡ true = le_from from o ge in
            let b : nat_lt o (from + 1) ≡ true = lt_from o (from + 1) (omega arith) in
            (λ i. (a i && b i) || is_free es o) ∙ sym (ap free is ∙ t)
        | inr other ↦
            let a : nat_le from o ≡ true = le_from from o ge in
            let b : nat_lt o (from + 1) ≡ false = lt_not o (from + 1) (omega arith) in
            (λ i. (a i && b i) || is_free es o) ∙ are.free_in o (omega arith)
      ]

  -- a free offset right in front of an extent
  joined : (from : ℕ) (e : Extent) (es : List Extent) → AreFrom (suc from) (e ∷ es) → e.start ≡ suc from → free from ≡ true → AreFrom from (record { start = from; len = e.len + 1 } ∷ es)
  joined from e es are starts t = record { ascend = ascend; free_in = free_in }
    where
      ends : from + (e.len + 1) ≡ e.start + e.len
      ends = omega (arith, starts)

      ascend : Ascend from whole (record { start = from; len = e.len + 1 } ∷ es)
      ascend = (omega arith, omega arith, let le : e.start + e.len ≤ whole = are.ascend.2 in omega (arith, ends, le), subst (λ k. Ascend (k + 1) whole es) (sym ends) are.ascend.3)

      free_in : (o : ℕ) → from ≤ o → is_free (record { start = from; len = e.len + 1 } ∷ es) o ≡ free o
      free_in o ge = elim (cases_eq o from) [
        | inl is ↦
            let a : nat_le from o ≡ true = le_from from o ge in
            let b : nat_lt o (from + (e.len + 1)) ≡ true = lt_from o (from + (e.len + 1)) (omega arith) in
            (λ i. (a i && b i) || is_free es o) ∙ sym (ap free is ∙ t)
        | inr other ↦
            let a : nat_le from o ≡ true = le_from from o ge in
            let b : nat_le e.start o ≡ true = le_from e.start o (omega (arith, starts, ge, other)) in
            (λ i. (a i && nat_lt o (ends i)) || is_free es o) ∙ sym (λ i. (b i && nat_lt o (e.start + e.len)) || is_free es o) ∙ are.free_in o (omega arith)
      ]

  one_more : (from : ℕ) (es : List Extent) → from < whole → AreFrom (suc from) es → (fs : List Extent) × AreFrom from fs
  one_more from es lt are = elim (both (free from)) [
    | inr n ↦ (es, taken from es are n)
    | inl t ↦ by es are t
  ]
    where
      by : (es : List Extent) → AreFrom (suc from) es → free from ≡ true → (fs : List Extent) × AreFrom from fs
      by [] are t = (record { start = from; len = 1 } ∷ [], alone from [] lt are tt t)
      by (e ∷ es) are t = elim (cases_eq e.start (suc from)) [
        | inl starts ↦ (record { start = from; len = e.len + 1 } ∷ es, joined from e es are starts t)
        | inr gap ↦
            let ge : suc from ≤ e.start = are.ascend.0 in
            (record { start = from; len = 1 } ∷ e ∷ es, alone from (e ∷ es) lt are (omega (arith, ge, gap), are.ascend.1, are.ascend.2, are.ascend.3) t)
      ]

  from_end : ((o : ℕ) → whole ≤ o → free o ≡ false) → (n : ℕ) → n ≤ whole → (es : List Extent) × AreFrom (whole - n) es
  from_end past zero le = ([], record { ascend = tt; free_in = λ o ge. sym (past o (let e : whole - zero ≤ o = ge in omega arith)) })
  from_end past (suc n) le =
      let more = from_end past n (omega arith) in
      let next : whole - n ≡ suc (whole - suc n) = omega arith in
      one_more (whole - suc n) more.0 (omega arith) (subst (λ k. AreFrom k more.0) next more.1)

  pub maximal : ((o : ℕ) → whole ≤ o → free o ≡ false) → (es : List Extent) × AreMaximal whole free es
  maximal past =
      let all = from_end past whole (omega arith) in
      let start : whole - whole ≡ 0 = omega arith in
      let are : AreFrom 0 all.0 = subst (λ k. AreFrom k all.0) start all.1 in
      (all.0, record { ascend = are.ascend; free_in = λ o. are.free_in o (omega arith) })
