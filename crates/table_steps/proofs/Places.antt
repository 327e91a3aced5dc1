-- Where nothing refuses a create there is a first range for it.
use Rattle.std.proofs.Common.{◌≡◌, ◌⊎◌, inl, inr, ℕ, zero, suc, ◌+◌, ◌*◌, ◌%◌, ◌≤◌, ◌<◌, Bool, true, List, Option, Some, None, length, sym, subst, arith}
use Rattle.std.proofs.Math.Nat.{le_of_mul-le-mul_left}
use Rattle.std.proofs.lemmas.Bool.{cases_eq, cases_lt}
use Rattle.view_types.specs.declared.extents.Extent.{Extent}
use Rattle.view_types.specs.Intervals.{AllFree, IsFirstFit, greatest_aligned}
use Rattle.view_types.proofs.Greatest.{fits}
use Rattle.label_codec.specs.ModuleLabels.{Labels}
use Rattle.region_map.specs.declared.platform.Platform.{Platform}
use Rattle.region_map.specs.declared.platform.Region.{Region}
use Rattle.region_map.specs.Platforms.{region_at}
use Rattle.label_table.specs.Division.{AreFreeExtents, alignment, is_common_free, part_size}
use Rattle.label_table.specs.Statuses.{RegionStatus}
use Rattle.label_table.proofs.ListTests.{both, never}
use Rattle.table_steps.specs.declared.new_namespace.NewNamespace.{NewNamespace}
use Rattle.table_steps.specs.Create.{AreFreeOf, AreFreeWhere, create_refusals, part_length}
use Rattle.table_steps.specs.Refusals.{first_of}
use Rattle.table_steps.proofs.Accepted.{IsUnrefused, unrefused}

module _ (free : ℕ → Bool) (start : ℕ) where
  more_free : (len : ℕ) → AllFree free start len → free (start + len) ≡ true → AllFree free start (suc len)
  more_free len all last o ge lt = elim (cases_eq o (start + len)) [
    | inl is ↦ subst (λ n. free n ≡ true) (sym is) last
    | inr other ↦ all o ge (omega arith)
  ]

  -- a range is free, or is not
  all_free : (len : ℕ) → AllFree free start len ⊎ (¬ AllFree free start len)
  all_free zero = inl (λ o ge lt. absurd (omega arith))
  all_free (suc len) = elim (all_free len) [
    | inr not ↦ inr (λ all. not (λ o ge lt. all o ge (omega arith)))
    | inl all ↦ elim (both (free (start + len))) [
      | inl last ↦ inl (more_free len all last)
      | inr taken ↦ inr (λ more. never (free (start + len)) (more (start + len) (omega arith) (omega arith)) taken)
    ]
  ]

module _ (free : ℕ → Bool) (len align : ℕ) where
  -- no range that begins below fits
  abbrev NoneBelow : ℕ → Type 0
  NoneBelow n = (p : ℕ) → p < n → p % align ≡ 0 → ¬ AllFree free p len

  here_too : (n : ℕ) → NoneBelow n → (n % align ≡ 0 → ¬ AllFree free n len) → NoneBelow (suc n)
  here_too n none here p lt multiple = elim (cases_eq p n) [
    | inl is ↦ subst (λ k. k % align ≡ 0 → ¬ AllFree free k len) (sym is) here multiple
    | inr other ↦ none p (omega arith) multiple
  ]

  first_of_all : (n : ℕ) → NoneBelow n → n % align ≡ 0 → AllFree free n len → IsFirstFit free len align n
  first_of_all n none multiple all = record { multiple = multiple; free_from = all; least = least }
    where
      least : (p : ℕ) → p % align ≡ 0 → AllFree free p len → n ≤ p
      least p fits free_from = elim (cases_lt p n) [
        | inl lt ↦ absurd (none p lt fits free_from)
        | inr le ↦ le
      ]

  below : (n : ℕ) → NoneBelow n ⊎ ((at : ℕ) × IsFirstFit free len align at)
  below zero = inl (λ p lt multiple all. absurd (omega arith))
  below (suc n) = elim (below n) [
    | inr found ↦ inr found
    | inl none ↦ elim (cases_eq (n % align) 0) [
      | inr other ↦ inl (here_too n none (λ multiple. absurd (other multiple)))
      | inl multiple ↦ elim (all_free free n len) [
        | inl all ↦ inr (n, first_of_all n none multiple all)
        | inr not ↦ inl (here_too n none (λ _. not))
      ]
    ]
  ]

  -- where a range fits, there is the first
  first_fit : (at : ℕ) → at % align ≡ 0 → AllFree free at len → (first : ℕ) × IsFirstFit free len align first
  first_fit at multiple all = elim (below (suc at)) [
    | inr found ↦ found
    | inl none ↦ absurd (none at (omega arith) multiple all)
  ]

pub place : (P : Platform) (L : Labels) (free : List Extent) (a : NewNamespace) (r : Region) → region_at P a.region ≡ Some r → AreFreeOf P L (region_at P a.region) free
    → first_of (create_refusals P L free a) ≡ None → (at : ℕ) × IsFirstFit (is_common_free P L r) (part_length a r) alignment at
place P L free a r found are e =
    let u : IsUnrefused P L free a r = unrefused P L free a r found e in
    let here : AreFreeOf P L (Some r) free = subst (λ (o : Option Region). AreFreeOf P L o free) found are in
    let extents : AreFreeExtents P L r free = subst (λ (s : RegionStatus). AreFreeWhere s P L r free) u.ready here in
    let whole : length r.members * part_length a r ≡ a.size = u.size.whole in
    let room : a.size ≤ length r.members * greatest_aligned alignment free = u.space in
    let le : length r.members * part_length a r ≤ length r.members * greatest_aligned alignment free = omega (arith, whole, room) in
    let there = fits (part_size r) (is_common_free P L r) free (part_length a r) alignment extents u.size.some (omega arith) (le_of_mul-le-mul_left le u.size.some_ways) in
    first_fit (is_common_free P L r) (part_length a r) alignment there.0 there.1 there.2
