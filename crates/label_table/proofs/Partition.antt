-- Every offset of a Ready region is in one namespace, or held, or in one free extent, and never in two of these.
use Rattle.std.proofs.Common.{◌≡◌, ◌⊎◌, inl, inr, ⊎_elim, ℕ, zero, suc, ◌+◌, ◌≤◌, ◌<◌, Bool, true, false, not, ◌&&◌, List, [], ◌∷◌, refl, ap, subst, ◌∙◌, arith}
use Rattle.std.specs.Prelude.{◌||◌, ◌==◌, nat_lt}
use Rattle.std.specs.List.{Contains}
use Rattle.std.proofs.lemmas.Bool.Decides.{nat_tests}
use Rattle.std.proofs.lemmas.Bool.{and_parts}
use Rattle.view_types.specs.declared.extents.Extent.{Extent}
use Rattle.view_types.specs.Intervals.{Ascend, end_of, is_free, is_within}
use Rattle.view_types.proofs.SomeList.{some_list}
use Rattle.label_codec.specs.ModuleLabels.{Labels}
use Rattle.region_map.specs.declared.platform.Region.{Region}
use Rattle.region_map.specs.declared.platform.Platform.{Platform}
use Rattle.label_table.specs.Division.{AreFreeExtents, Free, Held, IsInOne, OfNamespace, Part, is_common_free, is_held_at, namespaces_over, part_size}
use Rattle.label_table.specs.Namespaces.{namespaces}
use Rattle.label_table.specs.Statuses.{RegionReady, status}
use Rattle.label_table.proofs.Clashes.{count_by-one, first_clash-none, none_empty}
use Rattle.label_table.proofs.Listed.{namespaces-ascends}
use Rattle.label_table.proofs.StatusLaws.{ready-parts}
use Rattle.label_table.proofs.ListTests.{Contains-cases, Contains-here, Contains-none, Contains-there, le_true, lt_from, lt_true}

-- an offset in an extent
abbrev pub IsOf : ℕ → Extent → Type 0
IsOf o e = (e.start ≤ o) × (o < e.start + e.len)

is_of : (o : ℕ) (e : Extent) → is_within e.start e.len o ≡ true → IsOf o e
is_of o e t = let p = and_parts _ _ t in (le_true _ _ p.0, lt_true _ _ p.1)

-- later extents begin later
past : (from whole : ℕ) (es : List Extent) (o : ℕ) (e : Extent) → Ascend from whole es → Contains es e → IsOf o e → from ≤ o
past from whole [] o e a here at = Contains-none e here
past from whole (x ∷ xs) o e a here at = ⊎_elim
    (λ is. let s : e.start ≡ x.start = ap (λ (y : Extent). y.start) is in omega arith)
    (λ there. let l : end_of x + 1 ≤ o = past (end_of x + 1) whole xs o e a.3 there at in omega arith)
    (Contains-cases x xs e here)

or_cases : (a b : Bool) → (a || b) ≡ true → (a ≡ true) ⊎ (b ≡ true)
or_cases true b e = inl refl
or_cases false b e = inr e

-- an offset that is in one of the extents is in one alone
pub in_one : (from whole : ℕ) (es : List Extent) (o : ℕ) → Ascend from whole es → is_free es o ≡ true → IsInOne es o
in_one from whole [] o a t = absurd cc
in_one from whole (x ∷ xs) o a t = by (or_cases (is_within x.start x.len o) (is_free xs o) t) (λ there. in_one (end_of x + 1) whole xs o a.3 there)
  where
    by : (is_within x.start x.len o ≡ true) ⊎ (is_free xs o ≡ true) → (is_free xs o ≡ true → IsInOne xs o) → IsInOne (x ∷ xs) o
    by (inl here) rest = record {
      extent = x;
      listed = Contains-here x xs;
      has = here;
      only = λ d in_d at_d. ⊎_elim (λ is. is)
          (λ there. let l : end_of x + 1 ≤ o = past (end_of x + 1) whole xs o d a.3 there (is_of o d at_d) in let h : IsOf o x = is_of o x here in absurd (omega (arith, h.1)))
          (Contains-cases x xs d in_d);
    }
    by (inr there) rest =
        let found : IsInOne xs o = rest there in record {
          extent = found.extent;
          listed = Contains-there x xs found.extent found.listed;
          has = found.has;
          only = λ d in_d at_d. ⊎_elim
              (λ is. let l : end_of x + 1 ≤ o = past (end_of x + 1) whole xs o found.extent a.3 found.listed (is_of o found.extent found.has) in
              let at : IsOf o x = subst (λ y. IsOf o y) is (is_of o d at_d) in absurd (omega (arith, at.1)))
              (λ later. found.only d later at_d) (Contains-cases x xs d in_d);
        }

pub partition : (P : Platform) (L : Labels) (r : Region) (es : List Extent) → AreFreeExtents P L r es → status L r ≡ RegionReady → (o : ℕ) → o < part_size r → Part P L r es o
partition P L r es maximal ready o lt = by (namespaces_over L r o) (is_held_at P L r o) refl refl few
  where
    few : namespaces_over L r o ≤ 1
    few = count_by-one o (namespaces L r) (namespaces-ascends L r) (first_clash-none (namespaces L r) (namespaces-ascends L r) (none_empty L r) (ready-parts L r ready).calm)

    free : (n : Bool) (h : Bool) → (namespaces_over L r o == 0) ≡ n → is_held_at P L r o ≡ h → is_free es o ≡ (n && not h)
    free n h is_n is_h =
        let within : nat_lt o (part_size r) ≡ true = lt_from o (part_size r) lt in
        maximal.free_in o ∙ (λ i. within i && (is_n i && not (is_h i)))

    eq_zero : (n : ℕ) → n ≡ 0 → (n == 0) ≡ true
    eq_zero n e = grind arith

    eq_one : (n : ℕ) → n ≡ 1 → (n == 0) ≡ false
    eq_one n e = grind arith

    by : (n : ℕ) (h : Bool) → namespaces_over L r o ≡ n → is_held_at P L r o ≡ h → n ≤ 1 → Part P L r es o
    by zero true n h le = Held n h (free true true (eq_zero _ n) h)
    by zero false n h le = Free n h (in_one 0 (part_size r) es o maximal.ascend (free true false (eq_zero _ n) h))
    by (suc zero) h n is_h le = OfNamespace n (free false h (eq_one _ n) is_h)
    by (suc (suc k)) h n is_h le = absurd (omega arith)

-- an extent of a list begins where the list may, or later
pub late : (from whole : ℕ) (es : List Extent) (o : ℕ) → Ascend from whole es → is_free es o ≡ true → from ≤ o
late from whole es o a t = let at : IsInOne es o = in_one from whole es o a t in past from whole es o at.extent a at.listed (is_of o at.extent at.has)

-- there is a list of the free extents of a region
pub some_extents : (P : Platform) (L : Labels) (r : Region) → (es : List Extent) × AreFreeExtents P L r es
some_extents P L r = some_list (part_size r) (is_common_free P L r)
    (λ o past. let none : nat_lt o (part_size r) ≡ false = grind (arith, nat_tests) in
    λ i. none i && (namespaces_over L r o == 0 && not (is_held_at P L r o)))
