-- What the areas are after a write.
use Rattle.std.proofs.Common.{◌≡◌, ◌≢◌, ℕ, ◌+◌, ◌≤◌, List, [], length, drop, Option, Some, None, Result, Ok, Err, refl, sym, ap, inl, inr, ◌∙◌, append_assoc, rules, arith}
use Rattle.std.proofs.lemmas.Bool.{cases_eq}
use Rattle.std.proofs.lemmas.Cmp.{nat_cmp_total}
use Rattle.std.proofs.lemmas.List.{take-append-drop, drop-drop, length-take, length-drop}
use Rattle.std.specs.Prelude.{IsSome, unwrap_or}
use Rattle.std.specs.Option.{option_map}
use Rattle.std.specs.FinMap.{get, gets, same_map, nat_cmp-IsAntisymmetric}
use Rattle.byte_ranges.specs.Ranges.{range, patched}
use Rattle.byte_ranges.proofs.Patched.{length-patched, patched-patched}
use Rattle.rig_trait.specs.declared.rig.Failed.{Failed}
use Rattle.rig_trait.specs.Areas.{Areas, area, bytes_in, written, IsWithin, OthersKept, SizesKept}
use Rattle.rig_trait.specs.Records.{Writes}

get-area : (areas : Areas) (dimm : ℕ) → IsSome (get areas dimm) → get areas dimm ≡ Some (area areas dimm)
get-area areas dimm is_area = elim (get areas dimm) as (λ o. IsSome o → o ≡ Some (unwrap_or o [])) [ None ↦ λ no. cc | Some bytes ↦ λ _. refl ] is_area

length-range : (bytes : List ℕ) (at n : ℕ) → at + n ≤ length bytes → length (range bytes at n) ≡ n
length-range bytes at n fits = omega (arith, fits, length-take n (drop at bytes), length-drop at bytes)

pub patched_same : (bytes : List ℕ) (at n : ℕ) → at + n ≤ length bytes → patched bytes at (range bytes at n) ≡ bytes
unfolding patched
patched_same bytes at n fits =
    rw (length-range bytes at n fits, append_assoc, ← drop-drop n at bytes, take-append-drop n (drop at bytes)) (take-append-drop at bytes)

module _ (areas : Areas) (dimm at : ℕ) where
  module _ (put : List ℕ) where
    pub get-written : get (written areas dimm at put) dimm ≡ Some (patched (area areas dimm) at put)
    get-written = grind (gets, rules)

    pub get-written_other : (q : ℕ) → q ≢ dimm → get (written areas dimm at put) q ≡ get areas q
    get-written_other q other = grind (gets, rules, arith)

    -- no area is made or taken away, and no size changes
    pub SizesKept-written : IsWithin areas dimm at (length put) → SizesKept areas (written areas dimm at put)
    SizesKept-written within q = elim (cases_eq q dimm) [
      | inl same ↦ rw (same, get-written, get-area areas dimm within.is_area, length-patched (area areas dimm) put at within.fits)
      | inr other ↦ ap (option_map length) (get-written_other q other)
    ]

  -- bytes put where they stand already
  pub written_same : (n : ℕ) → IsWithin areas dimm at n → written areas dimm at (range (area areas dimm) at n) ≡ areas
  written_same n within = same_map nat_cmp_total nat_cmp-IsAntisymmetric _ _ (λ q. elim (cases_eq q dimm) [
    | inl same ↦ rw (same, get-written (range (area areas dimm) at n), get-area areas dimm within.is_area, patched_same (area areas dimm) at n within.fits)
    | inr other ↦ get-written_other (range (area areas dimm) at n) q other
  ])

  -- a write that left all bytes
  pub writes_nothing : (put : List ℕ) → IsWithin areas dimm at (length put) → Writes {T = Unit {0}} areas areas dimm at put (Err (record {}))
  writes_nothing put within = record {
    garbage = range (area areas dimm) at (length put);
    same_length = length-range (area areas dimm) at (length put) within.fits;
    areas_are = sym (written_same (length put) within);
    ok = inl refl;
  }

-- a write that answers Ok puts its bytes
pub writes_all : {T : Type 0} → (old new : Areas) (dimm at : ℕ) (put : List ℕ) (value : T) → Writes old new dimm at put (Ok value) → new ≡ written old dimm at put
writes_all old new dimm at put value writes = writes.areas_are ∙ ap (written old dimm at) (elim writes.ok [ inl err ↦ cc | inr same ↦ same ])

-- what lay inside an area lies inside it after a write
pub IsWithin-written : (areas : Areas) (dimm at : ℕ) (put : List ℕ) (q from n : ℕ) → IsWithin areas dimm at (length put) → IsWithin areas q from n → IsWithin (written areas dimm at put) q from n
IsWithin-written areas dimm at put q from n within inside = elim (cases_eq q dimm) [
  | inl same ↦ record {
    is_area = rw (same, get-written areas dimm at put) refl;
    fits = rw (same, get-written areas dimm at put, length-patched (area areas dimm) put at within.fits) (rw same at inside.fits);
  }
  | inr other ↦ record {
    is_area = rw (get-written_other areas dimm at put q other) inside.is_area;
    fits = rw (get-written_other areas dimm at put q other) inside.fits;
  }
]

-- a write leaves all other areas
pub OthersKept-writes : {T : Type 0} → (old new : Areas) (dimm at : ℕ) (put : List ℕ) (result : Result T Failed) → Writes old new dimm at put result → OthersKept dimm old new
OthersKept-writes old new dimm at put result writes q other = ap (λ areas. get areas q) writes.areas_are ∙ get-written_other old dimm at writes.garbage q other

-- of two writes into one range, the second stands
written_twice : (areas : Areas) (dimm at : ℕ) (first second : List ℕ) → length first ≡ length second → IsWithin areas dimm at (length second)
    → written (written areas dimm at first) dimm at second ≡ written areas dimm at second
written_twice areas dimm at first second same within = same_map nat_cmp_total nat_cmp-IsAntisymmetric _ _ (λ q. elim (cases_eq q dimm) [
  | inl is ↦ rw is (
      get-written (written areas dimm at first) dimm at second
      ∙ ap (λ (o : Option (List ℕ)). Some (patched (unwrap_or o []) at second)) (get-written areas dimm at first)
      ∙ ap (λ (bytes : List ℕ). Some bytes) (patched-patched (area areas dimm) first second at same within.fits)
      ∙ sym (get-written areas dimm at second)
      )
  | inr other ↦
      get-written_other (written areas dimm at first) dimm at second q other
      ∙ get-written_other areas dimm at first q other
      ∙ sym (get-written_other areas dimm at second q other)
])

-- the old bytes put back
pub written_back : (areas : Areas) (dimm at : ℕ) (put : List ℕ) → IsWithin areas dimm at (length put)
    → written (written areas dimm at put) dimm at (bytes_in areas dimm at (length put)) ≡ areas
written_back areas dimm at put within =
    let long = length-range (area areas dimm) at (length put) within.fits in
    written_twice areas dimm at put (range (area areas dimm) at (length put)) (sym long) (rw long within)
    ∙ written_same areas dimm at (length put) within

pub length-bytes_in : (areas : Areas) (dimm at n : ℕ) → IsWithin areas dimm at n → length (bytes_in areas dimm at n) ≡ n
length-bytes_in areas dimm at n within = length-range (area areas dimm) at n within.fits
