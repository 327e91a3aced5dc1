-- What stands where in bytes with fields put over them, one behind the other.
use Rattle.std.proofs.Common.{◌≡◌, ℕ, ◌+◌, ◌≤◌, List, [], ◌∷◌, length, ◌⊎◌, inl, inr, refl, ◌∙◌, arith}
use Rattle.byte_ranges.specs.Ranges.{range, patched, with_fields}
use Rattle.byte_ranges.proofs.Patched.{length-patched, range-patched_after, range-patched_before, range-patched_in}

-- the fields stand behind an offset, each behind the one before it, and end within so many bytes
abbrev pub AreApart : ℕ → ℕ → List (ℕ × List ℕ) → Type 0
AreApart from total [] = from ≤ total
AreApart from total (field ∷ fields) = (from ≤ field.0) × AreApart (field.0 + length field.1) total fields

-- each field has its bytes
abbrev pub AllStand : List (ℕ × List ℕ) → List ℕ → Type 0
AllStand [] bytes = Unit {0}
AllStand (field ∷ fields) bytes = (range bytes field.0 (length field.1) ≡ field.1) × AllStand fields bytes

-- no field meets a range
abbrev pub AllMiss : ℕ → ℕ → List (ℕ × List ℕ) → Type 0
AllMiss from n [] = Unit {0}
AllMiss from n (field ∷ fields) = ((field.0 + length field.1 ≤ from) ⊎ (from + n ≤ field.0)) × AllMiss from n fields

ends_within : (from total : ℕ) (fields : List (ℕ × List ℕ)) → AreApart from total fields → from ≤ total
ends_within from total [] apart = apart
ends_within from total (field ∷ fields) apart =
    let rest : field.0 + length field.1 ≤ total = ends_within (field.0 + length field.1) total fields apart.1 in
    let first : from ≤ field.0 = apart.0 in
    omega arith

apart_from : (from later total : ℕ) (fields : List (ℕ × List ℕ)) → from ≤ later → AreApart later total fields → AreApart from total fields
apart_from from later total [] le apart = let most : later ≤ total = apart in omega arith
apart_from from later total (field ∷ fields) le apart = let first : later ≤ field.0 = apart.0 in (omega arith, apart.1)

module _ (total : ℕ) where
  fits : (field : ℕ × List ℕ) (fields : List (ℕ × List ℕ)) (bytes : List ℕ) → length bytes ≡ total → AreApart (field.0 + length field.1) total fields → field.0 + length field.1 ≤ length bytes
  fits field fields bytes long apart = let rest : field.0 + length field.1 ≤ total = ends_within (field.0 + length field.1) total fields apart in omega arith

  pub length-with_fields : (fields : List (ℕ × List ℕ)) (bytes : List ℕ) (from : ℕ) → length bytes ≡ total → AreApart from total fields → length (with_fields bytes fields) ≡ total
  length-with_fields [] bytes from long apart = long
  length-with_fields (field ∷ fields) bytes from long apart =
      length-with_fields fields (patched bytes field.0 field.1) (field.0 + length field.1) (length-patched bytes field.1 field.0 (fits field fields bytes long apart.1) ∙ long) apart.1

  -- what stands before all fields stays
  range-with_fields_before : (fields : List (ℕ × List ℕ)) (bytes : List ℕ) (from n : ℕ) → length bytes ≡ total → AreApart (from + n) total fields
      → range (with_fields bytes fields) from n ≡ range bytes from n
  range-with_fields_before [] bytes from n long apart = refl
  range-with_fields_before (field ∷ fields) bytes from n long apart =
      let within = fits field fields bytes long apart.1 in
      let first : from + n ≤ field.0 = apart.0 in
      range-with_fields_before fields (patched bytes field.0 field.1) from n (length-patched bytes field.1 field.0 within ∙ long)
      (apart_from (from + n) (field.0 + length field.1) total fields (omega arith) apart.1)
      ∙ range-patched_before bytes field.1 field.0 within from n first

  pub all_stand : (fields : List (ℕ × List ℕ)) (bytes : List ℕ) (from : ℕ) → length bytes ≡ total → AreApart from total fields → AllStand fields (with_fields bytes fields)
  all_stand [] bytes from long apart = tt
  all_stand (field ∷ fields) bytes from long apart =
      let within = fits field fields bytes long apart.1 in
      let long_too = length-patched bytes field.1 field.0 within ∙ long in (
        range-with_fields_before fields (patched bytes field.0 field.1) field.0 (length field.1) long_too apart.1 ∙ range-patched_in bytes field.1 field.0 within,
        all_stand fields (patched bytes field.0 field.1) (field.0 + length field.1) long_too apart.1,
      )

  -- what no field meets stays
  pub range-with_fields_missed : (fields : List (ℕ × List ℕ)) (bytes : List ℕ) (at from n : ℕ) → length bytes ≡ total → AreApart at total fields → AllMiss from n fields
      → range (with_fields bytes fields) from n ≡ range bytes from n
  range-with_fields_missed [] bytes at from n long apart missed = refl
  range-with_fields_missed (field ∷ fields) bytes at from n long apart missed =
      let within = fits field fields bytes long apart.1 in
      range-with_fields_missed fields (patched bytes field.0 field.1) (field.0 + length field.1) from n (length-patched bytes field.1 field.0 within ∙ long) apart.1 missed.1
      ∙ (elim missed.0 [
        | inl before ↦ range-patched_after bytes field.1 field.0 within from n before
        | inr behind ↦ range-patched_before bytes field.1 field.0 within from n behind
      ])
