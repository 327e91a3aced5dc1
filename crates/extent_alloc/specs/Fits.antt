-- Where a range fits into one extent.
use Rattle.std.specs.Prelude.{◌≡◌, ℕ, ◌%◌, ◌≤◌, ◌<◌, ◌^◌, List, true}
use Rattle.view_types.specs.declared.extents.Extent.{Extent}
use Rattle.view_types.specs.Intervals.{AllFree, Ascend, IsInside, is_free}

-- the least multiple of `align` from which the range lies in the extent
pub record IsFitIn (e : Extent) (len align at : ℕ) : Type 0 where
  pub multiple : at % align ≡ 0
  pub inside : IsInside e at len
  pub least : (p : ℕ) → p % align ≡ 0 → IsInside e p len → at ≤ p

abbrev pub NoFitIn : Extent → ℕ → ℕ → Type 0
NoFitIn e len align = (p : ℕ) → p % align ≡ 0 → ¬ IsInside e p len

-- of the free extents, those in which a fit may still be found
pub record IsLeft (whole : ℕ) (all left : List Extent) (len align : ℕ) : Type 0 where
  pub ascend : Ascend 0 whole left
  pub bound : whole < 2 ^ 64
  pub free_in : (o : ℕ) → is_free left o ≡ true → is_free all o ≡ true
  pub fits : (p : ℕ) → p % align ≡ 0 → AllFree (is_free all) p len → AllFree (is_free left) p len
