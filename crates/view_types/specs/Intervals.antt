-- Sets of offsets as lists of intervals: which offsets are free, the maximal intervals of them, and where a range fits.
use Rattle.std.specs.Prelude.{◌≡◌, ℕ, ◌+◌, ◌-◌, ◌%◌, ◌≤◌, ◌<◌, max, Bool, true, false, not, ◌&&◌, ◌||◌, nat_le, nat_lt}
use Rattle.std.specs.Prelude.{List, [], ◌∷◌}
use Rattle.std.specs.Int.{next_multiple_of}
use Rattle.view_types.specs.declared.extents.Extent.{Extent}

-- the offset right behind an extent
abbrev pub end_of : Extent → ℕ
end_of e = e.start + e.len

-- the offset is one of the `len` from `start` on
abbrev pub is_within : ℕ → ℕ → ℕ → Bool
is_within start len o = nat_le start o && nat_lt o (start + len)

-- the offset is in one of the extents
abbrev pub is_free : List Extent → ℕ → Bool
is_free [] o = false
is_free (e ∷ es) o = is_within e.start e.len o || is_free es o

-- a range lies in the extent
pub record IsInside (e : Extent) (start len : ℕ) : Type 0 where
  pub starts : e.start ≤ start
  pub ends : start + len ≤ end_of e

-- each offset of the range is free
abbrev pub AllFree : (ℕ → Bool) → ℕ → ℕ → Type 0
AllFree free start len = (o : ℕ) → start ≤ o → o < start + len → free o ≡ true

-- no offset of the range is free
abbrev pub NoneFree : (ℕ → Bool) → ℕ → ℕ → Type 0
NoneFree free start len = (o : ℕ) → start ≤ o → o < start + len → free o ≡ false

-- the free offsets without those of a range, and with those of a range
abbrev pub without_range : (ℕ → Bool) → ℕ → ℕ → ℕ → Bool
without_range free start len o = free o && not (is_within start len o)

abbrev pub with_range : (ℕ → Bool) → ℕ → ℕ → ℕ → Bool
with_range free start len o = free o || is_within start len o

-- the extents ascend from an offset on and end by the whole's end; none is empty, and no two touch
abbrev pub Ascend : ℕ → ℕ → List Extent → Type 0
Ascend from whole [] = Unit {0}
Ascend from whole (e ∷ es) = (from ≤ e.start) × (0 < e.len) × (end_of e ≤ whole) × Ascend (end_of e + 1) whole es

-- the extents are the maximal intervals of free offsets of a whole, in ascending order
pub record AreMaximal (whole : ℕ) (free : ℕ → Bool) (es : List Extent) : Type 0 where
  pub ascend : Ascend 0 whole es
  pub free_in : (o : ℕ) → is_free es o ≡ free o

-- the offsets of an extent are free, and those next to it are not
pub record IsMaximal (free : ℕ → Bool) (e : Extent) : Type 0 where
  pub some : 0 < e.len
  pub free_in : AllFree free e.start e.len
  pub before : (o : ℕ) → o + 1 ≡ e.start → free o ≡ false
  pub behind : free (end_of e) ≡ false

-- the least multiple of `align` from which `len` offsets are free
pub record IsFirstFit (free : ℕ → Bool) (len align at : ℕ) : Type 0 where
  pub multiple : at % align ≡ 0
  pub free_from : AllFree free at len
  pub least : (p : ℕ) → p % align ≡ 0 → AllFree free p len → at ≤ p

-- `len` offsets are free from no multiple of `align`
abbrev pub NoneFits : (ℕ → Bool) → ℕ → ℕ → Type 0
NoneFits free len align = (p : ℕ) → p % align ≡ 0 → ¬ AllFree free p len

-- what is left of an extent when its start is rounded up and its end rounded down to a multiple of `align`, or 0
abbrev pub aligned_len : ℕ → Extent → ℕ
aligned_len align e = (end_of e - end_of e % align) - next_multiple_of e.start align

-- the greatest aligned length, or 0
abbrev pub greatest_aligned : ℕ → List Extent → ℕ
greatest_aligned align [] = 0
greatest_aligned align (e ∷ es) = max (aligned_len align e) (greatest_aligned align es)
