-- The gaps between ranges, found from the end of the whole on.
use Rattle.std.specs.Prelude.{◌≡◌, ℕ, ◌+◌, ◌-◌, ◌≤◌, ◌<◌, ◌^◌, min, List}
use Rattle.std.specs.List.Sorted.{IsNonDecreasingBy}
use Rattle.view_types.specs.declared.extents.Extent.{Extent}
use Rattle.view_types.specs.Intervals.{Ascend, end_of, is_free}
use Rattle.extent_alloc.specs.Free.{is_outside, is_taken}

-- the offset right behind a range, or the last number of 64 bits
abbrev pub end_in_64_bits : Extent → ℕ
end_in_64_bits range = min (end_of range) (2 ^ 64 - 1)

-- the extents are the offsets from `end` on that are outside the ranges, and of the offsets below it the ranges that
-- are left, by ascending end, have those that all ranges have
pub record AreFoundFrom (end whole : ℕ) (ranges left : List Extent) (es : List Extent) : Type 0 where
  pub inside : end ≤ whole
  pub sorted : IsNonDecreasingBy end_in_64_bits left
  pub ascend : Ascend (end + 1) whole es
  pub found : (o : ℕ) → end ≤ o → is_free es o ≡ is_outside whole ranges o
  pub left_below : (o : ℕ) → o < end → is_taken left o ≡ is_taken ranges o
