-- Ranges of bytes, by their offset and length.
use Rattle.std.specs.Prelude.{ℕ, ◌+◌, List, [], ◌∷◌, ◌++◌, length, take, drop}
use Rattle.byteorder.specs.Endian.{little_number}

-- n bytes from an offset on, or those up to the end where there are fewer
abbrev pub range : List ℕ → ℕ → ℕ → List ℕ
range bytes at n = take n (drop at bytes)

-- the same bytes, but for those from an offset on
unfoldable pub patched : List ℕ → ℕ → List ℕ → List ℕ
patched bytes at put = take at bytes ++ put ++ drop (at + length put) bytes

-- the little-endian number in a field of n bytes at an offset
abbrev pub number_at : ℕ → List ℕ → ℕ → ℕ
number_at n bytes at = little_number n (drop at bytes)

-- the same bytes, but for some fields, each from its offset on
abbrev pub with_fields : List ℕ → List (ℕ × List ℕ) → List ℕ
with_fields bytes [] = bytes
with_fields bytes (field ∷ fields) = with_fields (patched bytes field.0 field.1) fields
