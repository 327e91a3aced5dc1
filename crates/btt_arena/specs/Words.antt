-- Words of four bytes, which a stop leaves old or new.
use Rattle.std.specs.Prelude.{◌≡◌, ◌⊎◌, ℕ, List}
use Rattle.byteorder.specs.Endian.{little_bytes}
use Rattle.byte_ranges.specs.Ranges.{patched}

-- the same bytes, but for a word at an offset
abbrev pub with_word : List ℕ → ℕ → ℕ → List ℕ
with_word bytes at word = patched bytes at (little_bytes 4 word)

-- some bytes are the first of two, or the second
abbrev pub IsEither : List ℕ → List ℕ → List ℕ → Type 0
IsEither first second bytes = (bytes ≡ first) ⊎ (bytes ≡ second)
