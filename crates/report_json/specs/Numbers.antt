-- How numbers are printed in hexadecimal, and uuids.
use Rattle.std.specs.Prelude.{ℕ, zero, suc, ◌/◌, ◌%◌, List, [], ◌∷◌, ◌++◌, codes, false}
use Rattle.std.specs.Fmt.{digit_glyph}
use Rattle.uuid.specs.Text.{hyphenated_text, lower}

-- the lowest hexadecimal digits of a number, in lower case
abbrev pub hexadecimal_digits : ℕ → ℕ → List ℕ
hexadecimal_digits zero n = []
hexadecimal_digits (suc count) n = hexadecimal_digits count (n / 16) ++ digit_glyph false (n % 16) ∷ []

-- `0x` and so many of them
unfoldable pub hexadecimal : ℕ → ℕ → List ℕ
hexadecimal count n = codes "0x" ++ hexadecimal_digits count n

-- a device handle, or flags
abbrev pub handle_text : ℕ → List ℕ
handle_text dimm = hexadecimal 8 dimm

-- an address, or a cookie
abbrev pub address_text : ℕ → List ℕ
address_text address = hexadecimal 16 address

-- a uuid in lower case, its bytes in the order in which they stand
abbrev pub uuid_text : List ℕ → List ℕ
uuid_text uuid = hyphenated_text lower uuid
