-- How a name is printed: as one word of visible ASCII characters.
use Rattle.std.specs.Prelude.{ℕ, ◌/◌, ◌%◌, ◌==◌, ◌&&◌, ◌||◌, Bool, List, [], ◌∷◌, codes, if◌then◌else◌, length, nat_le}
use Rattle.std.specs.Prelude.{not, slice_index}
use Rattle.std.specs.List.{before_first, flat_map}

-- a name ends at its first zero byte
abbrev pub name_before_zero : List ℕ → List ℕ
name_before_zero name = before_first (λ byte. byte == 0) name

-- the byte stands as itself: visible ASCII, but `%` and `"`
abbrev pub is_plain : ℕ → Bool
is_plain byte = nat_le 0x21 byte && nat_le byte 0x7E && not ((byte == 0x25) || (byte == 0x22))

abbrev pub hex_digit : ℕ → ℕ
hex_digit digit = slice_index (codes "0123456789ABCDEF") digit

-- `%` and two hexadecimal digits
abbrev pub escaped_byte : ℕ → List ℕ
escaped_byte byte = 0x25 ∷ hex_digit (byte / 16) ∷ hex_digit (byte % 16) ∷ []

abbrev pub printed_byte : ℕ → List ℕ
printed_byte byte = if is_plain byte then byte ∷ [] else escaped_byte byte

-- the name of the one byte `-`
abbrev pub is_dash : List ℕ → Bool
is_dash name = (length name == 1) && (slice_index name 0 == 0x2D)

-- the printed name of the 64 bytes of a label's name. An empty name is printed as `-`, so the name `-` is not.
unfoldable pub printed_name : List ℕ → List ℕ
printed_name bytes =
    let name = name_before_zero bytes in
    if length name == 0 then codes "-"
    else if is_dash name then codes "%2D"
    else flat_map printed_byte name
