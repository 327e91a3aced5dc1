-- A printed name is ASCII, whatever bytes the name has.
use Rattle.std.proofs.Common.{◌≡◌, ℕ, ◌<◌, ◌/◌, ◌%◌, List, [], ◌∷◌, Bool, true, false, refl, arith}
use Rattle.std.specs.Prelude.{codes, if◌then◌else◌, nat_lt}
use Rattle.std.specs.List.{flat_map, list_all}
use Rattle.std.specs.Str.{IsAscii}
use Rattle.std.proofs.lemmas.Str.{IsAscii-append}
use Rattle.std.proofs.lemmas.Str.Ascii.{IsAscii-nil, IsAscii-cons}
use Rattle.std.proofs.lemmas.Bool.{and_parts, ltb-true}
use Rattle.std.proofs.lemmas.Bool.Decides.{nat_tests}
use Rattle.label_codec.specs.Names.{escaped_byte, hex_digit, is_plain, name_before_zero, printed_byte, printed_name}

-- of a literal text, by computing
IsAscii-tested : (bs : List ℕ) → list_all (λ b. nat_lt b 128) bs ≡ true → IsAscii bs
IsAscii-tested [] passes = IsAscii-nil
IsAscii-tested (b ∷ bs) passes =
    let parts = and_parts (nat_lt b 128) (list_all (λ b. nat_lt b 128) bs) passes in
    IsAscii-cons b bs (ltb-true _ _ parts.0) (IsAscii-tested bs parts.1)

hex_digit-lt : (digit : ℕ) → hex_digit digit < 128
hex_digit-lt digit = IsAscii-tested (codes "0123456789ABCDEF") refl digit

IsAscii-escaped_byte : (byte : ℕ) → IsAscii (escaped_byte byte)
IsAscii-escaped_byte byte =
    let low = IsAscii-cons (hex_digit (byte % 16)) [] (hex_digit-lt (byte % 16)) IsAscii-nil in
    let both = IsAscii-cons (hex_digit (byte / 16)) (hex_digit (byte % 16) ∷ []) (hex_digit-lt (byte / 16)) low in
    IsAscii-cons 0x25 (hex_digit (byte / 16) ∷ hex_digit (byte % 16) ∷ []) (omega arith) both

IsAscii-printed_byte : (byte : ℕ) → IsAscii (printed_byte byte)
IsAscii-printed_byte byte = cases (is_plain byte) (λ plain. grind (arith, nat_tests))
  where
    cases : (plain : Bool) → (plain ≡ true → byte < 128) → IsAscii (if plain then byte ∷ [] else escaped_byte byte)
    cases true small = IsAscii-cons byte [] (small cc) IsAscii-nil
    cases false small = IsAscii-escaped_byte byte

IsAscii-bytes : (name : List ℕ) → IsAscii (flat_map printed_byte name)
IsAscii-bytes [] = IsAscii-nil
IsAscii-bytes (byte ∷ name) = IsAscii-append (printed_byte byte) (flat_map printed_byte name) (IsAscii-printed_byte byte) (IsAscii-bytes name)

pub IsAscii-printed_name : (bytes : List ℕ) → IsAscii (printed_name bytes)
unfolding printed_name
IsAscii-printed_name bytes = cases _ _
  where
    cases : (empty dash : Bool) → IsAscii (if empty then codes "-" else if dash then codes "%2D" else flat_map printed_byte (name_before_zero bytes))
    cases true dash = IsAscii-tested (codes "-") refl
    cases false true = IsAscii-tested (codes "%2D") refl
    cases false false = IsAscii-bytes (name_before_zero bytes)
