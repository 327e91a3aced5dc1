-- The names of namespaces.
use Rattle.std.specs.Prelude.{ℕ, ◌-◌, ◌==◌, ◌&&◌, ◌||◌, Bool, List, ◌++◌, Option, Some, None, if◌then◌else◌, is_none}
use Rattle.std.specs.Prelude.{length, nat_le, replicate}
use Rattle.std.specs.Char.{is_ascii_alphanumeric}
use Rattle.std.specs.List.{list_all}
use Rattle.cmd_words.specs.Uuids.{uuid}

-- the letters A to Z and a to z, the digits, `.`, `_` and `-`
abbrev pub is_name_character : ℕ → Bool
is_name_character byte = is_ascii_alphanumeric byte || (byte == 46) || (byte == 95) || (byte == 45)

-- 0 to 63 of these characters
abbrev pub is_name_text : List ℕ → Bool
is_name_text text = nat_le (length text) 63 && list_all is_name_character text

-- a name has not the form of a uuid
abbrev pub is_name : List ℕ → Bool
is_name text = is_name_text text && is_none (uuid text)

-- the 64 bytes that a text is kept in: zeros stand behind it
abbrev pub with_zeros : List ℕ → List ℕ
with_zeros text = text ++ replicate (64 - length text) 0

abbrev pub name : List ℕ → Option (List ℕ)
name text = if is_name text then Some (with_zeros text) else None

-- the name of a namespace to which none is given
abbrev pub empty_name : List ℕ
empty_name = replicate 64 0
