-- What tells a namespace of a region from the others.
use Rattle.std.specs.Prelude.{ℕ, ◌&&◌, List, Option, Some, None, if◌then◌else◌, length, nat_le}
use Rattle.cmd_words.specs.declared.name_keys.NameKey.{NameKey}
use Rattle.cmd_words.specs.declared.name_keys.NameKey.TheVariants.{Uuid, Name}
use Rattle.cmd_words.specs.Names.{is_name_text, with_zeros}
use Rattle.cmd_words.specs.Uuids.{uuid}

abbrev pub name_key_by : Option (List ℕ) → List ℕ → Option NameKey
name_key_by (Some bytes) text = Some (Uuid bytes)
name_key_by None text = if nat_le 1 (length text) && is_name_text text then Some (Name (with_zeros text)) else None

-- a uuid, else 1 to 63 of the characters of a name
abbrev pub name_key : List ℕ → Option NameKey
name_key text = name_key_by (uuid text) text
