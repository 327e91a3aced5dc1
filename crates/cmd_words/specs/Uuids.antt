-- Uuids in their hyphenated form.
use Rattle.std.specs.Prelude.{ℕ, List, Option}
use Rattle.uuid.specs.Text.{parsed_hyphenated}

-- a uuid: 36 characters, of which those at 8, 13, 18 and 23 are hyphens and the others hexadecimal digits of either
-- case; its bytes, in the order of the digits
abbrev pub uuid : List ℕ → Option (List ℕ)
uuid text = parsed_hyphenated text
