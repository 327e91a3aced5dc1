-- The lines of an input.
use Rattle.std.specs.Prelude.{ℕ, ◌==◌, Bool, List}
use Rattle.std.specs.List.{slice_split}

-- the byte 0x0A
abbrev pub is_end : ℕ → Bool
is_end byte = byte == 10

-- the parts between the ends of lines, of which the last may be empty
abbrev pub lines_in : List ℕ → List (List ℕ)
lines_in input = slice_split is_end input
