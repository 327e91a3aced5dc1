-- Lengths and limits, in bytes where nothing else is said.
use Rattle.std.specs.Prelude.{ℕ}

abbrev pub header_len : ℕ
header_len = 40

-- the type and the length of a structure
abbrev pub least_structure : ℕ
least_structure = 4

abbrev pub least_range : ℕ
least_range = 56

abbrev pub least_mapping : ℕ
least_mapping = 48

-- an interleave structure without lines
abbrev pub least_interleave : ℕ
least_interleave = 16

abbrev pub least_control : ℕ
least_control = 32

-- of a table that is written
abbrev pub most_bytes : ℕ
most_bytes = 1048576

-- address ranges of persistent memory with an index above 0
abbrev pub most_regions : ℕ
most_regions = 64

-- device handles in mappings
abbrev pub most_modules : ℕ
most_modules = 64
