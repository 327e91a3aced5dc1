-- Which tables can be written.
use Rattle.std.specs.Prelude.{◌&&◌, Bool, length, nat_le, nat_lt}
use Rattle.std.specs.List.{list_all}
use Rattle.nfit_tables.specs.declared.pieces.Nfit.{Nfit}
use Rattle.nfit_tables.specs.Limits.{most_bytes}
use Rattle.nfit_tables.specs.Spelling.{length_of, spelling}

-- each structure is shorter than 65,536 bytes, and the whole has at most `most_bytes`
abbrev pub fits : Nfit → Bool
fits n = list_all (λ p. nat_lt (length (spelling p)) 65536) n.pieces && nat_le (length_of n) most_bytes
