use Rattle.std.proofs.Common.{◌≡◌, ℕ, List, drop}
use Rattle.nfit_tables.specs.Proper.{names}
use Rattle.nfit_tables.specs.Reading.{first_twice, twice_behind}
use Rattle.nfit_tables.specs.Marks.{Knows}
use Rattle.nfit_tables.proofs.counting.first_twice.Given as goal

abbrev pub invariant-loop-piece : goal.invariant-loop-piece
invariant-loop-piece l = (earlier : List (ℕ × ℕ)) × Knows l.seen earlier × (twice_behind earlier (names (drop l.piece-index l.pieces)) ≡ first_twice l.pieces)
