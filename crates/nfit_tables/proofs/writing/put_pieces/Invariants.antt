use Rattle.std.proofs.Common.{◌≡◌, ◌++◌, take}
use Rattle.nfit_tables.specs.Spelling.{spellings}
use Rattle.nfit_tables.proofs.writing.put_pieces.Given as goal

abbrev pub invariant-loop-piece : goal.invariant-loop-piece
invariant-loop-piece l = l.out.items ≡ l.fn.out.items ++ spellings (take l.piece-index l.pieces)
