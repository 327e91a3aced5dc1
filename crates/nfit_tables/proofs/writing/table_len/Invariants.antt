use Rattle.std.proofs.Common.{◌≡◌, ◌+◌, ◌≤◌, true, length, take, nat_lt}
use Rattle.std.specs.List.{list_all}
use Rattle.nfit_tables.specs.Spelling.{spelling, spellings}
use Rattle.nfit_tables.proofs.writing.table_len.Given as goal

abbrev pub invariant-loop-piece : goal.invariant-loop-piece
invariant-loop-piece l = record {
  len : l.len ≡ 40 + length (spellings (take l.piece-index l.nfit.pieces));
  most : l.len ≤ 1048576;
  short : list_all (λ p. nat_lt (length (spelling p)) 65536) (take l.piece-index l.nfit.pieces) ≡ true;
}
