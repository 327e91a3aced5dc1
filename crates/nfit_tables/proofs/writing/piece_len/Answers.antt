use Rattle.std.proofs.Common.{arith}
use Rattle.nfit_tables.proofs.Sizes.{length-control, length-interleave, length-mapping}
use Rattle.nfit_tables.proofs.writing.piece_len.Goals as goal

pub returns-in-Mapping : goal.returns-in-Mapping
returns-in-Mapping c = rw (c.in-Mapping.is, length-mapping) (rw c.len.ensures at c.len_with.ensures)

pub returns-then-lines-lt16384 : goal.returns-then-lines-lt16384
returns-then-lines-lt16384 c = rw (c.in-Interleave.is, length-interleave) (rw (c.len-then-lines-lt16384.ensures, c.len-lines.ensures) at c.len_with-then-lines-lt16384.ensures)

pub returns-else-lines-lt16384 : goal.returns-else-lines-lt16384
returns-else-lines-lt16384 c = rw (c.in-Interleave.is, length-interleave) (λ below. omega (arith, below))

pub returns-in-Control : goal.returns-in-Control
returns-in-Control c = rw (c.in-Control.is, length-control) (rw c.len-in-Control.ensures at c.len_with-in-Control.ensures)
