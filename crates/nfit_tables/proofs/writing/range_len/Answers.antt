use Rattle.std.proofs.Common.{arith}
use Rattle.nfit_tables.proofs.Sizes.{length-range}
use Rattle.nfit_tables.proofs.writing.range_len.Goals as goal

pub returns : goal.returns
returns c = rw (length-range c.args.p.now (omega arith)) (rw c.len.ensures at c.len_with.ensures)
