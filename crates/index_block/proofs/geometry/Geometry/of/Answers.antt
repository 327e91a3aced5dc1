use Rattle.std.proofs.Common.{sym, rules}
use Rattle.index_block.proofs.geometry.Geometry.of.Goals as goal

pub returns-clause-geometry : goal.returns-clause-geometry
returns-clause-geometry c = (c.args.size, sym (search rules))
