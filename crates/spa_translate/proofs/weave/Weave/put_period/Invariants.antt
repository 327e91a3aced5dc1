use Rattle.std.proofs.Common.{◌+◌, ◌*◌}
use Rattle.spa_translate.specs.Runs.{AreUpTo}
use Rattle.spa_translate.proofs.weave.Weave.put_period.Given as goal

abbrev pub invariant-loop-j : goal.invariant-loop-j
invariant-loop-j l = AreUpTo l.self l.spa l.bytes l.strand ((l.k * l.lines + l.j) * l.line_size) l.extents.items
