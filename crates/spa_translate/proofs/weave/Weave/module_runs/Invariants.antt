use Rattle.std.proofs.Common.{take}
use Rattle.spa_translate.specs.Runs.{AreRunsOf}
use Rattle.spa_translate.proofs.weave.Weave.module_runs.Given as goal

abbrev pub invariant-loop-strand : goal.invariant-loop-strand
invariant-loop-strand l = AreRunsOf l.self l.spa l.length (take l.strand-index l.strand-items) l.runs
