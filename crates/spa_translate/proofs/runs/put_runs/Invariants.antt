use Rattle.std.proofs.Common.{◌≡◌, ◌++◌, map, take}
use Rattle.spa_translate.specs.Runs.{run_of}
use Rattle.spa_translate.proofs.runs.put_runs.Given as goal

abbrev pub invariant-loop-extent : goal.invariant-loop-extent
invariant-loop-extent l = l.runs ≡ l.initial.runs ++ map (run_of l.strand) (take l.extent-index l.extents)
