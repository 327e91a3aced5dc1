use Rattle.std.specs.Prelude.{map}
use Rattle.command_runs.proofs.Going.{IsGoing}
use Rattle.command_runs.proofs.runs.run_lines.Given as goal

abbrev pub invariant-loop-index : goal.invariant-loop-index
invariant-loop-index g l = IsGoing g.R.Shown l.fn.session l.seed (map (λ line. line.now) l.lines) l.fn.rig l.index l.session l.rig l.refused
