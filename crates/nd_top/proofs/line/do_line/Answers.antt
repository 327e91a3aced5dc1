use Rattle.std.proofs.Common.{ℕ, List, [], ◌∷◌, subst}
use Rattle.nd_top.specs.Lines.{line_on, line_without}
use Rattle.nd_top.specs.Runs.{EndsOn}
use Rattle.nd_top.proofs.line.do_line.Goals as goal

pub returns-in-Ok-clause-ends : goal.returns-in-Ok-clause-ends
returns-in-Ok-clause-ends g c =
    line_on c.in-Ok.platform c.in-Ok.ensures.platform
    (subst (λ (line : List ℕ). EndsOn g.R.Shown c.args.seed c.in-Ok.platform (line ∷ []) c.args.rig.now c.run_on.new.rig c.run_on.result) c.as_bytes.ensures.value c.run_on.ensures.ends)

pub returns-in-Err-clause-ends : goal.returns-in-Err-clause-ends
returns-in-Err-clause-ends g c = line_without c.in-Err.fault c.in-Err.ensures.fault c.say_fault.ensures
