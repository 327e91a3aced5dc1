use Rattle.std.proofs.Common.{ℕ, List, refl, subst, ◌∙◌}
use Rattle.run_edges.specs.declared.faults.Fault.TheVariants.{Memory}
use Rattle.nd_top.specs.Lines.{EndsLine, line_without}
use Rattle.nd_top.proofs.line.do_words.Goals as goal

pub returns-in-Ok-clause-ends : goal.returns-in-Ok-clause-ends
returns-in-Ok-clause-ends g c =
    subst (λ (bytes : List ℕ). EndsLine g.R.Shown g.N.Source c.args.seed bytes c.args.rig.now c.do_line.new.rig c.args.nfit.now c.do_line.new.nfit c.do_line.result) (c.deref.ensures ∙ c.in-Ok.ensures) c.do_line.ensures.ends

pub returns-in-Err-clause-ends : goal.returns-in-Err-clause-ends
returns-in-Err-clause-ends g c =
    line_without Memory (record { cause = tt; ended = λ told. tt; draws = record { tells = refl; faults = refl } }) c.say_fault.ensures
