use Rattle.std.proofs.Common.{ℕ, List, Bor, map, refl, ap, subst, ◌∙◌}
use Rattle.run_edges.specs.declared.faults.Fault.TheVariants.{Memory}
use Rattle.command_runs.specs.Lines.{lines_in}
use Rattle.nd_top.specs.Lines.{input_on, input_unread, input_without}
use Rattle.nd_top.specs.Runs.{EndsOn}
use Rattle.nd_top.proofs.input.run_input.Goals as goal

pub returns-in-Ok-lines_of-clause-ends : goal.returns-in-Ok-lines_of-clause-ends
returns-in-Ok-lines_of-clause-ends g c =
    let bytes = c.in-Ok-read_all.bytes.items in
    input_on c.in-Ok.platform c.in-Ok.ensures.platform bytes c.in-Ok-read_all.ensures.bytes
    (subst (λ (lines : List (List ℕ)). EndsOn g.R.Shown c.args.seed c.in-Ok.platform lines c.args.rig.now c.run_on.new.rig c.run_on.result)
    (ap (λ (parts : List (Bor (List ℕ))). map (λ line. line.now) parts) c.deref-in-Ok-lines_of.ensures.value ∙ c.in-Ok-lines_of.ensures ∙ ap lines_in c.deref.ensures.value)
    c.run_on.ensures.ends)

pub returns-in-Err-lines_of-clause-ends : goal.returns-in-Err-lines_of-clause-ends
returns-in-Err-lines_of-clause-ends g c =
    input_unread c.in-Ok.platform c.in-Ok.ensures.platform Memory (record { cause = tt; draws = c.in-Ok-read_all.ensures.bytes.draws }) c.say_fault-in-Err-lines_of.ensures

pub returns-in-Err-clause-ends : goal.returns-in-Err-clause-ends
returns-in-Err-clause-ends g c = input_without c.in-Err.fault c.in-Err.ensures.fault refl c.say_fault.ensures

pub returns-in-Err-read_all-clause-ends : goal.returns-in-Err-read_all-clause-ends
returns-in-Err-read_all-clause-ends g c =
    input_unread c.in-Ok.platform c.in-Ok.ensures.platform c.in-Err-read_all.fault c.in-Err-read_all.ensures.fault c.say_fault-in-Err-read_all.ensures
