use Rattle.std.proofs.Common.{◌≡◌, List, ℕ, map, subst, sym, ◌∙◌}
use Rattle.region_map.specs.declared.platform.Platform.{Platform}
use Rattle.namespace_core.specs.Sessions.{slots_of, state_of}
use Rattle.namespace_core.proofs.Alike.{sized-current}
use Rattle.nd_top.specs.Runs.{EndsOn, not_started, ran}
use Rattle.nd_top.proofs.Finished.{are_run}
use Rattle.nd_top.proofs.runs.run_on.Goals as goal

pub run_lines-outcome-requires-clause-sized : goal.run_lines-outcome-requires-clause-sized
run_lines-outcome-requires-clause-sized g c told =
    let started = c.in-Ok.ensures.started in
    sized-current c.start_session.new.rig c.in-Ok.session (started.current (sym started.reads.goes_on.tells ∙ told))

pub returns-in-Err-clause-ends : goal.returns-in-Err-clause-ends
returns-in-Err-clause-ends g c = not_started c.start_session.new.rig c.in-Err.fault c.in-Err.ensures.fault c.say_fault.ensures

pub returns-clause-ends : goal.returns-clause-ends
returns-clause-ends g c =
    let session = c.in-Ok.session in
    let started = c.in-Ok.ensures.started in
    let lines : List (List ℕ) = map (λ line. line.now) c.args.lines.now in
    let does = c.run_lines-outcome.ensures in
    let status = c.say_end.result in
    subst (λ (platform : Platform). EndsOn g.R.Shown c.args.seed platform lines c.args.rig.now c.say_end.new.rig status) started.opened.0
    (ran (slots_of session) (state_of session)
    (are_run g.R.Shown c.args.rig.now c.start_session.new.rig c.run_lines-outcome.new.rig session c.run_lines-outcome.new.session c.args.seed lines started.reads started.current started.faults
    does.platform does.goes_on does.any_moment does.bytes_left c.say_end.new.rig c.run_lines-outcome.result status does.ends does.cause does.among does.bytes c.say_end.ensures.ends))
