use Rattle.std.proofs.Common.{◌≡◌, Ok, Some, Result, Option, subst}
use Rattle.std.proofs.lemmas.Result.{err_from_is_err_and}
use Rattle.cmd_words.specs.Lines.{command_in}
use Rattle.view_types.specs.declared.reply.Reply.{Reply}
use Rattle.command_runs.specs.declared.faults.LineFault.{LineFault}
use Rattle.command_runs.specs.Turns.{Answers}
use Rattle.command_runs.proofs.Said.{turns-fault, turns-said, turns-unsaid}
use Rattle.command_runs.proofs.turns.turn.Goals as goal

pub returns-in_ok-say_reply-in-Some : goal.returns-in_ok-say_reply-in-Some
returns-in_ok-say_reply-in-Some g c =
    let m = g.R.Shown in
    let session = c.args.session.now in
    let line = command_in c.args.line.now in
    let reply = c.in-Some.reply in
    let is : c.answer.result ≡ Ok (Some reply) = cc in
    let answered = subst (λ (answer : Result (Option Reply) LineFault). Answers m session c.args.seed c.args.number line c.args.rig.now c.answer.new.session c.answer.new.rig answer) is c.answer.ensures in
    turns-said m session c.args.seed c.args.number line c.args.rig.now c.answer.new.session c.answer.new.rig c.say_reply.new.rig reply answered c.in_ok-say_reply-in-Some.ensures c.is_refused.result c.is_refused.ensures

pub returns-in_err-say_reply-in-Some : goal.returns-in_err-say_reply-in-Some
returns-in_err-say_reply-in-Some g c =
    let m = g.R.Shown in
    let session = c.args.session.now in
    let line = command_in c.args.line.now in
    let reply = c.in-Some.reply in
    let is : c.answer.result ≡ Ok (Some reply) = cc in
    let answered = subst (λ (answer : Result (Option Reply) LineFault). Answers m session c.args.seed c.args.number line c.args.rig.now c.answer.new.session c.answer.new.rig answer) is c.answer.ensures in
    let p = err_from_is_err_and c.from_residual-in_err-say_reply-in-Some.result c.from_residual-in_err-say_reply-in-Some.ensures.1 in
    rw (p.1, p.2)
    (turns-unsaid m session c.args.seed c.args.number line c.args.rig.now c.answer.new.session c.answer.new.rig c.say_reply.new.rig reply answered c.in_err-say_reply-in-Some.field-0.0 c.in_err-say_reply-in-Some.ensures)

pub returns-in_err-reply : goal.returns-in_err-reply
returns-in_err-reply g c =
    let line = command_in c.args.line.now in
    let p = err_from_is_err_and c.from_residual.result c.from_residual.ensures.1 in
    rw (p.1, p.2)
    (turns-fault g.R.Shown c.args.session.now c.args.seed c.args.number line c.args.rig.now c.answer.new.session c.answer.new.rig c.in_err-reply.field-0.0 c.in_err-reply.ensures)
