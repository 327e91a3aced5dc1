use Rattle.std.proofs.Common.{◌≡◌, List, ℕ, Ok, Some, Result, Option, sym, subst}
use Rattle.cmd_words.specs.Lines.{command_in}
use Rattle.cmd_words.specs.declared.commands.Command.{Command}
use Rattle.cmd_words.specs.Parts.{part_of}
use Rattle.view_types.specs.declared.reply.Reply.{Reply}
use Rattle.view_types.specs.declared.word_fault.WordFault.{WordFault}
use Rattle.command_runs.specs.declared.faults.LineFault.{LineFault}
use Rattle.command_runs.specs.Turns.{Answers}
use Rattle.command_runs.proofs.Applied.{HasApplied, answers-command}
use Rattle.command_runs.proofs.turns.answer.Goals as goal

pub returns-in-Ok-Some : goal.returns-in-Ok-Some
returns-in-Ok-Some g c =
    let m = g.R.Shown in
    let session = c.args.session.now in
    let command = c.in-Ok-Some.command in
    let old = c.args.rig.now in
    let now = c.apply.new.self in
    let new = c.apply.new.rig in
    let did = c.apply.ensures in
    let has : HasApplied m session (part_of command) c.own_uuid.result old now new c.apply.result = record {
      step = did.step;
      anyhow = did.anyhow;
      current = did.current;
      any_moment = did.any_moment;
      kept = did.kept;
      reads_only = did.reads_only;
      writes = did.writes;
      area = did.area;
      area_left = did.area_left;
      cause = did.cause;
      among = did.among;
      at = did.at;
      spends = did.spends;
      platform = did.platform;
      alike = record { dimms = did.dimms; sizes = did.sizes };
      reads = did.reads;
    } in
    let is : command_in c.args.line.now ≡ Ok (Some command) = cc in
    subst (λ (line : Result (Option Command) WordFault). Answers m session c.args.seed c.args.number line old now new c.answer_by.result) (sym is)
    (subst (λ (answer : Result (Option Reply) LineFault). Answers m session c.args.seed c.args.number (Ok (Some command)) old now new answer) (sym c.answer_by.ensures)
    (answers-command m session c.args.seed c.args.number old now new command c.apply.result
    (subst (λ (own : List ℕ). HasApplied m session (part_of command) own old now new c.apply.result) c.own_uuid.ensures has) c.requires.unspent))
