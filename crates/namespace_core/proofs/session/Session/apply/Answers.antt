use Rattle.std.proofs.Common.{◌≡◌, ap, false, Ok, Err, sym, subst, ◌∙◌}
use Rattle.cmd_words.specs.Parts.{part_of}
use Rattle.label_table.specs.Tables.{state}
use Rattle.label_sets.specs.Init.{slots_at}
use Rattle.label_sets.specs.Sets.{labels_in}
use Rattle.namespace_core.specs.declared.faults.RunFault.{RunFault}
use Rattle.namespace_core.specs.Commands.{may_change, written_by}
use Rattle.namespace_core.specs.Faults.{IsRunAt}
use Rattle.namespace_core.specs.Sessions.{IsCurrent, StoredSession, labels_of}
use Rattle.namespace_core.specs.Success.{CanCreate}
use Rattle.namespace_commands.specs.Initialising.{Stand}
use Rattle.namespace_core.proofs.Standing.{current-is, kept-session, session-of}
use Rattle.namespace_core.proofs.Success.{can-create}
use Rattle.namespace_core.proofs.session.Session.apply.Goals as goal

pub returns-in-Ok-clause-current : goal.returns-in-Ok-clause-current
returns-in-Ok-clause-current g c = λ current.
    let inside = c.self.inside in
    let is : IsCurrent g.R.Shown c.args.rig.now (session-of inside.platform inside.sets inside.spent) = subst (IsCurrent g.R.Shown c.args.rig.now) (sym c.self.view_is) current in
    let did = c.do_command.ensures in
    current-is g.R.Shown c.do_command.new.rig inside.platform c.do_command.new.sets inside.spent
    (record { regions = did.regions ∙ c.self.invariant.state.regions; modules = did.dimms ∙ c.self.invariant.state.modules })
    (did.writes.says.goes_on.tells ∙ is.told) (c.in-Ok.ensures.stands (is.told, is.stands))

pub returns-in-Err-clause-kept : goal.returns-in-Err-clause-kept
returns-in-Err-clause-kept g c = λ quiet.
    let inside = c.self.inside in
    let now = c.do_command.new.sets in
    let part = part_of c.args.command.now in
    let kept : may_change part (Err c.of-fault.result) ≡ false → now ≡ inside.sets =
    subst (λ (fault : RunFault). may_change part (Err fault) ≡ false → now ≡ inside.sets) (sym c.of-fault.ensures) c.in-Err.ensures.kept in
    let at : IsRunAt (written_by inside.platform part) c.of-fault.result = subst (IsRunAt (written_by inside.platform part)) (sym c.of-fault.ensures) c.in-Err.ensures.at in
    ap (session-of inside.platform now) c.is_area-self-inside.ensures
    ∙ kept-session inside.platform inside.sets now part c.of-fault.result quiet kept at
    ∙ ap (session-of inside.platform inside.sets) (sym c.if-self.false)
    ∙ c.self.view_is

pub returns-in-Ok-clause-creates : goal.returns-in-Ok-clause-creates
returns-in-Ok-clause-creates g c = λ can.
    let inside = c.self.inside in
    let here : CanCreate inside.platform (labels_in inside.sets) (part_of c.args.command.now) c.args.own =
    subst (λ (session : StoredSession). CanCreate session.platform (labels_of session) (part_of c.args.command.now) c.args.own) (sym c.self.view_is) can in
    can-create {E = RunFault} inside.platform (slots_at inside.sets) (labels_in inside.sets) (part_of c.args.command.now) c.args.own
    (state inside.platform (labels_in c.do_command.new.sets)) (Stand g.R.Shown c.args.rig.now inside.sets) (Ok c.in-Ok.reply) c.in-Ok.ensures.step here
