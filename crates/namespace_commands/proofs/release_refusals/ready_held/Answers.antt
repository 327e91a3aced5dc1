use Rattle.std.proofs.Common.{Some, None, subst}
use Rattle.view_types.specs.declared.refusal.Refusal.TheVariants.{NotReady, UnknownDimm}
use Rattle.view_types.specs.declared.states.Status.TheVariants.{Area}
use Rattle.label_sets.specs.Sets.{labels_in}
use Rattle.label_sets.specs.Views.{ViewsModule}
use Rattle.namespace_commands.proofs.HeldLists.{held_is, known_module, unknown_module, unready_is}
use Rattle.namespace_commands.proofs.ReleaseRefusals.{ready-held, unready-held}
use Rattle.namespace_commands.proofs.release_refusals.ready_held.Goals as goal

pub returns-in-Ok-None-clause-refused : goal.returns-in-Ok-None-clause-refused
returns-in-Ok-None-clause-refused c = λ more.
    let P = c.args.platform.now in
    let sets = c.args.sets.now in
    let dimm = c.args.dimm in
    let views : ViewsModule sets dimm None = subst (ViewsModule sets dimm) c.in-Ok-None.field-0-is c.in-Ok-None.ensures in
    unready-held P (labels_in sets) dimm (UnknownDimm dimm) more (unknown_module P sets dimm c.requires views)

pub returns-in-Ready-clause-held : goal.returns-in-Ready-clause-held
returns-in-Ready-clause-held c =
    let P = c.args.platform.now in
    let sets = c.args.sets.now in
    let dimm = c.args.dimm in
    let view = c.in-Ok-Some.view in
    let views : ViewsModule sets dimm (Some view) = subst (ViewsModule sets dimm) c.in-Ok-Some.field-0-is c.in-Ok-Some.ensures in
    ready-held P (labels_in sets) dimm view.held c.in-Ready.spare (held_is P sets dimm c.requires view (known_module P sets dimm c.requires view views) c.in-Ready.slots c.in-Ready.spare c.in-Ready.is)

pub returns-in_default-clause-refused : goal.returns-in_default-clause-refused
returns-in_default-clause-refused c = λ more.
    let P = c.args.platform.now in
    let sets = c.args.sets.now in
    let dimm = c.args.dimm in
    let view = c.in-Ok-Some.view in
    let views : ViewsModule sets dimm (Some view) = subst (ViewsModule sets dimm) c.in-Ok-Some.field-0-is c.in-Ok-Some.ensures in
    unready-held P (labels_in sets) dimm (NotReady (Area dimm view.state)) more (unready_is P sets dimm c.requires view (known_module P sets dimm c.requires view views) c.in_default.not-Ready)
