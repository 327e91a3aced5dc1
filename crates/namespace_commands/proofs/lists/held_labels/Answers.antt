use Rattle.std.proofs.Common.{Some, None, subst}
use Rattle.label_sets.specs.Views.{ViewsModule}
use Rattle.namespace_commands.proofs.HeldLists.{held_is, known_module, unknown_module, unready_is}
use Rattle.namespace_commands.proofs.lists.held_labels.Goals as goal

pub returns-in_default : goal.returns-in_default
returns-in_default c =
    let sets = c.args.sets.now in
    let views : ViewsModule sets c.args.dimm None = subst (ViewsModule sets c.args.dimm) c.in_default.is c.in_ok-view.ensures in
    unknown_module c.args.platform.now sets c.args.dimm c.requires.state views

pub returns-in-Ready : goal.returns-in-Ready
returns-in-Ready c =
    let sets = c.args.sets.now in
    let platform = c.args.platform.now in
    let view = c.in-Some.view in
    let views : ViewsModule sets c.args.dimm (Some view) = subst (ViewsModule sets c.args.dimm) c.in-Some.is c.in_ok-view.ensures in
    held_is platform sets c.args.dimm c.requires.state view (known_module platform sets c.args.dimm c.requires.state view views) c.in-Ready.slots c.in-Ready.spare c.in-Ready.is

pub returns-in_default-state : goal.returns-in_default-state
returns-in_default-state c =
    let sets = c.args.sets.now in
    let platform = c.args.platform.now in
    let view = c.in-Some.view in
    let views : ViewsModule sets c.args.dimm (Some view) = subst (ViewsModule sets c.args.dimm) c.in-Some.is c.in_ok-view.ensures in
    unready_is platform sets c.args.dimm c.requires.state view (known_module platform sets c.args.dimm c.requires.state view views) c.in_default-state.not-Ready
