use Rattle.std.proofs.Common.{Some, subst, sym}
use Rattle.label_sets.specs.Views.{ViewsRegion}
use Rattle.namespace_commands.proofs.Unread.{known_view, ready_view}
use Rattle.namespace_commands.proofs.lists.ready_view.Goals as goal

pub returns-in-None-clause-view : goal.returns-in-None-clause-view
returns-in-None-clause-view c =
    let sets = c.args.sets.now in
    let view = c.in-Ok-Some.view in
    let views : ViewsRegion sets c.args.index (Some view) = subst (ViewsRegion sets c.args.index) c.in-Ok-Some.field-0-is c.in-Ok-Some.ensures in
    ready_view c.args.platform.now sets c.args.index c.requires.state view (known_view c.args.platform.now sets c.args.index c.requires.state view views) (sym c.in-None.ensures)
