use Rattle.std.proofs.Common.{◌++◌, List, ap, ◌∙◌}
use Rattle.std.proofs.lemmas.Result.{on_ok_weaker}
use Rattle.view_types.specs.declared.namespaces.Listed.{Listed}
use Rattle.label_sets.specs.Sets.{labels_in}
use Rattle.namespace_commands.proofs.ListedSpaces.{adds_ready}
use Rattle.namespace_commands.proofs.lists.push_spaces.Goals as goal

pub returns-in-Ok : goal.returns-in-Ok
returns-in-Ok c =
    let adds = adds_ready c.args.platform.now (labels_in c.args.sets.now) c.args.region.now c.in-Ok.view c.requires.known c.in-Ok.ensures.view in
    on_ok_weaker c.push_listed.result (λ pushed. pushed ∙ ap (λ (more : List Listed). c.args.spaces.now.items ++ more) adds) c.push_listed.ensures
