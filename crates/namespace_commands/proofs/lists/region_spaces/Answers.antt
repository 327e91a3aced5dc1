use Rattle.std.proofs.Common.{◌≡◌, ◌++◌, ap, ◌∙◌}
use Rattle.view_types.specs.declared.reply.Reply.TheVariants.{Namespaces}
use Rattle.namespace_commands.specs.Lists.{listed_in_view}
use Rattle.namespace_commands.proofs.ListedSpaces.{ready_lists}
use Rattle.label_sets.specs.Sets.{labels_in}
use Rattle.namespace_commands.proofs.lists.region_spaces.Goals as goal

pub returns : goal.returns
returns c =
    let ready = c.in-Ok.ensures.view in
    let view = c.in-Ok.view in
    let items : c.from_vec.result ≡ listed_in_view view = c.from_vec.ensures ∙ c.in_ok-push_listed.ensures ∙ ap (λ before. before ++ listed_in_view view) c.new-spaces.ensures.items in
    rw ready.unrefused (record {
      region = ready.region;
      found = ready.found;
      reply_is = ap Namespaces (items ∙ ready_lists c.args.platform.now (labels_in c.args.sets.now) c.args.index view ready);
    })
