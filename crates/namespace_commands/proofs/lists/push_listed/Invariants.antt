use Rattle.std.proofs.Common.{◌≡◌, ◌++◌, drop, map}
use Rattle.namespace_commands.specs.Lists.{listed_by}
use Rattle.namespace_commands.proofs.lists.push_listed.Given as goal

abbrev pub invariant-loop-space : goal.invariant-loop-space
invariant-loop-space l =
    l.spaces.items ++ map (listed_by l.view.index l.view.ways) (drop l.space-index l.view.namespaces)
    ≡ l.fn.spaces.items ++ map (listed_by l.view.index l.view.ways) l.view.namespaces
