use Rattle.std.proofs.Common.{◌≡◌, ◌++◌, drop}
use Rattle.label_sets.specs.Sets.{labels_in}
use Rattle.namespace_commands.specs.Lists.{spaces_of_all}
use Rattle.namespace_commands.proofs.lists.all_spaces.Given as goal

abbrev pub invariant-loop-region : goal.invariant-loop-region
invariant-loop-region l =
    l.spaces.items ++ spaces_of_all (labels_in l.sets) (drop l.region-index l.platform.regions) ≡ spaces_of_all (labels_in l.sets) l.platform.regions
