use Rattle.std.proofs.Common.{◌≡◌, map, take}
use Rattle.label_sets.specs.Sets.{labels_in}
use Rattle.namespace_commands.specs.Lists.{shown_region}
use Rattle.namespace_commands.proofs.lists.regions.Given as goal

abbrev pub invariant-loop-region : goal.invariant-loop-region
invariant-loop-region l = l.shown.items ≡ map (shown_region (labels_in l.sets)) (take l.region-index l.platform.regions)
