use Rattle.std.proofs.Common.{◌≡◌, ◌++◌}
use Rattle.region_labels.specs.Fates.{platform_of}
use Rattle.region_labels.specs.Modules.{labels_in, module_in}
use Rattle.region_labels.specs.Ranges.{held_ranges_below}
use Rattle.region_labels.proofs.free.push_held_ranges.Given as goal

abbrev pub invariant-loop-slot : goal.invariant-loop-slot
invariant-loop-slot l =
    l.ranges.items ≡ l.fn.ranges.items ++ held_ranges_below (platform_of l.regions) (labels_in l.modules) l.base l.loaded.dimm (module_in l.loaded).at l.slot
