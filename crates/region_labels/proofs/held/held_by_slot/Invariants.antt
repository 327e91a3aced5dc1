use Rattle.std.proofs.Common.{◌≡◌}
use Rattle.region_labels.specs.Fates.{platform_of}
use Rattle.region_labels.specs.Held.{held_below}
use Rattle.region_labels.specs.Modules.{labels_in, module_in}
use Rattle.region_labels.proofs.held.held_by_slot.Given as goal

abbrev pub invariant-loop-slot : goal.invariant-loop-slot
invariant-loop-slot l = l.held.items ≡ held_below (platform_of l.regions) (labels_in l.modules) l.loaded.dimm (module_in l.loaded).at l.slot
