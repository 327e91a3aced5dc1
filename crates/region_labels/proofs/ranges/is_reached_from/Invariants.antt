use Rattle.std.proofs.Common.{◌≡◌}
use Rattle.label_codec.specs.ModuleLabels.{count}
use Rattle.region_labels.specs.Fates.{platform_of}
use Rattle.region_labels.specs.Modules.{labels_in, module_in}
use Rattle.region_labels.specs.LoneRanges.{holds_part}
use Rattle.region_labels.proofs.ranges.is_reached_from.Given as goal

abbrev pub invariant-loop-slot : goal.invariant-loop-slot
invariant-loop-slot l = count (holds_part (platform_of l.regions) (labels_in l.modules) l.loaded.dimm l.base l.range) (module_in l.loaded).at l.slot ≡ 0
