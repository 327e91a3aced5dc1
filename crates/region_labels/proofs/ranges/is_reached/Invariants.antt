use Rattle.std.proofs.Common.{◌≡◌, false, take}
use Rattle.std.specs.List.{list_any}
use Rattle.region_labels.specs.Fates.{platform_of}
use Rattle.region_labels.specs.Modules.{labels_in}
use Rattle.region_labels.specs.LoneRanges.{is_reached_by}
use Rattle.region_labels.proofs.ranges.is_reached.Given as goal

abbrev pub invariant-loop-position : goal.invariant-loop-position
invariant-loop-position l = list_any (is_reached_by (platform_of l.regions) (labels_in l.modules) l.range) (take l.position l.kept.region.members) ≡ false
