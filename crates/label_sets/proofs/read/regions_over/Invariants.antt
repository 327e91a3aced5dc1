use Rattle.std.proofs.Common.{◌≡◌, map, take}
use Rattle.std.specs.List.{All}
use Rattle.region_labels.specs.Fates.{region_in}
use Rattle.region_labels.specs.Regions.{IsOver}
use Rattle.label_sets.specs.Kept.{HasFewMembers}
use Rattle.label_sets.proofs.read.regions_over.Given as goal

abbrev pub invariant-loop-region : goal.invariant-loop-region
invariant-loop-region l = record {
  over : All (IsOver l.modules) l.regions.items;
  regions : map region_in l.regions.items ≡ take l.region-index l.region-items;
  few : All HasFewMembers l.regions.items;
}
