use Rattle.std.proofs.Common.{take}
use Rattle.std.specs.List.{AllZip}
use Rattle.label_sets.specs.Sets.{labels_in, platform_in}
use Rattle.label_sets.specs.Views.{IsRegionView}
use Rattle.label_sets.proofs.sets.Sets.region_views.Given as goal

abbrev pub invariant-loop-place : goal.invariant-loop-place
invariant-loop-place l = AllZip (IsRegionView (platform_in l.self) (labels_in l.self)) (take l.place l.self.regions) l.views
