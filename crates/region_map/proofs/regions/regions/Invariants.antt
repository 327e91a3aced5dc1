use Rattle.std.proofs.Common.{take}
use Rattle.std.specs.List.{AllZip}
use Rattle.region_map.specs.Platforms.{IsRegionOf}
use Rattle.region_map.proofs.regions.regions.Given as goal

abbrev pub invariant-loop-range : goal.invariant-loop-range
invariant-loop-range l = AllZip (IsRegionOf l.parts l.controls) (take l.range-index l.ranges) l.regions
