use Rattle.region_map.specs.Platforms.{IsRegionOf}
use Rattle.region_map.proofs.Zips.{zip_all, zip_more}
use Rattle.region_map.proofs.regions.regions.Goals as goal

pub loop-range-init : goal.loop-range-init
loop-range-init c = rw c.new-regions.ensures tt

pub loop-range-preserved : goal.loop-range-preserved
loop-range-preserved c = rw c.in_ok-push.ensures.ok
    (zip_more (IsRegionOf c.args.parts.now c.args.controls.now) c.args.ranges.now c.loop-range.regions c.loop-range.range-index _ _ c.loop-range-test.true c.loop-range.invariant c.in_ok-region.ensures)

pub returns : goal.returns
returns c = zip_all (IsRegionOf c.args.parts.now c.args.controls.now) c.args.ranges.now c.loop-range.regions c.loop-range.range-index c.loop-range-test.false c.loop-range.invariant
