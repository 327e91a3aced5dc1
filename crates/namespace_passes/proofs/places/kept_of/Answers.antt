use Rattle.namespace_passes.proofs.Seats.{named-by-index}
use Rattle.namespace_passes.proofs.places.kept_of.Goals as goal

pub returns-then-kept-region-clause-region : goal.returns-then-kept-region-clause-region
returns-then-kept-region-clause-region c =
    named-by-index c.args.regions.now c.requires.disjoint c.loop-kept.kept-index c.kept-item.result c.loop-kept-test.true c.kept-item.is c.args.region.now c.requires.region_in c.if-kept-region.true
