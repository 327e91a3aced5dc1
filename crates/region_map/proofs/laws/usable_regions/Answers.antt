use Rattle.region_map.proofs.Disjoint.{usable_region}
use Rattle.region_map.proofs.laws.usable_regions.Goals as goal

pub returns : goal.returns
returns c = usable_region
