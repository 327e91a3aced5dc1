use Rattle.region_map.proofs.Disjoint.{unusable_region}
use Rattle.region_map.proofs.laws.unusable_regions.Goals as goal

pub returns : goal.returns
returns c = unusable_region
