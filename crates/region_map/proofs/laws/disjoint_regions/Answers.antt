use Rattle.region_map.proofs.Disjoint.{disjoint}
use Rattle.region_map.proofs.laws.disjoint_regions.Goals as goal

pub returns : goal.returns
returns c = disjoint
