use Rattle.region_map.proofs.Ordered.{ordered}
use Rattle.region_map.proofs.laws.regions_by_index.Goals as goal

pub returns : goal.returns
returns c = ordered
