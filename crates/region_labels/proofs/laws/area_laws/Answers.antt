use Rattle.region_labels.proofs.AreaFlips.{free-loses, put-replaces}
use Rattle.region_labels.proofs.laws.area_laws.Goals as goal

pub returns-clause-put : goal.returns-clause-put
returns-clause-put c = put-replaces

pub returns-clause-freed : goal.returns-clause-freed
returns-clause-freed c = free-loses
