use Rattle.label_table.proofs.SoundPlatforms.{sound-disjoint}
use Rattle.label_table.proofs.WholeUuids.{position-own, region_of-belongs}
use Rattle.label_table.proofs.laws.region_laws.Goals as goal

pub returns-clause-sound : goal.returns-clause-sound
returns-clause-sound c = sound-disjoint

pub returns-clause-one_region : goal.returns-clause-one_region
returns-clause-one_region c = λ P r m l disjoint in_P b. region_of-belongs P disjoint r m l in_P b

pub returns-clause-own_position : goal.returns-clause-own_position
returns-clause-own_position c = λ P r m l k disjoint in_P b lt is. position-own P disjoint r m l k in_P b lt is
