use Rattle.region_labels.proofs.RoomSums.{all-first, all-others, all-replaced, all-reserved}
use Rattle.region_labels.proofs.laws.room_laws.Goals as goal

pub returns-clause-reserved : goal.returns-clause-reserved
returns-clause-reserved c = all-reserved

pub returns-clause-first : goal.returns-clause-first
returns-clause-first c = all-first

pub returns-clause-others : goal.returns-clause-others
returns-clause-others c = all-others

pub returns-clause-replaced : goal.returns-clause-replaced
returns-clause-replaced c = all-replaced
