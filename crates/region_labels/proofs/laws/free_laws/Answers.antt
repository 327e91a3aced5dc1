use Rattle.label_table.proofs.SoundPlatforms.{sound-disjoint}
use Rattle.region_labels.proofs.FreeSpace.{completed, extents-kept, gained-elsewhere, gained-extents, lost-elsewhere, lost-extents, regions-disjoint, shown-all}
use Rattle.region_labels.proofs.laws.free_laws.Goals as goal

pub returns-clause-kept : goal.returns-clause-kept
returns-clause-kept c = λ P L M q extents disjoint same in_q are. extents-kept P disjoint L M same q in_q extents are

pub returns-clause-completed : goal.returns-clause-completed
returns-clause-completed c = completed

pub returns-clause-gained : goal.returns-clause-gained
returns-clause-gained c = λ P r new L M old now gains are carved. gained-extents P r new L M gains old now are carved

pub returns-clause-gained_elsewhere : goal.returns-clause-gained_elsewhere
returns-clause-gained_elsewhere c = λ P r q new L M extents gains in_q other are.
    gained-elsewhere P r new L M gains q in_q other extents are

pub returns-clause-lost : goal.returns-clause-lost
returns-clause-lost c = λ P r gone L M old now loses alone are released.
    lost-extents P r gone L M loses alone old now are released

pub returns-clause-lost_elsewhere : goal.returns-clause-lost_elsewhere
returns-clause-lost_elsewhere c = λ P r q gone L M extents loses in_q other are.
    lost-elsewhere P r gone L M loses q in_q other extents are

pub returns-clause-shown : goal.returns-clause-shown
returns-clause-shown c = λ P r q old new L M extents shows in_q are. shown-all P r old new L M shows q in_q extents are

pub returns-clause-disjoint : goal.returns-clause-disjoint
returns-clause-disjoint c = λ P sound. regions-disjoint P (sound-disjoint P sound)
