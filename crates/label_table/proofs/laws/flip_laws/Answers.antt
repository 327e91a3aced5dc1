use Rattle.label_table.proofs.Changing.{replaced-elsewhere, replaced-kept, replaced-state}
use Rattle.label_table.proofs.Listed.{space-whole}
use Rattle.label_table.proofs.Losing.{freed-state}
use Rattle.label_table.proofs.Order.{space-uuid}
use Rattle.label_table.proofs.Staging.{left-state, staged-gains, staged-kept, whole-aligned}
use Rattle.label_table.proofs.laws.flip_laws.Goals as goal

pub returns-clause-swept : goal.returns-clause-swept
returns-clause-swept c = λ P L M left. left-state P L M left

pub returns-clause-staged : goal.returns-clause-staged
returns-clause-staged c = λ P r u z L M adds n. staged-kept P r u z L M adds n

pub returns-clause-whole : goal.returns-clause-whole
returns-clause-whole c = λ r u at size L x xs there aligned all members. whole-aligned r u at size L there aligned all x xs members

pub returns-clause-completed : goal.returns-clause-completed
returns-clause-completed c = λ P r u z L M s adds is. staged-gains P r u z L M adds s (space-whole M r u s is) (space-uuid M r u s is) is

pub returns-clause-replaced : goal.returns-clause-replaced
returns-clause-replaced c = λ P r u z L M s replaces is. replaced-state P r u z L M replaces s (space-uuid M r u s is) is

pub returns-clause-kept : goal.returns-clause-kept
returns-clause-kept c = λ P r u z L M replaces same. replaced-kept P r u z L M replaces same

pub returns-clause-elsewhere : goal.returns-clause-elsewhere
returns-clause-elsewhere c = λ P r u z L M x xs replaces members differ writes writes_after. replaced-elsewhere P r u z L M replaces x xs members differ writes writes_after

pub returns-clause-freed : goal.returns-clause-freed
returns-clause-freed c = λ P r u z L M frees. freed-state P r u z L M frees
