use Rattle.std.proofs.Common.{false}
use Rattle.label_table.specs.Spaces.{is_pending}
use Rattle.label_table.proofs.Equations.{by_index-same}
use Rattle.label_table.proofs.Initialising.{init-pending, init-table}
use Rattle.label_table.proofs.Releasing.{release-pending, release-table}
use Rattle.label_table.proofs.laws.settling_laws.Goals as goal

pub returns-clause-initialised : goal.returns-clause-initialised
returns-clause-initialised c = λ P m slots L M disjoint bounded init. init-table P disjoint L M bounded m slots init

pub returns-clause-initialised_marks : goal.returns-clause-initialised_marks
returns-clause-initialised_marks c = λ P m slots L M disjoint bounded init.
    λ i n v. by_index-same P false (is_pending M) (is_pending L) (λ r u in_P. init-pending P disjoint L M bounded m slots init r u) n v i

pub returns-clause-released : goal.returns-clause-released
returns-clause-released c = λ P m u L M disjoint bounded release. release-table P disjoint L M bounded m u release

pub returns-clause-released_marks : goal.returns-clause-released_marks
returns-clause-released_marks c = λ P m u L M disjoint bounded release.
    λ i n v. by_index-same P false (is_pending M) (is_pending L) (release-pending P disjoint L M bounded m u release) n v i
