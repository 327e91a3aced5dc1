use Rattle.table_steps.proofs.Created.{distinct, elsewhere, multiple, ready, some, was_free, whole}
use Rattle.table_steps.proofs.laws.range_laws.Goals as goal

pub returns-clause-aligned : goal.returns-clause-aligned
returns-clause-aligned c = λ P L free a reply after accepts. multiple P L free a reply after accepts

pub returns-clause-whole : goal.returns-clause-whole
returns-clause-whole c = λ P L free a reply after accepts. whole P L free a reply after accepts

pub returns-clause-some : goal.returns-clause-some
returns-clause-some c = λ P L free a reply after accepts. some P L free a reply after accepts

pub returns-clause-was_free : goal.returns-clause-was_free
returns-clause-was_free c = λ P L free a reply after accepts o ge lt. was_free P L free a reply after accepts o ge lt

pub returns-clause-ready : goal.returns-clause-ready
returns-clause-ready c = λ P L M free a reply after accepts disjoint stands. ready P L free a reply after accepts disjoint M stands

pub returns-clause-elsewhere : goal.returns-clause-elsewhere
returns-clause-elsewhere c = λ P L M free a reply after accepts disjoint stands q in_q other.
    elsewhere P L free a reply after accepts disjoint M stands q in_q other

pub returns-clause-distinct : goal.returns-clause-distinct
returns-clause-distinct c = λ P L M free a reply after accepts disjoint stands before. distinct P L free a reply after accepts disjoint M stands before
