use Rattle.table_steps.proofs.Destroyed.{distinct, elsewhere, freed, gone, listed, ready, stays_free}
use Rattle.table_steps.proofs.laws.freed_laws.Goals as goal

pub returns-clause-gone : goal.returns-clause-gone
returns-clause-gone c = λ P L M index key reply after done disjoint stands. gone P L index key reply after done disjoint M stands

pub returns-clause-others : goal.returns-clause-others
returns-clause-others c = λ P L M index key reply after done disjoint stands. listed P L index key reply after done disjoint M stands

pub returns-clause-freed : goal.returns-clause-freed
returns-clause-freed c = λ P L M index key reply after done disjoint stands was_ready o here unheld.
    freed P L index key reply after done disjoint M stands was_ready o here unheld

pub returns-clause-stays_free : goal.returns-clause-stays_free
returns-clause-stays_free c = λ P L M index key reply after done disjoint stands o free. stays_free P L index key reply after done disjoint M stands o free

pub returns-clause-ready : goal.returns-clause-ready
returns-clause-ready c = λ P L M index key reply after done disjoint stands was_ready. ready P L index key reply after done disjoint M stands was_ready

pub returns-clause-elsewhere : goal.returns-clause-elsewhere
returns-clause-elsewhere c = λ P L M index key reply after done disjoint stands q in_q other.
    elsewhere P L index key reply after done disjoint M stands q in_q other

pub returns-clause-distinct : goal.returns-clause-distinct
returns-clause-distinct c = λ P L M index key reply after done disjoint stands before. distinct P L index key reply after done disjoint M stands before
