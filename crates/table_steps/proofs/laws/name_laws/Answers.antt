use Rattle.table_steps.proofs.AcceptedChanges.{own-listed}
use Rattle.table_steps.proofs.Names.{kept-name}
use Rattle.table_steps.proofs.Renamed.{distinct, elsewhere, free-same, named, own-name, ready}
use Rattle.table_steps.proofs.laws.name_laws.Goals as goal

pub returns-clause-named : goal.returns-clause-named
returns-clause-named c = λ P L M index key name reply after done disjoint stands. named P L index key name reply after done disjoint M stands

pub returns-clause-own_name : goal.returns-clause-own_name
returns-clause-own_name c = λ L r name s only. own-name L r name s only

pub returns-clause-distinct : goal.returns-clause-distinct
returns-clause-distinct c = λ P L M index key name reply after done disjoint stands none before.
    distinct P L index key name reply after done disjoint M stands none before

pub returns-clause-free : goal.returns-clause-free
returns-clause-free c = λ P L M index key name reply after done disjoint stands o. free-same P L index key name reply after done disjoint M stands o

pub returns-clause-ready : goal.returns-clause-ready
returns-clause-ready c = λ P L M index key name reply after done disjoint stands was_ready.
    ready P L index key name reply after done disjoint M stands was_ready

pub returns-clause-elsewhere : goal.returns-clause-elsewhere
returns-clause-elsewhere c = λ P L M index key name reply after done disjoint stands q in_q other.
    elsewhere P L index key name reply after done disjoint M stands q in_q other

pub returns-clause-kept_name : goal.returns-clause-kept_name
returns-clause-kept_name c = λ L r key own only distinct. kept-name L r key own only (own-listed L r key own only) distinct
