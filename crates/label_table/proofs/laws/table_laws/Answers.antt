use Rattle.std.proofs.Common.{◌∙◌, sym}
use Rattle.label_table.proofs.Listed.{namespaces-from, namespaces-to, space-not_empty, space-within}
use Rattle.label_table.proofs.StatusLaws.{common_free-kept, namespaces-kept, status-kept}
use Rattle.label_table.proofs.laws.table_laws.Goals as goal

pub returns-clause-one_state : goal.returns-clause-one_state
returns-clause-one_state c = λ P L one other a b. a ∙ sym b

pub returns-clause-same_namespaces : goal.returns-clause-same_namespaces
returns-clause-same_namespaces c = λ P L M disjoint same q in_q. namespaces-kept P disjoint L M same q in_q

pub returns-clause-same_status : goal.returns-clause-same_status
returns-clause-same_status c = λ P L M disjoint same q in_q. status-kept P disjoint L M same q in_q

pub returns-clause-same_free : goal.returns-clause-same_free
returns-clause-same_free c = λ P L M disjoint same q in_q. common_free-kept P disjoint L M same q in_q

pub returns-clause-listed : goal.returns-clause-listed
returns-clause-listed c = λ L r u s is. namespaces-to L r u s is

pub returns-clause-stands : goal.returns-clause-stands
returns-clause-stands c = λ L r s listed. namespaces-from L r s listed

pub returns-clause-within : goal.returns-clause-within
returns-clause-within c = λ P L r u s disjoint in_P is. (space-within P disjoint L r in_P u s is, space-not_empty L r u s is)
