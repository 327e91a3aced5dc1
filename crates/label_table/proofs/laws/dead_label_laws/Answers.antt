use Rattle.label_table.proofs.Leaving.{dead-kept, dead-once, doubled-kept, whole-kept}
use Rattle.label_table.proofs.laws.dead_label_laws.Goals as goal

pub returns-clause-alone : goal.returns-clause-alone
returns-clause-alone c = λ P L m k l bounded is dead. dead-once P L bounded m k l is dead

pub returns-clause-dead : goal.returns-clause-dead
returns-clause-dead c = λ P L M left m l. dead-kept P L M left m l

pub returns-clause-whole : goal.returns-clause-whole
returns-clause-whole c = λ P L M left r u in_P. whole-kept P L M left r u in_P

pub returns-clause-doubled : goal.returns-clause-doubled
returns-clause-doubled c = λ P L M left r u. doubled-kept P L M left r u
