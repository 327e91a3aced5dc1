use Rattle.region_labels.proofs.ChangedModules.{changed-set, handles-same, labels-after, once-after}
use Rattle.region_labels.proofs.laws.module_laws.Goals as goal

pub returns-clause-written : goal.returns-clause-written
returns-clause-written c = changed-set

pub returns-clause-handles : goal.returns-clause-handles
returns-clause-handles c = handles-same

pub returns-clause-once : goal.returns-clause-once
returns-clause-once c = once-after

pub returns-clause-labels : goal.returns-clause-labels
returns-clause-labels c = labels-after
