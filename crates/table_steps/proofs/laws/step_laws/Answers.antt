use Rattle.table_steps.proofs.KnownRegions.{known-destroy, known-region, known-rename}
use Rattle.table_steps.proofs.OneStep.{step-one, step-refused}
use Rattle.table_steps.proofs.SameChanges.{destroy_refusals-same, release_refusals-same, rename_refusals-same}
use Rattle.table_steps.proofs.SameSteps.{does-same, refusals-same}
use Rattle.table_steps.proofs.laws.step_laws.Goals as goal

pub returns-clause-refused : goal.returns-clause-refused
returns-clause-refused c = λ P slots before after change own refusal step. step-refused P slots before change own refusal after step

pub returns-clause-refusals : goal.returns-clause-refusals
returns-clause-refusals c = λ P L M free a disjoint same. refusals-same P disjoint L M same free a

pub returns-clause-any_labels : goal.returns-clause-any_labels
returns-clause-any_labels c = λ P slots L M change own reply after disjoint same does. does-same P disjoint L M same slots change own reply after does

pub returns-clause-one_step : goal.returns-clause-one_step
returns-clause-one_step c = λ P slots before after now change own reply told disjoint a b. step-one P disjoint slots before change own reply after told now a b

pub returns-clause-known_region : goal.returns-clause-known_region
returns-clause-known_region c = λ P L free a r found. known-region P L free a r found

pub returns-clause-known_destroy : goal.returns-clause-known_destroy
returns-clause-known_destroy c = λ P L index key r found. known-destroy P L index key r found

pub returns-clause-known_rename : goal.returns-clause-known_rename
returns-clause-known_rename c = λ P L index key name r found. known-rename P L index key r found name

pub returns-clause-same_destroy : goal.returns-clause-same_destroy
returns-clause-same_destroy c = λ P L M index key disjoint same. destroy_refusals-same P disjoint L M same index key

pub returns-clause-same_rename : goal.returns-clause-same_rename
returns-clause-same_rename c = λ P L M index key name disjoint same. rename_refusals-same P disjoint L M same index key name

pub returns-clause-same_release : goal.returns-clause-same_release
returns-clause-same_release c = λ P L M dimm u disjoint same. release_refusals-same P disjoint L M same dimm u
