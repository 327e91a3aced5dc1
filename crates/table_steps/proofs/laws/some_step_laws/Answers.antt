use Rattle.table_steps.proofs.Accepted.{unrefused}
use Rattle.table_steps.proofs.Fresh.{fresh}
use Rattle.table_steps.proofs.Places.{place}
use Rattle.table_steps.proofs.SomeStep.{does-some}
use Rattle.table_steps.proofs.laws.some_step_laws.Goals as goal

pub returns-clause-place : goal.returns-clause-place
returns-clause-place c = λ P L free a r found are e. place P L free a r found are e

pub returns-clause-some_step : goal.returns-clause-some_step
returns-clause-some_step c = λ P slots L change own. does-some P L slots change own

pub returns-clause-fresh : goal.returns-clause-fresh
returns-clause-fresh c = λ P L free a r bounded found e m k l in_P is h. fresh P L a.uuid bounded (unrefused P L free a r found e).uuid m in_P k l is h
