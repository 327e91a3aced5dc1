use Rattle.table_steps.proofs.AcceptedChanges.{IsUnrefusedChange, unrefused-destroy, unrefused-rename}
use Rattle.table_steps.proofs.AcceptedReleases.{unrefused-release}
use Rattle.table_steps.proofs.laws.unrefused_laws.Goals as goal

pub returns-clause-destroy_one : goal.returns-clause-destroy_one
returns-clause-destroy_one c = λ P L index key r found none. let u : IsUnrefusedChange P L key r = unrefused-destroy P L index key r found none in (u.own, u.one)

pub returns-clause-rename_one : goal.returns-clause-rename_one
returns-clause-rename_one c = λ P L index key name r found none. let u : IsUnrefusedChange P L key r = (unrefused-rename P L index key name r found none).change in (u.own, u.one)

pub returns-clause-destroy_ready : goal.returns-clause-destroy_ready
returns-clause-destroy_ready c = λ P L index key r found none. (unrefused-destroy P L index key r found none).ready

pub returns-clause-rename_ready : goal.returns-clause-rename_ready
returns-clause-rename_ready c = λ P L index key name r found none. (unrefused-rename P L index key name r found none).change.ready

pub returns-clause-destroy_spares : goal.returns-clause-destroy_spares
returns-clause-destroy_spares c = λ P L index key r found none x in_r. (unrefused-destroy P L index key r found none).spares x in_r

pub returns-clause-rename_spares : goal.returns-clause-rename_spares
returns-clause-rename_spares c = λ P L index key name r found none x in_r. (unrefused-rename P L index key name r found none).change.spares x in_r

pub returns-clause-release : goal.returns-clause-release
returns-clause-release c = λ P L dimm u sound none. unrefused-release P sound L dimm u none
