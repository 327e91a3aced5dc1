use Rattle.table_steps.proofs.Destroyed.{destroyed-is}
use Rattle.table_steps.proofs.Renamed.{renamed-is}
use Rattle.table_steps.proofs.laws.changed_laws.Goals as goal

pub returns-clause-destroyed : goal.returns-clause-destroyed
returns-clause-destroyed c = λ r u before after tables cleared others. destroyed-is r u before after tables cleared others

pub returns-clause-renamed : goal.returns-clause-renamed
returns-clause-renamed c = λ r name s before after tables cleared others. renamed-is r name s before after tables cleared others
