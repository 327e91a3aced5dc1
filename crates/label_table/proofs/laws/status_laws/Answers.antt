use Rattle.label_table.proofs.StatusLaws.{ready-with, ready-without, status-elsewhere}
use Rattle.label_table.proofs.laws.status_laws.Goals as goal

pub returns-clause-elsewhere : goal.returns-clause-elsewhere
returns-clause-elsewhere c = λ P r q u new L M changes in_q other. status-elsewhere P r u new L M changes q in_q other

pub returns-clause-without : goal.returns-clause-without
returns-clause-without c = λ P r u L M changes ready. ready-without P r u L M changes ready

pub returns-clause-with_open_range : goal.returns-clause-with_open_range
returns-clause-with_open_range c = λ P r s L M changes some open_range ready. ready-with P r s L M changes some open_range ready
