use Rattle.report_json.proofs.Ends.{ended, no_error}
use Rattle.report_json.proofs.laws.text_laws.Goals as goal

pub returns-clause-ended : goal.returns-clause-ended
returns-clause-ended c = ended

pub returns-clause-no_error : goal.returns-clause-no_error
returns-clause-no_error c = no_error
