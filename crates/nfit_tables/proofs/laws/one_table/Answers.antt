use Rattle.nfit_tables.proofs.TableAgain.{text-once}
use Rattle.nfit_tables.proofs.laws.one_table.Goals as goal

pub returns : goal.returns
returns c = text-once
