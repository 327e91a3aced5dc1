use Rattle.view_types.proofs.Greatest.{fits, none}
use Rattle.view_types.proofs.laws.greatest_fits.Goals as goal

pub returns-clause-fits : goal.returns-clause-fits
returns-clause-fits c = fits

pub returns-clause-none : goal.returns-clause-none
returns-clause-none c = none
