use Rattle.view_types.proofs.Maximal.{each_maximal}
use Rattle.view_types.proofs.laws.each_maximal.Goals as goal

pub returns : goal.returns
returns c = each_maximal
