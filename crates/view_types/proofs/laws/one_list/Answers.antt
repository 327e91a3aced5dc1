use Rattle.view_types.proofs.Maximal.{one_list}
use Rattle.view_types.proofs.laws.one_list.Goals as goal

pub returns : goal.returns
returns c = one_list
