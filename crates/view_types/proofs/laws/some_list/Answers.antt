use Rattle.view_types.proofs.SomeList.{some_list}
use Rattle.view_types.proofs.laws.some_list.Goals as goal

pub returns : goal.returns
returns c = some_list
