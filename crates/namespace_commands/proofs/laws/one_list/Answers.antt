use Rattle.label_table.proofs.SoundPlatforms.{sound-disjoint}
use Rattle.namespace_commands.proofs.OneShown.{shown-one}
use Rattle.namespace_commands.proofs.laws.one_list.Goals as goal

pub returns : goal.returns
returns c = λ P L M query r t sound same a b. shown-one P (sound-disjoint P sound) L M same query r t a b
