use Rattle.cmd_words.specs.Parts.{part_of}
use Rattle.namespace_core.proofs.OneReply.{command-one}
use Rattle.namespace_core.proofs.laws.one_reply.Goals as goal

pub returns : goal.returns
returns c = λ P slots L M command own reply told after now sound same a b. command-one P sound slots L M same (part_of command) own reply after told now a b
