use Rattle.table_steps.proofs.Made.{least-le, least-one, made-is}
use Rattle.table_steps.proofs.laws.made_laws.Goals as goal

pub returns-clause-made : goal.returns-clause-made
returns-clause-made c = λ a r offset before after tables cleared others. made-is a r offset before after tables cleared others

pub returns-clause-least : goal.returns-clause-least
returns-clause-least c = λ s r x in_r. least-le s r x in_r

pub returns-clause-least_is : goal.returns-clause-least_is
returns-clause-least_is c = λ s r some. least-one s r some
