use Rattle.table_steps.proofs.Initialised.{all_spare, ready, stands}
use Rattle.table_steps.proofs.laws.initialise_laws.Goals as goal

pub returns-clause-ready : goal.returns-clause-ready
returns-clause-ready c = λ P L dimm slots reply after is. ready P L dimm slots reply after is

pub returns-clause-spares : goal.returns-clause-spares
returns-clause-spares c = λ P L dimm slots reply after is none. all_spare P L dimm slots reply after is none

pub returns-clause-stands : goal.returns-clause-stands
returns-clause-stands c = λ P L M dimm slots disjoint bounded init. stands P disjoint L M bounded dimm slots init
