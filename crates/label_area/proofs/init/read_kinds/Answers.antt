use Rattle.std.proofs.Common.{rules}
use Rattle.rig_trait.proofs.Frames.{reads_on}
use Rattle.label_area.proofs.init.read_kinds.Goals as goal

pub returns-in_err-second-clause-reads_only : goal.returns-in_err-second-clause-reads_only
returns-in_err-second-clause-reads_only g c = search (rules, reads_on)

pub returns-in_err-old_second-clause-reads_only : goal.returns-in_err-old_second-clause-reads_only
returns-in_err-old_second-clause-reads_only g c = search (rules, reads_on)

pub returns-clause-reads_only : goal.returns-clause-reads_only
returns-clause-reads_only g c = search (rules, reads_on)
