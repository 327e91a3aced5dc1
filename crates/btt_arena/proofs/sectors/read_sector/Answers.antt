use Rattle.btt_arena.proofs.Frames.{reads_on}
use Rattle.btt_arena.proofs.sectors.read_sector.Goals as goal

pub returns-clause-reads_only : goal.returns-clause-reads_only
returns-clause-reads_only g c = reads_on c.in_ok-entry.ensures.reads_only c.read.ensures.reads_only
