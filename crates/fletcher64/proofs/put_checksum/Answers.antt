use Rattle.std.proofs.Common.{rules}
use Rattle.fletcher64.specs.Sums.{with_checksum}
use Rattle.fletcher64.proofs.Written.{has_checksum-with_checksum}
use Rattle.fletcher64.proofs.put_checksum.Goals as goal

pub returns-clause-text : goal.returns-clause-text
unfolding with_checksum
returns-clause-text c = search rules

pub returns-clause-right : goal.returns-clause-right
returns-clause-right c = rw (returns-clause-text c) (has_checksum-with_checksum c.args.bytes.now c.args.hole c.requires.within)
