use Rattle.std.proofs.Common.{refl}
use Rattle.btt_arena.specs.Info.{info_text}
use Rattle.btt_arena.proofs.info.info_block.Goals as goal

pub returns : goal.returns
unfolding info_text
returns c = rw (c.put_checksum.ensures.text, c.put-3.ensures, c.fields.ensures, c.put-2.ensures, c.put.ensures) refl
