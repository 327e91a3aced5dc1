use Rattle.std.proofs.Common.{◌+◌}
use Rattle.btt_arena.specs.Tables.{normal}
use Rattle.btt_arena.proofs.Fresh.{lane_put}
use Rattle.btt_arena.proofs.lanes.lane_text.Goals as goal

pub returns : goal.returns
returns c = rw (c.put_u32-4.ensures, c.put_u32-3.ensures, c.put_u32-2.ensures, c.put_u32.ensures) (lane_put c.args.lane (normal (c.args.layout.now.sectors + c.args.lane)))
