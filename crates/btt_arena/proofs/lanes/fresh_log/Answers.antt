use Rattle.std.proofs.Common.{arith}
use Rattle.btt_arena.proofs.Fresh.{lane_more}
use Rattle.btt_arena.proofs.lanes.fresh_log.Goals as goal

pub loop-lane-preserved : goal.loop-lane-preserved
loop-lane-preserved c =
    lane_more c.loop-lane.log c.put.new.into c.lane_text.result c.args.layout.now.sectors c.loop-lane.lane (omega arith) (omega arith) c.loop-lane.invariant c.put.ensures c.lane_text.ensures
