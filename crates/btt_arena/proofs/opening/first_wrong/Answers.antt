use Rattle.std.proofs.Common.{◌+◌, sym, ◌∙◌, arith}
use Rattle.btt_arena.specs.Opening.{newer_of_log}
use Rattle.btt_arena.proofs.LaneBytes.{more_right}
use Rattle.btt_arena.proofs.opening.first_wrong.Goals as goal

pub loop-lane-preserved : goal.loop-lane-preserved
loop-lane-preserved c =
    more_right c.args.layout.now (newer_of_log c.args.log.now) c.loop-lane.lane (c.loop-lane.lane + 1) (omega arith) c.loop-lane.invariant (sym c.is_right.ensures ∙ c.if-not-is_right.false)
