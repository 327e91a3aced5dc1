use Rattle.std.proofs.Common.{◌≡◌, ℕ, ◌*◌, ◌<◌}
use Rattle.byte_ranges.specs.Ranges.{range}
use Rattle.btt_arena.specs.Formatting.{fresh_lane}
use Rattle.btt_arena.proofs.lanes.fresh_log.Given as goal

abbrev pub invariant-loop-lane : goal.invariant-loop-lane
invariant-loop-lane l = (lane : ℕ) → lane < l.lane → range l.log (64 * lane) 64 ≡ fresh_lane l.layout.sectors lane
