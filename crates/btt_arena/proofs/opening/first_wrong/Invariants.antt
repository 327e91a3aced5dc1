use Rattle.btt_arena.specs.Opening.{AreRight, newer_of_log}
use Rattle.btt_arena.proofs.opening.first_wrong.Given as goal

abbrev pub invariant-loop-lane : goal.invariant-loop-lane
invariant-loop-lane l = AreRight l.layout (newer_of_log l.log) l.lane
