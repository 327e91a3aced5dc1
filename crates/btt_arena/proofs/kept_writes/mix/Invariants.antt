use Rattle.std.proofs.Common.{◌≡◌, take}
use Rattle.btt_arena.specs.Crashed.{mixed}
use Rattle.btt_arena.proofs.kept_writes.mix.Given as goal

abbrev pub invariant-loop-word : goal.invariant-loop-word
invariant-loop-word l = l.torn.items ≡ mixed (take l.word l.taken) l.old l.new
