use Rattle.std.proofs.Common.{◌≡◌, drop}
use Rattle.btt_arena.specs.Kept.{kept_from}
use Rattle.btt_arena.proofs.kept_writes.KeptWrites.find.Given as goal

abbrev pub invariant-loop-i : goal.invariant-loop-i
invariant-loop-i l = kept_from l.call l.self.kept ≡ kept_from l.call (drop l.i l.self.kept)
