use Rattle.std.proofs.Common.{◌≡◌, ◌≤◌, length, drop}
use Rattle.btt_arena.specs.Undone.{before}
use Rattle.btt_arena.proofs.kept_writes.KeptWrites.rewind.Given as goal

abbrev pub invariant-loop-i : goal.invariant-loop-i
invariant-loop-i l = record {
  above : l.to ≤ l.i;
  below : l.i ≤ length l.self.kept;
  bytes : l.bytes ≡ before (drop l.i l.self.kept) l.fn.bytes;
}

abbrev pub decreases-loop-i : goal.decreases-loop-i
decreases-loop-i l = l.i
