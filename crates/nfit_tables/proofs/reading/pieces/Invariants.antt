use Rattle.std.proofs.Common.{◌≡◌, ℕ, ◌+◌, ◌-◌, ◌≤◌, length, drop}
use Rattle.nfit_tables.specs.Reading.{pieces_at}
use Rattle.nfit_tables.proofs.Loop.{with_front}
use Rattle.nfit_tables.proofs.reading.pieces.Given as goal

abbrev pub invariant-loop-at : goal.invariant-loop-at
invariant-loop-at l = record {
  within : l.at ≤ length l.bytes;
  -- enough structures are still asked for
  read : (most : ℕ) × (length l.bytes ≤ l.at + most) × (with_front l.pieces (pieces_at most l.at (drop l.at l.bytes)) ≡ pieces_at (length l.bytes) 40 (drop 40 l.bytes));
}

abbrev pub decreases-loop-at : goal.decreases-loop-at
decreases-loop-at l = length l.bytes - l.at
