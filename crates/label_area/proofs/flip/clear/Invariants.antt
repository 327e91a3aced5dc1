use Rattle.std.proofs.Common.{◌≡◌, ℕ, None, length, take}
use Rattle.std.specs.Prelude.{if◌then◌else◌, slice_index_or}
use Rattle.label_area.specs.Flips.{is_among}
use Rattle.label_area.proofs.flip.clear.Given as goal

abbrev pub invariant-loop-slot : goal.invariant-loop-slot
invariant-loop-slot l = record {
  cleared : (k : ℕ) → slice_index_or l.labels k None ≡ (if is_among (take l.slot-index l.freed) k then None else slice_index_or l.fn.labels k None);
  len : length l.labels ≡ length l.fn.labels;
}
