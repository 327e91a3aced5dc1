use Rattle.std.proofs.Common.{◌≡◌, ◌<◌, ◌||◌, ℕ, take}
use Rattle.index_block.specs.Bitmap.{is_free_in}
use Rattle.label_area.specs.Flips.{is_among}
use Rattle.label_area.proofs.flip.freed_bits.Given as goal

abbrev pub invariant-loop-slot : goal.invariant-loop-slot
invariant-loop-slot l = (k : ℕ) → k < l.slots → is_free_in l.bits k ≡ (is_among (take l.slot-index l.freed) k || is_free_in l.free k)
