use Rattle.std.proofs.Common.{◌≡◌, ◌≤◌}
use Rattle.index_block.specs.Bitmap.{free_count}
use Rattle.index_block.proofs.bitmap.count_free.Given as goal

abbrev pub invariant-loop-slot : goal.invariant-loop-slot
invariant-loop-slot l = (l.count ≤ l.slot) × (l.count ≡ free_count l.map l.slot)
