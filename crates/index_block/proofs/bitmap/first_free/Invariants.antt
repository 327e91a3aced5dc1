use Rattle.index_block.specs.Bitmap.{NoneFree}
use Rattle.index_block.proofs.bitmap.first_free.Given as goal

abbrev pub invariant-loop-slot : goal.invariant-loop-slot
invariant-loop-slot l = NoneFree l.map l.slot
