use Rattle.std.proofs.Common.{arith}
use Rattle.std.proofs.lemmas.Grind.{common_steps}
use Rattle.index_block.proofs.FreeSlots.{free_count-more}
use Rattle.index_block.proofs.bitmap.count_free.Goals as goal

pub loop-slot-preserved : goal.loop-slot-preserved
loop-slot-preserved c =
    let more = free_count-more c.args.map.now c.loop-slot.slot in
    grind (arith, common_steps)
