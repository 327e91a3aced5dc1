use Rattle.extent_alloc.specs.Growth.{HasRoom}
use Rattle.extent_alloc.proofs.extents.make_room.Given as goal

abbrev pub invariant-loop : goal.invariant-loop
invariant-loop g l = HasRoom l.initial.chain l.chain l.counter
