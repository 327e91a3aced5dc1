use Rattle.std.proofs.Common.{◌≡◌, replicate}
use Rattle.spa_translate.specs.declared.places.Slot.TheVariants.{Free}
use Rattle.spa_translate.proofs.places.free_slots.Given as goal

abbrev pub invariant-loop : goal.invariant-loop
invariant-loop l = l.slots.items ≡ replicate l.counter Free
