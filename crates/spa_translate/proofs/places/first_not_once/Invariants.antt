use Rattle.std.proofs.Common.{◌≡◌, ℕ, ◌<◌, get_or, true}
use Rattle.spa_translate.specs.declared.places.Slot.{Slot}
use Rattle.spa_translate.specs.Places.{is_once}
use Rattle.spa_translate.proofs.places.first_not_once.Given as goal

abbrev pub invariant-loop-line : goal.invariant-loop-line
invariant-loop-line l = (k : ℕ) (d : Slot) → k < l.line → is_once (get_or l.slots k d) ≡ true
