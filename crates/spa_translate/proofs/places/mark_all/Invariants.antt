use Rattle.std.proofs.Common.{◌≡◌, ◌*◌, length}
use Rattle.spa_translate.specs.Faults.{all_lines}
use Rattle.spa_translate.specs.Places.{AreSlots}
use Rattle.spa_translate.proofs.places.mark_all.Given as goal

abbrev pub invariant-loop-place : goal.invariant-loop-place
invariant-loop-place l = record {
  len : length l.slots ≡ length l.strands * l.lines;
  slots : AreSlots (all_lines l.strands) l.place l.slots;
}
