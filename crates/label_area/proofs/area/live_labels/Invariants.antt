use Rattle.std.proofs.Common.{◌≡◌, ◌≤◌, ℕ, None, get_or}
use Rattle.std.specs.Prelude.{vec_capacity}
use Rattle.label_area.specs.Slots.{live_label}
use Rattle.label_area.proofs.LabelsBySlot.{below}
use Rattle.label_area.proofs.area.live_labels.Given as goal

abbrev pub invariant-loop-slot : goal.invariant-loop-slot
invariant-loop-slot l = record {
  labels_are : (k : ℕ) → get_or l.labels.items k None ≡ below (live_label l.current l.area) l.slot k;
  room : l.current.geometry.slots ≤ vec_capacity l.labels;
}
