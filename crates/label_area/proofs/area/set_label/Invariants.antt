use Rattle.std.proofs.Common.{◌≡◌, ℕ, None, get_or}
use Rattle.std.specs.Prelude.{vec_capacity, vec_len}
use Rattle.label_area.proofs.area.set_label.Given as goal

abbrev pub invariant-loop-at : goal.invariant-loop-at
invariant-loop-at l = record {
  labels_are : (k : ℕ) → get_or l.labels.items k None ≡ get_or l.fn.labels.items k None;
  len : vec_len l.labels ≡ l._at;
  room : vec_capacity l.labels ≡ vec_capacity l.fn.labels;
}
