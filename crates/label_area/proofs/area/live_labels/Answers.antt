use Rattle.std.proofs.Common.{◌≡◌, ◌≤◌, ℕ, Option, Some, None, get_or, cond, sym, ap, subst, ◌∙◌, arith}
use Rattle.std.specs.Prelude.{◌==◌, vec_capacity}
use Rattle.label_codec.specs.declared.label.Label.{Label}
use Rattle.label_area.specs.Slots.{live_label}
use Rattle.label_area.proofs.LabelsBySlot.{below, below-more, below-none, live_label-below}
use Rattle.label_area.proofs.area.live_labels.Goals as goal
use Rattle.label_area.proofs.area.live_labels.Goals.{in-Some, in_default}

pub loop-slot-preserved : goal.loop-slot-preserved
loop-slot-preserved c =
    let live = live_label c.args.current.now c.args.area.now in
    let slot = c.loop-slot.slot in
    elim c.match-live_label.branch [
      | in-Some w ↦
          record {
            labels_are = λ k.
                ap (λ v. get_or v.items k None) w.labels-is
                ∙ w.set_label.ensures.labels k
                ∙ ap (λ (o : Option Label). cond (k == slot) (Some w.in-Some.label) o) (c.loop-slot.invariant.labels_are k)
                ∙ below-more live slot k (Some w.in-Some.label) (sym c.live_label.ensures ∙ w.in-Some.is);
            room = subst (λ v. c.args.current.now.geometry.slots ≤ vec_capacity v) (sym w.labels-is) (omega (arith, w.set_label.ensures.room, c.loop-slot.invariant.room));
          }
      | in_default w ↦
          record {
            labels_are = λ k.
                ap (λ v. get_or v.items k None) w.labels-is
                ∙ c.loop-slot.invariant.labels_are k
                ∙ below-none live slot k (sym c.live_label.ensures ∙ w.in_default.is);
            room = subst (λ v. c.args.current.now.geometry.slots ≤ vec_capacity v) (sym w.labels-is) c.loop-slot.invariant.room;
          }
    ]

pub returns-clause-labels : goal.returns-clause-labels
returns-clause-labels c = λ k.
    let current = c.args.current.now in
    let area = c.args.area.now in
    let end : c.loop-slot.slot ≡ current.geometry.slots = omega (arith, c.loop-slot-test.false, c.loop-slot.auto.slot-end) in
    c.loop-slot.invariant.labels_are k ∙ ap (λ (n : ℕ). below (live_label current area) n k) end ∙ live_label-below current area k
