use Rattle.std.proofs.Common.{◌≡◌, ◌<◌, Option, Some, IsTrue, cond, sym, ap, subst, ◌∙◌, arith}
use Rattle.std.specs.Prelude.{◌==◌}
use Rattle.std.specs.FinMap.{get}
use Rattle.label_codec.specs.declared.label.Label.{Label}
use Rattle.label_area.specs.LoadedAreas.{LoadedArea, is_used}
use Rattle.label_area.proofs.Freeing.{used_below}
use Rattle.label_area.proofs.LabelsBySlot.{get-live_of, set_in_use}
use Rattle.label_area.proofs.area.Area.keep_label.Goals as goal

pub set_label-requires : goal.set_label-requires
set_label-requires c =
    let slots_is : c.self.inside.geometry.slots ≡ c.args.self.now.geometry.slots = ap (λ (a : LoadedArea). a.geometry.slots) c.self.view_is in
    let below : c.args.slot < c.args.self.now.geometry.slots = used_below c.args.self.now c.args.slot c.requires in
    omega (arith, c.self.invariant.room, slots_is, below)

pub invariant_of-self : goal.invariant_of-self
invariant_of-self c =
    let kept = c.self.invariant in
    record {
      geometry = kept.geometry;
      label = kept.label;
      seq = kept.seq;
      bits = kept.bits;
      room = omega (arith, kept.room, c.set_label.ensures.room);
      in_use = set_in_use c.self.inside.labels.items c.set_label.new.labels.items c.args.slot c.args.label c.self.inside.free.items c.self.inside.geometry.slots
          c.set_label.ensures.labels kept.in_use (subst (λ (a : LoadedArea). IsTrue (is_used a c.args.slot)) (sym c.self.view_is) c.requires);
    }

pub returns-clause-live : goal.returns-clause-live
returns-clause-live c = λ k.
    let labels = c.self.inside.labels.items in
    let slot = c.args.slot in
    get-live_of k c.set_label.new.labels.items
    ∙ c.set_label.ensures.labels k
    ∙ ap (λ (o : Option Label). cond (k == slot) (Some c.args.label) o) (sym (get-live_of k labels) ∙ ap (λ (a : LoadedArea). get a.live k) c.self.view_is)
