use Rattle.std.proofs.Common.{◌≡◌, ◌++◌, ◌∷◌, [], Option, Some, None, get_or, refl, ap, sym, take, ◌∙◌, arith}
use Rattle.std.specs.List.{cons_option, filter_map}
use Rattle.std.specs.Option.{option_to_list}
use Rattle.std.proofs.lemmas.List.{take_more}
use Rattle.std.proofs.lemmas.List.Elements.{filter_map-append}
use Rattle.region_labels.specs.Modules.{module_in}
use Rattle.region_labels.specs.SlotLabels.{slot_label, slot_labels}
use Rattle.module_flips.proofs.lists.list_labels.Goals as goal

one : {A : Type 0} (o : Option A) → option_to_list o ≡ cons_option o []
one None = refl
one (Some x) = refl

pub loop-slot-preserved : goal.loop-slot-preserved
loop-slot-preserved c =
    let before = c.loop-slot.invariant in
    let area = module_in c.args.loaded.now in
    let seen = c.args.slots.now in
    let at = c.loop-slot.slot-index in
    record {
      listed =
          c.push_label.ensures.items ∙ (λ i. before.listed i ++ option_to_list (c.slot_label.ensures i))
          ∙ ap (λ ls. slot_labels area (take at seen) ++ ls) (one (slot_label area (get_or seen at 0)))
          ∙ sym (filter_map-append (slot_label area) (take at seen) (get_or seen at 0 ∷ [])) ∙ ap (filter_map (slot_label area)) (sym (take_more seen at 0 c.loop-slot-test.true));
      few = omega (arith, before.few, c.push_label.ensures.few);
      room = omega (arith, before.room, c.push_label.ensures.room);
    }
