use Rattle.std.proofs.Common.{◌∙◌, sym}
use Rattle.label_table.proofs.OnlyLabels.{slots-found, slots-passed}
use Rattle.label_table.proofs.plain.ModuleLabels.first.Goals as goal

pub returns-then-is_label_with : goal.returns-then-is_label_with
returns-then-is_label_with c =
    c.as_ref.ensures.value ∙ slots-found c.args.uuid.now c.as_slice-slot-items.result.now c.args.self.now.slots c.as_slice-slot-items.ensures c.loop-slot.slot-index
    c.loop-slot-test.true c.loop-slot.invariant (sym c.is_label_with.ensures ∙ c.if-is_label_with.true)

pub loop-slot-preserved : goal.loop-slot-preserved
loop-slot-preserved c =
    slots-passed c.args.uuid.now c.as_slice-slot-items.result.now c.args.self.now.slots c.as_slice-slot-items.ensures c.loop-slot.slot-index
    c.loop-slot-test.true c.loop-slot.invariant (sym c.is_label_with.ensures ∙ c.if-is_label_with.false)
