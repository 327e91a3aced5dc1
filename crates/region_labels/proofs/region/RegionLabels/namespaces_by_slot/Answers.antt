use Rattle.std.proofs.Common.{◌++◌, ◌∙◌}
use Rattle.std.specs.Option.{option_and_then, option_to_list}
use Rattle.label_codec.specs.declared.label.Label.{Label}
use Rattle.region_labels.specs.Marks.{namespace_at}
use Rattle.region_labels.specs.Modules.{labels_in, module_in}
use Rattle.region_labels.proofs.Slots.{spaces-next}
use Rattle.region_labels.proofs.region.RegionLabels.namespaces_by_slot.Goals as goal

pub loop-slot-preserved : goal.loop-slot-preserved
loop-slot-preserved c =
    let L = labels_in c.args.modules.now in
    let r = c.args.self.now.region in
    c.in_ok-push_namespace.ensures
    ∙ (λ i. c.loop-slot.invariant i ++ option_to_list (option_and_then (λ (l : Label). namespace_at L r l.uuid) (c.label.ensures i)))
    ∙ spaces-next L r (module_in c.module_at-first.result.now).at c.loop-slot.slot
