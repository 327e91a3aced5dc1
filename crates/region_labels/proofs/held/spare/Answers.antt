use Rattle.std.proofs.Common.{◌<◌, not, sym, ◌∙◌, arith}
use Rattle.label_codec.specs.declared.label.Label.{Label}
use Rattle.label_codec.proofs.Counting.{count-le}
use Rattle.label_table.specs.Fates.{is_dead}
use Rattle.region_labels.specs.Fates.{platform_of}
use Rattle.region_labels.specs.Modules.{labels_in, module_in}
use Rattle.region_labels.proofs.Slots.{left-kept, left-other}
use Rattle.region_labels.proofs.held.spare.Goals as goal
use Rattle.region_labels.proofs.held.spare.Goals.{else-is_kept, then-is_kept}

pub overflow_sub-spare : goal.overflow_sub-spare
overflow_sub-spare c =
    let P = platform_of c.args.regions.now in
    let L = labels_in c.args.modules.now in
    let few = count-le (λ (l : Label). not (is_dead P L c.args.loaded.now.dimm l)) (module_in c.args.loaded.now).at c.loop-slot.slot in
    omega (arith, few, c.loop-slot.invariant, c.loop-slot-test.true)

pub loop-slot-preserved : goal.loop-slot-preserved
loop-slot-preserved c =
    let P = platform_of c.args.regions.now in
    let L = labels_in c.args.modules.now in
    let test = λ (l : Label). not (is_dead P L c.args.loaded.now.dimm l) in
    let at = (module_in c.args.loaded.now).at in
    let slots = (module_in c.args.loaded.now).slots in
    let slot = c.loop-slot.slot in
    let few = count-le test at slot in
    let some : 0 < c.loop-slot.spare = omega (arith, few, c.loop-slot.invariant, c.loop-slot-test.true) in
    elim c.if-is_kept.branch [
      | then-is_kept w ↦ left-kept test at slot c.loop-slot.spare _ slots (sym c.is_kept.ensures ∙ w.if-is_kept.true) c.loop-slot.invariant w.spare-is some
      | else-is_kept w ↦ left-other test at slot c.loop-slot.spare _ slots (sym c.is_kept.ensures ∙ w.if-is_kept.false) c.loop-slot.invariant w.spare-is
    ]
