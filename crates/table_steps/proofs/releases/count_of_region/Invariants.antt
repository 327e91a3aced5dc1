use Rattle.std.proofs.Common.{◌≡◌, ◌≤◌, ◌&&◌}
use Rattle.label_codec.specs.ModuleLabels.{count, has}
use Rattle.label_table.specs.Belonging.{belongs}
use Rattle.label_table.specs.Fates.{is_held}
use Rattle.label_table.specs.Plain.{labels_in, module_in}
use Rattle.table_steps.proofs.releases.count_of_region.Given as goal

abbrev pub invariant-loop-slot : goal.invariant-loop-slot
invariant-loop-slot l =
    (l.count ≡ count (λ label. is_held l.platform (labels_in l.modules) l.handle label && (has l.uuid label && belongs l.region l.handle label)) (module_in l.area).at l.slot-index) × (l.count ≤ l.slot-index)
