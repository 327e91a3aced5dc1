use Rattle.std.proofs.Common.{◌≡◌, ◌≤◌, ◌&&◌, not}
use Rattle.label_codec.specs.ModuleLabels.{count, has}
use Rattle.label_table.specs.Fates.{is_dead}
use Rattle.label_table.specs.Plain.{labels_in, module_in}
use Rattle.table_steps.proofs.plain.uuid_count.Given as goal

abbrev pub invariant-loop-slot : goal.invariant-loop-slot
invariant-loop-slot l =
    (l.count ≡ count (λ label. has l.uuid label && not (is_dead l.platform (labels_in l.modules) l.handle label)) (module_in l.area).at l.slot-index) × (l.count ≤ l.slot-index)
