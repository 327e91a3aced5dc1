use Rattle.std.proofs.Common.{◌≡◌, ◌≤◌}
use Rattle.std.specs.Prelude.{◌==◌}
use Rattle.label_codec.specs.ModuleLabels.{count, of_uuid}
use Rattle.label_table.specs.Plain.{module_in}
use Rattle.label_table.proofs.plain.ModuleLabels.count_size.Given as goal

abbrev pub invariant-loop-slot : goal.invariant-loop-slot
invariant-loop-slot l = (l.count ≡ count (λ label. label.raw_size == l.size) (of_uuid l.uuid (module_in l.self)).at l.slot-index) × (l.count ≤ l.slot-index)
