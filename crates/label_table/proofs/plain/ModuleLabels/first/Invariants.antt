use Rattle.std.proofs.Common.{◌≡◌, None}
use Rattle.label_codec.specs.ModuleLabels.{first_below, of_uuid}
use Rattle.label_table.specs.Plain.{module_in}
use Rattle.label_table.proofs.plain.ModuleLabels.first.Given as goal

abbrev pub invariant-loop-slot : goal.invariant-loop-slot
invariant-loop-slot l = first_below (of_uuid l.uuid (module_in l.self)).at l.slot-index ≡ None
