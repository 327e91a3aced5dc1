-- One flip of a label storage area: slots are freed, and a label may come into another one, all at once.
use Rattle.std.specs.Prelude.{ℕ, ◌==◌, Bool, Option, Some, None, if◌then◌else◌}
use Rattle.label_codec.specs.declared.label.Label.{Label}
use Rattle.label_codec.specs.ModuleLabels.{Module, Labels}

-- a module without the labels of the slots that pass a test
abbrev pub without_slots : (ℕ → Bool) → Module → Module
without_slots freed area =
    record { kind = area.kind; slots = area.slots; at = λ slot. if freed slot then None else area.at slot }

-- a module with a label in a slot
abbrev pub with_label : ℕ → Label → Module → Module
with_label put label area =
    record { kind = area.kind; slots = area.slots; at = λ slot. if slot == put then Some label else area.at slot }

-- the labels of all modules, with another module at one handle
abbrev pub with_module : ℕ → Module → Labels → Labels
with_module handle area labels other = if other == handle then area else labels other
