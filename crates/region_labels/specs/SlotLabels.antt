-- Labels by their slots.
use Rattle.std.specs.Prelude.{◌≢◌, ℕ, ◌<◌, ◌==◌, Bool, List, Option, length, slice_index}
use Rattle.std.specs.List.{filter_map, list_any}
use Rattle.std.specs.Option.{option_and_then, option_map}
use Rattle.label_codec.specs.ModuleLabels.{Module}
use Rattle.region_labels.specs.declared.by_slot.SlotLabel.{SlotLabel}

-- the live label in a slot
abbrev pub slot_label : Module → ℕ → Option SlotLabel
slot_label area slot = option_map (λ label. record { uuid = label.uuid; slot = slot }) (area.at slot)

-- the live labels in some slots
abbrev pub slot_labels : Module → List ℕ → List SlotLabel
slot_labels area slots = filter_map (slot_label area) slots

-- the live label in the slot of one that is replaced
abbrev pub replaced_label : Module → Option ℕ → Option SlotLabel
replaced_label area replaces = option_and_then (slot_label area) replaces

-- one of the labels stands in the slot
abbrev pub has_slot : List SlotLabel → ℕ → Bool
has_slot labels slot = list_any (λ (one : SlotLabel). slot == one.slot) labels

-- no slot stands twice in a list
pub record AreApart (slots : List ℕ) : Type 0 where
  pub apart : (i j : ℕ) → i < j → j < length slots → slice_index slots i ≢ slice_index slots j
