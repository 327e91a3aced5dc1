-- What is found of a uuid.
use Rattle.std.specs.Prelude.{◌≡◌, ℕ, ◌<◌, ◌≤◌, true, List, Some}
use Rattle.std.specs.List.{Contains}
use Rattle.label_codec.specs.declared.label.Label.{Label}
use Rattle.label_codec.specs.ModuleLabels.{Module, has, number}
use Rattle.uuid_index.specs.declared.entry.Entry.{Entry}
use Rattle.uuid_index.specs.declared.index.Found.{Found}
use Rattle.uuid_index.specs.declared.index.Found.TheVariants.{Nowhere, Once, Repeated}
use Rattle.uuid_index.specs.Entries.{times}

-- how many of the entries are of this uuid at this position, and the slot of the only one
abbrev pub IsFound : List ℕ → ℕ → List Entry → Found → Type 0
IsFound uuid position entries Nowhere = times uuid position entries ≡ 0
IsFound uuid position entries (Once slot) = (times uuid position entries ≡ 1)
    × Contains entries (record { uuid = uuid; position = position; slot = slot })
IsFound uuid position entries Repeated = 2 ≤ times uuid position entries

-- a live label with the uuid stands in the slot
pub record IsLive (uuid : List ℕ) (area : Module) (slot : ℕ) : Type 0 where
  pub within : slot < area.slots
  pub label : Label
  pub is : area.at slot ≡ Some label
  pub has_uuid : has uuid label ≡ true

-- how many live labels of the module have the uuid, and the slot of the only one
abbrev pub IsFoundLabel : List ℕ → Module → Found → Type 0
IsFoundLabel uuid area Nowhere = number (has uuid) area ≡ 0
IsFoundLabel uuid area (Once slot) = (number (has uuid) area ≡ 1) × IsLive uuid area slot
IsFoundLabel uuid area Repeated = 2 ≤ number (has uuid) area
