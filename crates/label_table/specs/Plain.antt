-- Modules as lists of slots.
use Rattle.std.specs.Prelude.{◌≡◌, ℕ, ◌==◌, Bool, false, List, Option, Some, None, if◌then◌else◌, find, length}
use Rattle.std.specs.Prelude.{slice_get}
use Rattle.std.specs.Option.{option_flatten}
use Rattle.label_codec.specs.declared.label.Label.{Label}
use Rattle.label_codec.specs.declared.kind.AreaKind.TheVariants.{Missing}
use Rattle.label_codec.specs.ModuleLabels.{Labels, Module, first, number, of_uuid}
use Rattle.label_table.specs.declared.plain.ModuleLabels.{ModuleLabels}
use Rattle.label_table.specs.Wholes.{any_label}

abbrev pub module_in : ModuleLabels → Module
module_in area =
    record { kind = area.kind; slots = length area.slots; at = λ slot. option_flatten (slice_get area.slots slot) }

abbrev pub missing_module : Module
missing_module = record { kind = Missing; slots = 0; at = λ slot. None }

abbrev pub module_or_missing : Option ModuleLabels → Module
module_or_missing None = missing_module
module_or_missing (Some area) = module_in area

-- the labels of the modules of a list, each handle's by the first module with it
abbrev pub labels_in : List ModuleLabels → Labels
labels_in modules handle = module_or_missing (find (λ (area : ModuleLabels). area.handle == handle) modules)

-- the module has one label with the uuid, and it is this
pub record HasOnly (uuid : List ℕ) (area : Module) (label : Label) : Type 0 where
  pub once : number any_label (of_uuid uuid area) ≡ 1
  pub passes : (test : Label → Bool) → number test (of_uuid uuid area) ≡ (if test label then 1 else 0)
  pub first_is : first (of_uuid uuid area) ≡ Some label

-- the only label with the uuid, or none where there is not one
abbrev pub IsOnly : List ℕ → Module → Option Label → Type 0
IsOnly uuid area (Some label) = HasOnly uuid area label
IsOnly uuid area None = (number any_label (of_uuid uuid area) == 1) ≡ false
