-- What is kept of modules goes with the areas in a rig.
use Rattle.std.specs.Prelude.{◌≡◌, ℕ, ◌==◌, List, Some, if◌then◌else◌}
use Rattle.std.specs.FinMap.{get}
use Rattle.std.specs.List.{list_any}
use Rattle.rig_trait.specs.Areas.{Areas, size_in}
use Rattle.label_codec.specs.declared.kind.AreaKind.TheVariants as kind
use Rattle.label_codec.specs.ModuleLabels.{Labels}
use Rattle.label_area.specs.Loads.{IsShown}
use Rattle.label_area.specs.Modules.{area_kind, module_at}
use Rattle.region_labels.specs.declared.modules.LoadedModule.{LoadedModule}
use Rattle.region_labels.specs.declared.modules.ModuleArea.{ModuleArea}
use Rattle.region_labels.specs.declared.modules.ModuleArea.TheVariants.{Missing, WrongSize, Uninit, Foreign, Ready}
use Rattle.region_labels.specs.Modules.{without_labels}

-- what is kept of a module's area is the area that is stored
abbrev pub StoredAs : Areas → ℕ → ModuleArea → Type 0
StoredAs areas dimm Missing = area_kind (get areas dimm) ≡ kind.Missing
StoredAs areas dimm (WrongSize size) = (area_kind (get areas dimm) ≡ kind.WrongSize) × (size_in areas dimm ≡ Some size)
StoredAs areas dimm (Uninit size) = (area_kind (get areas dimm) ≡ kind.Uninit) × (size_in areas dimm ≡ Some size)
StoredAs areas dimm (Foreign size) = (area_kind (get areas dimm) ≡ kind.Foreign) × (size_in areas dimm ≡ Some size)
StoredAs areas dimm (Ready area) = (area.dimm ≡ dimm) × IsShown area areas

abbrev pub StandsIn : Areas → LoadedModule → Type 0
StandsIn areas loaded = StoredAs areas loaded.dimm loaded.area

-- the labels in the areas of some modules. The areas of others are not looked at.
abbrev pub stored_labels : List ℕ → Areas → Labels
stored_labels modules areas handle =
    if list_any (λ dimm. dimm == handle) modules then module_at areas handle else without_labels kind.Missing
