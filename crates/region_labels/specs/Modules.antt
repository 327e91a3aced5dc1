-- The labels of modules, as they are loaded.
use Rattle.std.specs.Prelude.{◌≢◌, ℕ, ◌==◌, ◌<◌, Bool, List, Option, Some, None, find, length, slice_index_or}
use Rattle.label_codec.specs.declared.kind.AreaKind.{AreaKind}
use Rattle.label_codec.specs.declared.kind.AreaKind.TheVariants as kind
use Rattle.label_codec.specs.ModuleLabels.{Labels, Module}
use Rattle.label_area.specs.Flips.{shown_by}
use Rattle.label_area.specs.LoadedAreas.{size_of}
use Rattle.region_labels.specs.declared.modules.LoadedModule.{LoadedModule}
use Rattle.region_labels.specs.declared.modules.ModuleArea.{ModuleArea}
use Rattle.region_labels.specs.declared.modules.ModuleArea.TheVariants.{Missing, WrongSize, Uninit, Foreign, Ready}

-- a module whose area is of a kind that has no labels
abbrev pub without_labels : AreaKind → Module
without_labels kind = record { kind = kind; slots = 0; at = λ slot. None }

abbrev pub module_of : ModuleArea → Module
module_of Missing = without_labels kind.Missing
module_of (WrongSize size) = without_labels kind.WrongSize
module_of (Uninit size) = without_labels kind.Uninit
module_of (Foreign size) = without_labels kind.Foreign
module_of (Ready area) = (shown_by area).labels

-- the size of an area in bytes
abbrev pub size_of_area : ModuleArea → Option ℕ
size_of_area Missing = None
size_of_area (WrongSize size) = Some size
size_of_area (Uninit size) = Some size
size_of_area (Foreign size) = Some size
size_of_area (Ready area) = Some (size_of area)

abbrev pub size_in : LoadedModule → Option ℕ
size_in loaded = size_of_area loaded.area

-- what a module stands for
abbrev pub module_in : LoadedModule → Module
module_in loaded = module_of loaded.area

abbrev pub module_or_missing : Option LoadedModule → Module
module_or_missing None = without_labels kind.Missing
module_or_missing (Some loaded) = module_in loaded

abbrev pub dimm_of : LoadedModule → ℕ
dimm_of loaded = loaded.dimm

-- the module with a device handle
abbrev pub is_of : ℕ → LoadedModule → Bool
is_of handle loaded = loaded.dimm == handle

-- the labels of the modules of a list, by device handle
abbrev pub labels_in : List LoadedModule → Labels
labels_in modules handle = module_or_missing (find (is_of handle) modules)

-- each module stands there once
pub record EachOnce (modules : List LoadedModule) : Type 0 where
  pub apart : (i j : ℕ) (d : LoadedModule) → i < j → j < length modules
      → (slice_index_or modules i d).dimm ≢ (slice_index_or modules j d).dimm
