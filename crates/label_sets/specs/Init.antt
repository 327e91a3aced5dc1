-- The area of a module is initialised.
use Rattle.std.specs.Prelude.{◌≡◌, ℕ, Bool, true, false, List, Option, None, Some, Result, Ok, Err, find, map}
use Rattle.std.specs.List.{All}
use Rattle.std.specs.Option.{option_and_then, option_map, option_map_or}
use Rattle.index_block.specs.declared.geometry.Geometry.{Geometry}
use Rattle.index_block.specs.Geometry.{geometry_of}
use Rattle.view_types.specs.declared.states.AreaState.{AreaState}
use Rattle.view_types.specs.declared.states.AreaState.TheVariants as state
use Rattle.label_codec.specs.declared.kind.AreaKind.{AreaKind}
use Rattle.label_codec.specs.declared.kind.AreaKind.TheVariants as kind
use Rattle.label_codec.specs.ModuleLabels.{Labels, Module}
use Rattle.region_map.specs.declared.platform.Platform.{Platform}
use Rattle.label_area.specs.declared.init.InitFault.{InitFault}
use Rattle.label_area.specs.declared.init.InitFault.TheVariants as init
use Rattle.label_table.specs.Settling.{IsInitialised, settled, with_ready_area}
use Rattle.label_table.specs.Tables.{State}
use Rattle.region_labels.specs.declared.modules.LoadedModule.{LoadedModule}
use Rattle.region_labels.specs.declared.modules.ModuleArea.{ModuleArea}
use Rattle.region_labels.specs.declared.modules.ModuleArea.TheVariants.{Missing, WrongSize, Uninit, Foreign, Ready}
use Rattle.region_labels.specs.declared.region.RegionLabels.{RegionLabels}
use Rattle.region_labels.specs.Held.{spare_in}
use Rattle.region_labels.specs.Modules.{EachOnce, dimm_of, is_of, labels_in, module_in, size_in}
use Rattle.region_labels.specs.Regions.{IsOver}
use Rattle.module_flips.specs.Flips.{HasLabelsInUse, IsOwn}
use Rattle.label_sets.specs.declared.init.SetInitFault.{SetInitFault}
use Rattle.label_sets.specs.declared.init.SetInitFault.TheVariants.{Refused, Failed, Memory}
use Rattle.label_sets.specs.Sets.{StoredSets, platform_in}
use Rattle.label_sets.specs.Sets as sets
use Rattle.module_flips.specs.Sweeps.{ChangesOnly}
use Rattle.label_sets.specs.Views.{area_state}

-- the rig failed
abbrev pub is_failure : SetInitFault → Bool
is_failure (Refused told) = false
is_failure (Failed dimm) = true
is_failure Memory = false

abbrev pub is_init_failed : {T : Type 0} → Result T SetInitFault → Bool
is_init_failed (Ok value) = false
is_init_failed (Err fault) = is_failure fault

-- a fact of the state that a refusal tells
abbrev pub Refuses : (AreaState → Type 0) → SetInitFault → Type 0
Refuses fact (Refused told) = fact told
Refuses fact (Failed dimm) = Unit {0}
Refuses fact Memory = Unit {0}

-- a fact where the area is refused, or memory
abbrev pub UnlessFailed : Type 0 → SetInitFault → Type 0
UnlessFailed fact (Refused told) = fact
UnlessFailed fact (Failed dimm) = Unit {0}
UnlessFailed fact Memory = fact

-- a failure names the module with this device handle
abbrev pub NamesModule : ℕ → SetInitFault → Type 0
NamesModule dimm (Refused told) = Unit {0}
NamesModule dimm (Failed named) = named ≡ dimm
NamesModule dimm Memory = Unit {0}

-- the number of slots of an area of some size
abbrev pub slots_by_size : Option ℕ → ℕ
slots_by_size size = option_map_or (λ (g : Geometry). g.slots) (option_and_then (λ n. geometry_of n 256) size) 0

-- the number of slots that the size of a module's area gives
abbrev pub slots_at : StoredSets → ℕ → ℕ
slots_at sets dimm = slots_by_size (option_and_then size_in (find (is_of dimm) sets.modules))

-- the state of a module's area, as it is shown
abbrev pub state_at : StoredSets → ℕ → Option AreaState
state_at stored dimm =
    option_map (area_state (platform_in stored) (sets.labels_in stored)) (find (is_of dimm) stored.modules)

-- the state once the area of a module is initialised: held labels of other modules may be dead now, and vanish
abbrev pub initialised_state : Platform → ℕ → ℕ → State → State
initialised_state platform dimm slots state = record {
  table = settled platform (with_ready_area dimm slots state.table);
  pending = state.pending;
}

-- a Ready area without labels
abbrev pub vacant_module : ℕ → Module
vacant_module slots = record { kind = kind.Ready; slots = slots; at = λ slot. None }

-- the size of an area that is Uninit
abbrev pub uninit_size : ModuleArea → Option ℕ
uninit_size Missing = None
uninit_size (WrongSize size) = None
uninit_size (Uninit size) = Some size
uninit_size (Foreign size) = None
uninit_size (Ready area) = None

-- How an area is refused that is of a kind, with these slots, where a state of it is kept: as it is read. An Uninit
-- one is refused for the state that is kept.
abbrev pub refused_by : AreaKind → ℕ → ℕ → AreaState → AreaState
refused_by kind.Missing slots spare kept = state.Missing
refused_by kind.WrongSize slots spare kept = state.WrongSize
refused_by kind.Uninit slots spare kept = kept
refused_by kind.Foreign slots spare kept = state.Foreign
refused_by kind.Ready slots spare kept = state.Ready slots spare

abbrev pub refused_state : Platform → Labels → LoadedModule → LoadedModule → AreaState
refused_state platform labels kept read = refused_by (module_in read).kind (module_in read).slots
    (spare_in platform labels kept) (area_state platform labels kept)

-- how the answer of an area that was not initialised is told
abbrev pub fault_by : ℕ → ℕ → InitFault → SetInitFault
fault_by dimm slots init.Missing = Refused state.Missing
fault_by dimm slots init.WrongSize = Refused state.WrongSize
fault_by dimm slots init.Foreign = Refused state.Foreign
fault_by dimm slots init.AlreadyReady = Refused (state.Ready slots 0)
fault_by dimm slots init.Failed = Failed dimm

-- Modules of which one, whose area was Uninit, has a Ready area of this many slots without labels. What is kept of
-- regions goes with them as before.
pub record IsInitialisedTo (modules now : List LoadedModule) (regions : List RegionLabels)
    (dimm slots : ℕ) : Type 0 where
  pub others : ChangesOnly dimm modules now
  pub dimms : map dimm_of now ≡ map dimm_of modules
  pub sizes : map size_in now ≡ map size_in modules
  pub labels : IsInitialised dimm slots (labels_in modules) (labels_in now)
  pub once : EachOnce now
  pub own : All IsOwn now
  pub in_use : All HasLabelsInUse now
  pub over : All (IsOver now) regions
