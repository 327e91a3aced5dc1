-- What contracts see of a session.
use Rattle.std.specs.Prelude.{◌≡◌, ℕ, ◌==◌, Bool, false, List, if◌then◌else◌, map}
use Rattle.std.specs.FinMap.{get}
use Rattle.std.specs.List.{All, list_any}
use Rattle.rig_trait.specs.Areas.{Areas}
use Rattle.rig_trait.specs.declared.shown.Shown.{Ghosts}
use Rattle.rig_trait.specs.Frames.{IsTold}
use Rattle.label_codec.specs.ModuleLabels.{Labels}
use Rattle.label_area.specs.Inits as area
use Rattle.region_map.specs.declared.platform.Platform.{Platform}
use Rattle.label_table.specs.Tables.{State, state, table}
use Rattle.region_labels.specs.Modules.{dimm_of, size_in}
use Rattle.module_flips.specs.Flips.{IsSizedIn}
use Rattle.module_flips.specs.Stored.{StandsIn, stored_labels}
use Rattle.label_sets.specs.Init.{slots_at}
use Rattle.label_sets.specs.Sets.{StoredSets, labels_in}

-- The platform, what is kept of the areas of its modules, and whether that may be another state than theirs.
pub record StoredSession : Type 0 where
  pub platform : Platform
  pub sets : StoredSets
  pub spent : Bool

-- the labels that are kept
abbrev pub labels_of : StoredSession → Labels
labels_of session = labels_in session.sets

-- the state that they stand for
abbrev pub state_of : StoredSession → State
state_of session = state session.platform (labels_of session)

-- how many slots the area of each module has room for, by handle
abbrev pub slots_of : StoredSession → ℕ → ℕ
slots_of session = slots_at session.sets

-- a session as it starts
abbrev pub opens : Platform → StoredSession → Type 0
opens platform session = (session.platform ≡ platform) × (session.spent ≡ false)

-- how many slots the areas of some modules have room for; the areas of others are not looked at
abbrev pub stored_slots : List ℕ → Areas → ℕ → ℕ
stored_slots modules areas handle =
    if list_any (λ dimm. dimm == handle) modules then area.slots_of (get areas handle) else 0

-- The rig tells its areas, and they are those that are kept.
pub record IsCurrent {R : Type 0} (m : Ghosts R) (rig : R) (session : StoredSession) : Type 0 where
  pub told : IsTold m rig
  pub stands : All (StandsIn (m.areas rig)) session.sets.modules
  pub labels_are : labels_of session ≡ stored_labels session.platform.modules (m.areas rig)
  pub slots_are : slots_of session ≡ stored_slots session.platform.modules (m.areas rig)

-- The rig has areas of the sizes that the session shows, or none where that shows none.
abbrev pub HasSizes : StoredSession → Areas → Type 0
HasSizes session areas = All (IsSizedIn areas) session.sets.modules

-- a session of the same modules, whose areas have the same sizes
pub record IsAlike (session now : StoredSession) : Type 0 where
  pub dimms : map dimm_of now.sets.modules ≡ map dimm_of session.sets.modules
  pub sizes : map size_in now.sets.modules ≡ map size_in session.sets.modules

-- the areas of the platform's modules stand for a state
abbrev pub StandFor : Platform → Areas → State → Type 0
StandFor platform areas now = state platform (stored_labels platform.modules areas) ≡ now

-- they stand for its table
abbrev pub HasTable : Platform → State → Areas → Type 0
HasTable platform state areas = table platform (stored_labels platform.modules areas) ≡ state.table
