-- The held labels with a uuid of one module are given up.
use Rattle.std.specs.Prelude.{◌≡◌, ◌⊎◌, ℕ, ◌||◌, Bool, List, slice_index_or}
use Rattle.label_codec.specs.declared.label.Label.{Label}
use Rattle.label_codec.specs.ModuleLabels.{Labels, has}
use Rattle.region_map.specs.declared.platform.Platform.{Platform}
use Rattle.label_table.specs.Settling.{settled, without_held}
use Rattle.label_table.specs.Tables.{State, state}
use Rattle.region_labels.specs.declared.modules.LoadedModule.{LoadedModule}
use Rattle.region_labels.specs.declared.region.RegionLabels.{RegionLabels}
use Rattle.region_labels.specs.Fates.{platform_of}
use Rattle.region_labels.specs.Modules as loaded
use Rattle.region_labels.specs.Changes.{dimm_at}
use Rattle.module_flips.specs.Together.{StaysTogether}
use Rattle.module_flips.specs.Sweeps.{ChangesOnly, IsSwept, is_dead_of, unwanted_slots}

-- a label of the module has the uuid, or is dead
abbrev pub has_or_is_dead : Platform → Labels → List ℕ → LoadedModule → Label → Bool
has_or_is_dead platform labels uuid loaded label = has uuid label || is_dead_of platform labels loaded label

-- the slots of a module that have junk, a label with the uuid, or a dead one
abbrev pub released_slots : Platform → Labels → List ℕ → LoadedModule → List ℕ
released_slots platform labels uuid loaded = unwanted_slots (has_or_is_dead platform labels uuid loaded) loaded

-- The state once a module has given up its held labels with a uuid: held labels of other modules may be dead now, and
-- vanish.
abbrev pub released_state : Platform → ℕ → List ℕ → State → State
released_state platform dimm uuid before = record {
  table = settled platform (without_held dimm uuid before.table);
  pending = before.pending;
}

-- labels that stand for the state before, or for the one once a module has given up its held labels with a uuid
abbrev pub IsBeforeOrReleased : Platform → ℕ → List ℕ → Labels → Labels → Type 0
IsBeforeOrReleased platform dimm uuid before labels = (state platform labels ≡ state platform before)
    ⊎ (state platform labels ≡ released_state platform dimm uuid (state platform before))

-- Modules and regions once the module at a seat has given up its held labels with a uuid. It is swept then.
pub record IsReleasedTo (modules : List LoadedModule) (regions : List RegionLabels) (now : List LoadedModule)
    (regions_now : List RegionLabels) (seat : ℕ) (uuid : List ℕ) : Type 0 where
  pub others : ChangesOnly (dimm_at modules seat) modules now
  pub together : StaysTogether modules regions now regions_now
  pub state_is : state (platform_of regions_now) (loaded.labels_in now)
      ≡ released_state (platform_of regions) (dimm_at modules seat) uuid
      (state (platform_of regions) (loaded.labels_in modules))
  pub swept : (d : LoadedModule) → IsSwept (platform_of regions_now) (loaded.labels_in now) (slice_index_or now seat d)
