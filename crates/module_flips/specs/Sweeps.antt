-- What a sweep of a module frees: its junk, and its dead labels.
use Rattle.std.specs.Prelude.{◌≡◌, ◌≢◌, ℕ, zero, suc, ◌<◌, ◌≤◌, ◌&&◌, ◌++◌, Bool, false, true, List, [], ◌∷◌, Some}
use Rattle.std.specs.Prelude.{if◌then◌else◌, is_some, length, slice_index_or}
use Rattle.std.specs.Option.{option_map_or}
use Rattle.label_codec.specs.declared.label.Label.{Label}
use Rattle.label_codec.specs.ModuleLabels.{Labels}
use Rattle.region_map.specs.declared.platform.Platform.{Platform}
use Rattle.label_table.specs.Fates.{is_dead}
use Rattle.label_table.specs.Tables.{state}
use Rattle.region_labels.specs.declared.modules.LoadedModule.{LoadedModule}
use Rattle.region_labels.specs.Held.{spare_in}
use Rattle.region_labels.specs.declared.region.RegionLabels.{RegionLabels}
use Rattle.region_labels.specs.Fates.{platform_of}
use Rattle.region_labels.specs.Modules.{module_in}
use Rattle.region_labels.specs.Modules as loaded
use Rattle.region_labels.specs.Changes.{dimm_at}
use Rattle.module_flips.specs.Flips.{is_used_in}
use Rattle.module_flips.specs.Together.{StaysTogether, free_slots}

-- all slots of the module can be listed in so much
abbrev pub HasSlotsWithin : ℕ → LoadedModule → Type 0
HasSlotsWithin most loaded = (module_in loaded).slots ≤ most

-- a slot in use has no label, or one that passes a test
abbrev pub is_unwanted : (Label → Bool) → LoadedModule → ℕ → Bool
is_unwanted test loaded slot = is_used_in loaded slot && option_map_or test ((module_in loaded).at slot) true

-- the slots below one that pass a test
abbrev pub slots_below : (ℕ → Bool) → ℕ → List ℕ
slots_below test zero = []
slots_below test (suc slot) = slots_below test slot ++ (if test slot then slot ∷ [] else [])

-- the slots of a module that have junk, or a label that passes a test
abbrev pub unwanted_slots : (Label → Bool) → LoadedModule → List ℕ
unwanted_slots test loaded = slots_below (is_unwanted test loaded) (module_in loaded).slots

-- a label of the module is dead
abbrev pub is_dead_of : Platform → Labels → LoadedModule → Label → Bool
is_dead_of platform labels loaded = is_dead platform labels loaded.dimm

-- A module has neither junk nor a dead label, and as many free slots as are left for new labels.
pub record IsSwept (platform : Platform) (labels : Labels) (loaded : LoadedModule) : Type 0 where
  pub no_junk : (slot : ℕ) → is_used_in loaded slot ≡ is_some ((module_in loaded).at slot)
  pub no_dead : (slot : ℕ) (label : Label) → (module_in loaded).at slot ≡ Some label
      → is_dead platform labels loaded.dimm label ≡ false
  pub free : free_slots loaded ≡ spare_in platform labels loaded

-- all other modules are as they were, in their order
pub record ChangesOnly (dimm : ℕ) (before after : List LoadedModule) : Type 0 where
  pub each : length after ≡ length before
  pub others : (place : ℕ) (d : LoadedModule) → (slice_index_or before place d).dimm ≢ dimm
      → slice_index_or after place d ≡ slice_index_or before place d

-- the region is the same, and its index has no more entries, and room for as many more as before
pub record HasNoMoreEntries (before after : RegionLabels) : Type 0 where
  pub region : after.region ≡ before.region
  pub entries : length after.index.entries ≤ length before.index.entries
  pub room : before.index.room ≤ after.index.room

-- Modules and regions after a sweep of the module at a seat: they stand for the same state.
pub record IsSweptTo (modules : List LoadedModule) (regions : List RegionLabels) (now : List LoadedModule)
    (regions_now : List RegionLabels) (seat : ℕ) : Type 0 where
  pub others : ChangesOnly (dimm_at modules seat) modules now
  pub together : StaysTogether modules regions now regions_now
  pub same_state : state (platform_of regions_now) (loaded.labels_in now)
      ≡ state (platform_of regions) (loaded.labels_in modules)
  pub swept : (d : LoadedModule) → IsSwept (platform_of regions_now) (loaded.labels_in now) (slice_index_or now seat d)
  pub entries : (place : ℕ) (d : RegionLabels) → place < length regions
      → HasNoMoreEntries (slice_index_or regions place d) (slice_index_or regions_now place d)
