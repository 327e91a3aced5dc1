-- The labels of a namespace are freed, by which it is gone.
use Rattle.std.specs.Prelude.{◌≡◌, ◌≢◌, ◌⊎◌, ℕ, ◌+◌, ◌<◌, false, true, List, length, map, slice_index_or}
use Rattle.std.specs.List.{Contains}
use Rattle.label_codec.specs.ModuleLabels.{Labels}
use Rattle.region_map.specs.declared.platform.Member.{Member}
use Rattle.region_map.specs.declared.platform.Platform.{Platform}
use Rattle.region_map.specs.declared.platform.Region.{Region}
use Rattle.label_table.specs.Belonging.{member_at}
use Rattle.label_table.specs.Flips.{AllStale, HasNone, IsConfined, other_labels}
use Rattle.label_table.specs.Tables.{is_member, slot_of, state, without_namespace}
use Rattle.label_table.specs.Wholes.{is_whole}
use Rattle.region_labels.specs.declared.modules.LoadedModule.{LoadedModule}
use Rattle.region_labels.specs.declared.region.RegionLabels.{RegionLabels}
use Rattle.region_labels.specs.Fates.{platform_of, region_in}
use Rattle.region_labels.specs.Modules.{labels_in}
use Rattle.region_labels.specs.Regions.{handles}
use Rattle.region_labels.specs.Rooms.{room_for}
use Rattle.module_flips.specs.Together.{IsTogether, free_slots}
use Rattle.namespace_passes.specs.Passes.{label_number}

-- A namespace of one of the regions can be dropped: each of its labels is being changed, and none is read-only.
pub record CanDrop (modules : List LoadedModule) (regions : List RegionLabels) (region : Region)
    (uuid : List ℕ) : Type 0 where
  pub together : IsTogether modules regions
  pub region_in : Contains (map region_in regions) region
  pub whole : is_whole (labels_in modules) region uuid ≡ true
  pub stale : AllStale region uuid (labels_in modules)

-- labels that stand for the state before, or for that without the namespace
abbrev pub IsBeforeOrWithout : Platform → Region → List ℕ → Labels → Labels → Type 0
IsBeforeOrWithout platform region uuid before labels =
    (state platform labels ≡ state platform before)
    ⊎ (state platform labels ≡ without_namespace region uuid (state platform before))

-- The state has the namespace no more, nor has any module of the region a label with its uuid. All other labels are
-- kept. Each module of the region has a free slot more and a label less, and all other modules are as they were.
pub record IsDropped (modules : List LoadedModule) (regions : List RegionLabels) (region : Region)
    (uuid : List ℕ) (now : List LoadedModule) : Type 0 where
  pub state_is : state (platform_of regions) (labels_in now)
      ≡ without_namespace region uuid (state (platform_of regions) (labels_in modules))
  pub none : (member : Member) → Contains region.members member → HasNone uuid (labels_in now member.handle)
  pub others : (handle : ℕ) → other_labels uuid (labels_in now handle) ≡ other_labels uuid (labels_in modules handle)
  pub elsewhere : (handle : ℕ) → is_member region handle ≡ false → labels_in now handle ≡ labels_in modules handle
  pub free : (place : ℕ) (d : LoadedModule) → place < length modules
      → free_slots (slice_index_or now place d)
      ≡ free_slots (slice_index_or modules place d) + slot_of region (slice_index_or modules place d).dimm
  pub counts : (place : ℕ) (d : LoadedModule) → place < length modules
      → label_number (slice_index_or now place d) + slot_of region (slice_index_or modules place d).dimm
      ≡ label_number (slice_index_or modules place d)
  pub kept : (place : ℕ) (d : LoadedModule) → place < length modules
      → is_member region (slice_index_or modules place d).dimm ≡ false
      → slice_index_or now place d ≡ slice_index_or modules place d

-- The state has the namespace no more, and the module at position 0 has lost its label.
pub record IsGone (modules : List LoadedModule) (regions : List RegionLabels) (region : Region) (uuid : List ℕ)
    (now : List LoadedModule) : Type 0 where
  pub state_is : state (platform_of regions) (labels_in now)
      ≡ without_namespace region uuid (state (platform_of regions) (labels_in modules))
  pub first : HasNone uuid (labels_in now (member_at region 0).handle)

-- all modules are as they were, or the namespace is gone
abbrev pub IsKeptOrGone : List LoadedModule → List RegionLabels → Region → List ℕ → List LoadedModule → Type 0
IsKeptOrGone modules regions region uuid now = (now ≡ modules) ⊎ IsGone modules regions region uuid now

-- the room in the index of a region after each module of one has lost a label
abbrev pub room_after_drop : Region → RegionLabels → ℕ
room_after_drop region kept = kept.index.room + room_for (handles region) kept.region

-- The module at a position has no label with the uuid any longer, and all other labels are kept.
pub record LosesLabel (region : Region) (uuid : List ℕ) (position : ℕ) (before after : Labels) : Type 0 where
  pub confined : IsConfined uuid (member_at region position).handle before after
  pub none : HasNone uuid (after (member_at region position).handle)

-- labels before the module at a position has lost its own, or after that
abbrev pub IsBeforeOrLost : Region → List ℕ → ℕ → Labels → Labels → Type 0
IsBeforeOrLost region uuid position before labels =
    (labels ≡ before) ⊎ LosesLabel region uuid position before labels

-- a module has a label less, and a free slot more
pub record HasGiven (before after : LoadedModule) : Type 0 where
  pub free : free_slots after ≡ free_slots before + 1
  pub labels : label_number after + 1 ≡ label_number before

-- The module with a handle has given its label, and all others are as they were.
pub record GivesSlot (handle : ℕ) (before after : List LoadedModule) : Type 0 where
  pub gave : (place : ℕ) (d : LoadedModule) → place < length before → (slice_index_or before place d).dimm ≡ handle
      → HasGiven (slice_index_or before place d) (slice_index_or after place d)
  pub others : (place : ℕ) (d : LoadedModule) → place < length before
      → (slice_index_or before place d).dimm ≢ handle
      → slice_index_or after place d ≡ slice_index_or before place d
