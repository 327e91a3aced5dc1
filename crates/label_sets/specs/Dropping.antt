-- What freeing the labels of a namespace of one of the regions asks and gives.
use Rattle.std.specs.Prelude.{◌≡◌, ℕ, ◌+◌, ◌<◌, true, List, Option, Some, length, map, slice_index_or}
use Rattle.std.specs.List.{Contains}
use Rattle.view_types.specs.declared.extents.Extent.{Extent}
use Rattle.extent_alloc.specs.Free.{FreeSpace}
use Rattle.label_codec.specs.ModuleLabels.{Labels}
use Rattle.region_map.specs.declared.platform.Member.{Member}
use Rattle.region_map.specs.declared.platform.Platform.{Platform}
use Rattle.region_map.specs.declared.platform.Region.{Region}
use Rattle.region_map.specs.Sound.{AreOrdered}
use Rattle.label_table.specs.Flips.{AllStale, HasNone}
use Rattle.label_table.specs.Spaces.{Space, space}
use Rattle.label_table.specs.Tables.{slot_of, without_namespace}
use Rattle.label_table.specs.Wholes.{is_whole}
use Rattle.region_labels.specs.declared.modules.LoadedModule.{LoadedModule}
use Rattle.region_labels.specs.declared.region.RegionLabels.{RegionLabels}
use Rattle.region_labels.specs.Fates.{platform_of, region_in}
use Rattle.region_labels.specs.Modules as loaded
use Rattle.region_labels.specs.Ranges.{range_of}
use Rattle.region_labels.specs.GainedSpaces.{IsAlone}
use Rattle.module_flips.specs.Together.{free_slots}
use Rattle.namespace_passes.specs.Dropping.{CanDrop}
use Rattle.label_sets.specs.Kept.{IsKnownFree, IsKnownReady}
use Rattle.label_sets.specs.Sets.{StoredSets, labels_in, state_in}

-- The labels of a namespace can be freed: each of them is being changed, and none is read-only.
pub record CanDropIn (sets : StoredSets) (uuid : List ℕ) (region : Region) : Type 0 where
  pub whole : is_whole (labels_in sets) region uuid ≡ true
  pub stale : AllStale region uuid (labels_in sets)

-- the state has the namespace no more
abbrev pub IsDroppedIn : StoredSets → StoredSets → List ℕ → Region → Type 0
IsDroppedIn before after uuid region = state_in after ≡ without_namespace region uuid (state_in before)

-- no module of the region has a label with the uuid
abbrev pub HasNoneIn : StoredSets → List ℕ → Region → Type 0
HasNoneIn after uuid region = (member : Member) → Contains region.members member
    → HasNone uuid (labels_in after member.handle)

-- each module of the region has a free slot more, and the others as many as before
abbrev pub GainsSlots : StoredSets → StoredSets → Region → Type 0
GainsSlots before after region = (place : ℕ) (d : LoadedModule) → place < length before.modules
    → free_slots (slice_index_or after.modules place d)
    ≡ free_slots (slice_index_or before.modules place d) + slot_of region (slice_index_or before.modules place d).dimm

-- A region stands at a place among the regions, and a namespace can be dropped there.
pub record CanDropAt (modules : List LoadedModule) (regions : List RegionLabels) (free : Option (List FreeSpace))
    (ready : Option ℕ) (place : ℕ) (region : Region) (uuid : List ℕ) : Type 0 where
  pub within : place < length regions
  pub is : (d : RegionLabels) → (slice_index_or regions place d).region ≡ region
  pub can : CanDrop modules regions region uuid
  pub ordered : AreOrdered (map region_in regions)
  pub all_free : IsKnownFree modules regions free
  pub known_ready : IsKnownReady modules regions ready

-- the namespace of a region with a uuid has a range alone: no other has an offset there, and no label holds one
pub record HasAlone (platform : Platform) (labels : Labels) (region : Region) (uuid : List ℕ)
    (range : Extent) : Type 0 where
  pub own : Space
  pub is : space labels region uuid ≡ Some own
  pub range_is : range ≡ range_of own
  pub alone : IsAlone platform labels region own

abbrev pub HasAloneAt : List LoadedModule → List RegionLabels → ℕ → List ℕ → Extent → Type 0
HasAloneAt modules regions place uuid range = (d : RegionLabels)
    → HasAlone (platform_of regions) (loaded.labels_in modules) (slice_index_or regions place d).region uuid range
