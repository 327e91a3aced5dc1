-- What staging a namespace in one of the regions asks and gives.
use Rattle.std.specs.Prelude.{◌≡◌, ℕ, ◌+◌, ◌≤◌, ◌<◌, true, IfSome, List, Option, Some, length, map, slice_index_or}
use Rattle.std.specs.List.{All}
use Rattle.view_types.specs.declared.namespaces.Namespace.{Namespace}
use Rattle.extent_alloc.specs.Free.{FreeSpace}
use Rattle.label_codec.specs.ModuleLabels.{Labels}
use Rattle.region_map.specs.declared.platform.Member.{Member}
use Rattle.region_map.specs.declared.platform.Platform.{Platform}
use Rattle.region_map.specs.declared.platform.Region.{Region}
use Rattle.region_map.specs.Platforms.{region_at}
use Rattle.region_map.specs.Sound.{AreOrdered}
use Rattle.label_table.specs.Division.{is_common_free}
use Rattle.label_table.specs.Flips.{HasNone}
use Rattle.label_table.specs.Statuses.{RegionReady, status}
use Rattle.label_table.specs.Tables.{is_member, slot_of}
use Rattle.region_labels.specs.declared.modules.LoadedModule.{LoadedModule}
use Rattle.region_labels.specs.declared.region.RegionLabels.{RegionLabels}
use Rattle.region_labels.specs.Fates.{platform_of, region_in}
use Rattle.region_labels.specs.Modules as loaded
use Rattle.module_flips.specs.Together.{free_slots}
use Rattle.namespace_passes.specs.Staging.{CanStage}
use Rattle.label_sets.specs.Kept.{IsKnownFree}
use Rattle.label_sets.specs.Sets.{StoredSets, labels_in, platform_in}

-- each offset of a namespace's range is common free
abbrev pub IsOpenRange : Platform → Labels → Region → Namespace → Type 0
IsOpenRange platform labels region space = (offset : ℕ) → space.offset ≤ offset → offset < space.offset + space.length
    → is_common_free platform labels region offset ≡ true

-- A region stands at a place among the regions, and a namespace can be staged there.
pub record CanStageAt (modules : List LoadedModule) (regions : List RegionLabels) (free : Option (List FreeSpace))
    (place : ℕ) (region : Region) (space : Namespace) : Type 0 where
  pub within : place < length regions
  pub is : (d : RegionLabels) → (slice_index_or regions place d).region ≡ region
  pub can : CanStage modules regions region space
  pub is_open : IsOpenRange (platform_of regions) (loaded.labels_in modules) region space
  pub ordered : AreOrdered (map region_in regions)
  pub all_free : IsKnownFree modules regions free
  pub spare : IfSome free (λ spaces. (e : FreeSpace) → 0 < (slice_index_or spaces place e).spare)

-- what holds of the region with an index
abbrev pub OfRegion : StoredSets → ℕ → (Region → Type 0) → Type 0
OfRegion sets index holds = (region : Region) → region_at (platform_in sets) index ≡ Some region → holds region

-- A namespace can be staged in a Ready region: each of its modules has a free slot and no label with the uuid, and the
-- namespace's range is common free.
pub record CanStageIn (sets : StoredSets) (space : Namespace) (region : Region) : Type 0 where
  pub ready : status (labels_in sets) region ≡ RegionReady
  pub fresh : All (λ (member : Member). HasNone space.uuid (labels_in sets member.handle)) region.members
  pub free : All (λ (loaded : LoadedModule). is_member region loaded.dimm ≡ true → 0 < free_slots loaded) sets.modules
  pub is_open : IsOpenRange (platform_in sets) (labels_in sets) region space
  pub long : 0 < space.length

-- each module of the region has given a slot, and the others none
abbrev pub GivesSlots : StoredSets → StoredSets → Region → Type 0
GivesSlots before after region = (place : ℕ) (d : LoadedModule) → place < length before.modules
    → free_slots (slice_index_or after.modules place d) + slot_of region (slice_index_or before.modules place d).dimm
    ≡ free_slots (slice_index_or before.modules place d)
