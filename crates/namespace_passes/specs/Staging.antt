-- A namespace is staged: its labels are put into the modules of its region, by position.
use Rattle.std.specs.Prelude.{◌≡◌, ◌≢◌, ℕ, ◌+◌, ◌^◌, ◌≤◌, ◌<◌, true, List, Some, drop, length, slice_index_or}
use Rattle.std.specs.List.{All, Contains}
use Rattle.view_types.specs.declared.namespaces.Namespace.{Namespace}
use Rattle.label_area.specs.Flips.{at_slot}
use Rattle.label_codec.specs.declared.label.Label.{Label}
use Rattle.label_codec.specs.ModuleLabels.{Labels, has}
use Rattle.region_map.specs.declared.platform.Member.{Member}
use Rattle.region_map.specs.declared.platform.Region.{Region}
use Rattle.label_table.specs.Belonging.{member_at}
use Rattle.label_table.specs.Division.{part_size}
use Rattle.label_table.specs.Flips.{HasNone}
use Rattle.label_table.specs.Spaces.{Space}
use Rattle.label_table.specs.Tables.{is_member, slot_of, state, with_namespace}
use Rattle.label_table.specs.Wholes.{all_ready}
use Rattle.region_labels.specs.declared.modules.LoadedModule.{LoadedModule}
use Rattle.region_labels.specs.declared.region.RegionLabels.{RegionLabels}
use Rattle.region_labels.specs.Fates.{platform_of}
use Rattle.region_labels.specs.Modules.{labels_in}
use Rattle.region_labels.specs.Regions.{handles}
use Rattle.region_labels.specs.Followed.{handle_at}
use Rattle.region_labels.specs.Rooms.{HasRoom, HasRoomFor, HasRoomForAll}
use Rattle.region_labels.specs.GainedSpaces.{GainsNamespace}
use Rattle.module_flips.specs.Together.{IsTogether, StaysTogether, free_slots}
use Rattle.namespace_passes.specs.Staged.{IsStagedTo, staged_label}

-- The modules of a region have room for a label more of a namespace that is new, and the namespace lies in the region.
pub record CanStage (modules : List LoadedModule) (regions : List RegionLabels) (region : Region)
    (space : Namespace) : Type 0 where
  pub together : IsTogether modules regions
  pub region_in : Contains (platform_of regions).regions region
  pub some : 0 < length region.members
  pub few : length region.members < 2 ^ 16
  pub ready : all_ready region (labels_in modules) ≡ true
  pub same_sizes : All (λ (member : Member). member.size ≡ part_size region) region.members
  pub addresses : All (λ (member : Member). member.dpa_base + member.size < 2 ^ 64) region.members
  pub fresh : All (λ (member : Member). HasNone space.uuid (labels_in modules member.handle)) region.members
  pub free : All (λ (loaded : LoadedModule). is_member region loaded.dimm ≡ true → 0 < free_slots loaded) modules
  pub room : All HasRoom regions
  pub fits : space.offset + space.length ≤ part_size region
  pub long : 0 < space.length

-- The state has the new namespace, the region has gained it, and each of its modules has given a slot.
pub record IsStaged (modules : List LoadedModule) (regions : List RegionLabels) (region : Region) (new : Space)
    (now : List LoadedModule) : Type 0 where
  pub state_is : state (platform_of regions) (labels_in now)
      ≡ with_namespace region new (state (platform_of regions) (labels_in modules))
  pub gains : GainsNamespace (platform_of regions) region new (labels_in modules) (labels_in now)
  pub free : (place : ℕ) (d : LoadedModule) → place < length modules
      → free_slots (slice_index_or now place d) + slot_of region (slice_index_or modules place d).dimm
      ≡ free_slots (slice_index_or modules place d)

-- each label of the namespace is the staged one of its position, wherever its slot is
abbrev pub AreStaged : Region → Namespace → Labels → Type 0
AreStaged region space labels = (position slot : ℕ) (label : Label) → position < length region.members
    → (labels (member_at region position).handle).at slot ≡ Some label → has space.uuid label ≡ true
    → label ≡ at_slot slot (staged_label region space position)

-- The labels of the positions below one are put into their modules. Each of these has given a slot, the others have
-- theirs, and there is room for the labels that are to come.
pub record StagedBelow (modules : List LoadedModule) (regions : List RegionLabels) (region : Region)
    (space : Namespace) (position : ℕ) (now : List LoadedModule) (regions_now : List RegionLabels) : Type 0 where
  pub together : StaysTogether modules regions now regions_now
  pub labels : IsStagedTo (platform_of regions) region space (labels_in modules) position (labels_in now)
  pub gave : (place k : ℕ) (d : LoadedModule) → place < length modules → k < position → k < length region.members
      → (slice_index_or modules place d).dimm ≡ (member_at region k).handle
      → free_slots (slice_index_or now place d) + 1 ≡ free_slots (slice_index_or modules place d)
  pub left : (place : ℕ) (d : LoadedModule) → place < length modules
      → ((k : ℕ) → k < position → k < length region.members
      → (slice_index_or modules place d).dimm ≢ (member_at region k).handle)
      → free_slots (slice_index_or now place d) ≡ free_slots (slice_index_or modules place d)
  pub room : All (HasRoomForAll (drop position (handles region))) regions_now

-- The module of the member at a position can get its label.
pub record CanStageAt (modules : List LoadedModule) (regions : List RegionLabels) (region : Region)
    (space : Namespace) (position : ℕ) : Type 0 where
  pub together : IsTogether modules regions
  pub ready : all_ready region (labels_in modules) ≡ true
  pub few : length region.members < 2 ^ 16
  pub address : (member_at region position).dpa_base + space.offset < 2 ^ 64
  pub free : All (λ (loaded : LoadedModule). loaded.dimm ≡ (member_at region position).handle → 0 < free_slots loaded)
      modules
  pub room : All (HasRoomFor (handle_at region position)) regions
