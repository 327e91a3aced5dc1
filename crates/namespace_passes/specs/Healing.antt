-- What a heal needs, and what it makes of modules and regions.
use Rattle.std.specs.Prelude.{◌≡◌, ℕ, ◌<◌, false, true, List, Some, length, map, slice_index_or}
use Rattle.std.specs.List.{All, Contains}
use Rattle.label_codec.specs.declared.label.Label.{Label}
use Rattle.label_codec.specs.ModuleLabels.{Labels, has}
use Rattle.region_map.specs.declared.platform.Member.{Member}
use Rattle.region_map.specs.declared.platform.Region.{Region}
use Rattle.label_table.specs.Belonging.{member_at}
use Rattle.label_table.specs.Division.{part_size}
use Rattle.label_table.specs.Flips.{EachLabel, other_labels}
use Rattle.label_table.specs.Plain.{HasOnly}
use Rattle.label_table.specs.Tables.{changed_at, is_member, state, table}
use Rattle.label_table.specs.Wholes.{any_read_only, is_whole, label_count, labels_with, leading_label}
use Rattle.region_labels.specs.declared.modules.LoadedModule.{LoadedModule}
use Rattle.region_labels.specs.declared.region.RegionLabels.{RegionLabels}
use Rattle.region_labels.specs.Fates.{platform_of, region_in}
use Rattle.region_labels.specs.Modules.{labels_in}
use Rattle.module_flips.specs.Together.{IsTogether, free_slots}
use Rattle.namespace_passes.specs.declared.places.LabelPlace.{LabelPlace}
use Rattle.namespace_passes.specs.Labels.{needs_healing}
use Rattle.namespace_passes.specs.Namespaces.{HasHeal, IsAlikeAt}

-- a module of the region has a free slot
abbrev pub HasFreeFor : Region → LoadedModule → Type 0
HasFreeFor region loaded = is_member region loaded.dimm ≡ true → 0 < free_slots loaded

-- each member has a part of one size
abbrev pub HaveOneSize : Region → Type 0
HaveOneSize region = (member : Member) → Contains region.members member → member.size ≡ part_size region

-- A namespace of one of the regions can be healed.
pub record CanHeal (modules : List LoadedModule) (regions : List RegionLabels) (region : Region)
    (uuid : List ℕ) : Type 0 where
  pub together : IsTogether modules regions
  pub region_in : Contains (map region_in regions) region
  pub same_sizes : HaveOneSize region
  pub whole : is_whole (labels_in modules) region uuid ≡ true
  pub writable : any_read_only region (labels_with uuid (labels_in modules)) ≡ false
  pub free : All (HasFreeFor region) modules

-- One of its labels can be healed: `leading` is that of position 0, whose turn is the last.
pub record CanTurn (modules : List LoadedModule) (regions : List RegionLabels) (region : Region) (uuid : List ℕ)
    (leading : Label) (position : ℕ) : Type 0 where
  pub can : CanHeal modules regions region uuid
  pub leads : leading_label region (labels_with uuid (labels_in modules)) ≡ Some leading
  pub last : position ≡ 0 → (other : ℕ) → 0 < other → other < length region.members
      → IsAlikeAt (labels_in modules) region uuid leading other

-- the module at a position has one label with the uuid
abbrev pub HasOneAt : Labels → Region → List ℕ → ℕ → Type 0
HasOneAt labels region uuid position = label_count (labels_with uuid labels) (member_at region position).handle ≡ 1

-- where the only label with the uuid of the member at a position stands
pub record StandsAt (modules : List LoadedModule) (region : Region) (uuid : List ℕ) (position : ℕ)
    (place : LabelPlace) : Type 0 where
  pub within : place.seat < length modules
  pub handle : (d : LoadedModule) → (slice_index_or modules place.seat d).dimm ≡ (member_at region position).handle
  pub slot_within : place.slot < (labels_in modules (member_at region position).handle).slots
  pub is : (labels_in modules (member_at region position).handle).at place.slot ≡ Some place.label
  pub has_uuid : has uuid place.label ≡ true
  pub only : HasOnly uuid (labels_in modules (member_at region position).handle) place.label

-- The namespace is healed: the table is kept, the namespace is not pending, and the marks of all others are kept. Each
-- of its labels has the values of the label that position 0 had: it is the one from before, or that one healed. All other
-- labels are as before, and each module has as many free slots.
pub record IsHealed (modules : List LoadedModule) (regions : List RegionLabels) (region : Region) (uuid : List ℕ)
    (now : List LoadedModule) : Type 0 where
  pub same_table : table (platform_of regions) (labels_in now) ≡ table (platform_of regions) (labels_in modules)
  pub marks : (state (platform_of regions) (labels_in now)).pending
      ≡ changed_at region uuid false (state (platform_of regions) (labels_in modules)).pending
  pub alike : (leading : Label) → leading_label region (labels_with uuid (labels_in modules)) ≡ Some leading
      → EachLabel region uuid (labels_in now) (λ member label. needs_healing leading label ≡ false)
  pub heal : (leading : Label) → leading_label region (labels_with uuid (labels_in modules)) ≡ Some leading
      → (position : ℕ) → position < length region.members
      → HasHeal region uuid leading position (labels_in modules) (labels_in now)
  pub others : (handle : ℕ) → other_labels uuid (labels_in now handle) ≡ other_labels uuid (labels_in modules handle)
  pub elsewhere : (handle : ℕ) → is_member region handle ≡ false → labels_in now handle ≡ labels_in modules handle
  pub same_free : map free_slots now ≡ map free_slots modules
