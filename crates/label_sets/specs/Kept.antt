-- What is kept beside the modules: the index and the free extents of each region, and room for changes.
use Rattle.std.specs.Prelude.{◌≡◌, ℕ, ◌<◌, ◌^◌, true, IfSome, List, Option, length, map, slice_index_or, vec_capacity}
use Rattle.std.specs.List.{All}
use Rattle.extent_alloc.specs.Free.{FreeSpace}
use Rattle.label_codec.specs.ModuleLabels.{Labels}
use Rattle.region_map.specs.declared.platform.Region.{Region}
use Rattle.label_table.specs.Belonging.{IsDisjoint}
use Rattle.label_table.specs.Division.{AreFreeExtents, part_size}
use Rattle.label_table.specs.Statuses.{RegionReady, status}
use Rattle.region_labels.specs.declared.modules.LoadedModule.{LoadedModule}
use Rattle.region_labels.specs.declared.region.RegionLabels.{RegionLabels}
use Rattle.region_labels.specs.Fates.{platform_of, region_in}
use Rattle.region_labels.specs.Modules.{EachOnce, labels_in}
use Rattle.region_labels.specs.Regions.{IsOver}
use Rattle.label_sets.specs.declared.sets.Sets.TheInside.{Inside}
use Rattle.module_flips.specs.Flips.{HasLabelsInUse, IsOwn}
use Rattle.label_sets.specs.Room.{HasRoom}
use Rattle.module_flips.specs.Sweeps.{HasSlotsWithin}
use Rattle.label_sets.specs.Sets.{StoredSets}

-- the free space of a region is what the labels of all modules leave
pub record IsFree (modules : List LoadedModule) (regions : List RegionLabels) (kept : RegionLabels)
    (free : FreeSpace) : Type 0 where
  pub extents : AreFreeExtents (platform_of regions) (labels_in modules) kept.region free.extents
  pub whole : free.whole ≡ part_size kept.region

-- each region has its free space
pub record AllFree (modules : List LoadedModule) (regions : List RegionLabels) (free : List FreeSpace) : Type 0 where
  pub each : length free ≡ length regions
  pub is : (place : ℕ) (d : RegionLabels) (e : FreeSpace) → place < length regions
      → IsFree modules regions (slice_index_or regions place d) (slice_index_or free place e)

-- so it is where the free extents are known
abbrev pub IsKnownFree : List LoadedModule → List RegionLabels → Option (List FreeSpace) → Type 0
IsKnownFree modules regions free = IfSome free (AllFree modules regions)

-- the region at a place is Ready
abbrev pub IsReadyIn : Labels → List Region → ℕ → Type 0
IsReadyIn labels regions place = (place < length regions)
    × ((d : Region) → status labels (slice_index_or regions place d) ≡ RegionReady)

-- so it is where one is known to be
abbrev pub IsKnownReady : List LoadedModule → List RegionLabels → Option ℕ → Type 0
IsKnownReady modules regions ready = IfSome ready (IsReadyIn (labels_in modules) (map region_in regions))

-- a region has few members
abbrev pub HasFewMembers : RegionLabels → Type 0
HasFewMembers kept = length kept.region.members < 2 ^ 16

abbrev pub shown : Inside → StoredSets
shown sets = record { regions = map region_in sets.regions.items; modules = sets.modules.items; room = sets.room }

pub record IsKept (sets : Inside) : Type 0 where
  pub once : EachOnce sets.modules.items
  pub own : All IsOwn sets.modules.items
  pub in_use : All HasLabelsInUse sets.modules.items
  pub disjoint : IsDisjoint (platform_of sets.regions.items)
  pub over : All (IsOver sets.modules.items) sets.regions.items
  pub free : IsKnownFree sets.modules.items sets.regions.items sets.free
  pub ready : IsKnownReady sets.modules.items sets.regions.items sets.ready
  pub few : All HasFewMembers sets.regions.items
  -- the slots of any module can be listed without memory
  pub slots : All (HasSlotsWithin (vec_capacity sets.slots)) sets.modules.items
  pub lost : All (HasSlotsWithin (vec_capacity sets.lost)) sets.modules.items
  pub room : sets.room ≡ true → HasRoom sets.regions.items sets.free
