-- The memory that is taken before a change.
use Rattle.std.specs.Prelude.{ℕ, ◌<◌, ◌≤◌, IfSome, List, Option, length, slice_index_or}
use Rattle.std.specs.List.{All}
use Rattle.extent_alloc.specs.Free.{FreeSpace}
use Rattle.region_labels.specs.declared.region.RegionLabels.{RegionLabels}

-- the index has room for one label more of each member's module
abbrev pub HasLabelRoom : RegionLabels → Type 0
HasLabelRoom kept = length kept.region.members ≤ kept.index.room

-- there is room for as many extents more as the region has live labels, and for one beside them
abbrev pub HasExtentRoom : RegionLabels → FreeSpace → Type 0
HasExtentRoom kept free = length kept.index.entries < free.spare

-- so there is in the free space of each region
abbrev pub HaveExtentRoom : List RegionLabels → List FreeSpace → Type 0
HaveExtentRoom regions free = (place : ℕ) (d : RegionLabels) (e : FreeSpace) → place < length regions
    → HasExtentRoom (slice_index_or regions place d) (slice_index_or free place e)

-- there is room for a change of each region
pub record HasRoom (regions : List RegionLabels) (free : Option (List FreeSpace)) : Type 0 where
  pub labels : All HasLabelRoom regions
  pub extents : IfSome free (HaveExtentRoom regions)

-- all of a region but the room of its index
abbrev pub without_room : RegionLabels → RegionLabels
without_room kept = record kept { index = record kept.index { room = 0 } }

-- all of the free space but the room for more extents
abbrev pub without_spare : FreeSpace → FreeSpace
without_spare free = record free { spare = 0 }
