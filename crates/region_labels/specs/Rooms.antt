-- The room in the indexes of regions, in entries.
use Rattle.std.specs.Prelude.{◌≡◌, ℕ, ◌+◌, ◌-◌, ◌*◌, ◌==◌, ◌≤◌, List, Option, None, Some, count_by, length}
use Rattle.std.specs.List.{sum_by}
use Rattle.region_map.specs.declared.platform.Region.{Region}
use Rattle.region_labels.specs.declared.region.RegionLabels.{RegionLabels}
use Rattle.region_labels.specs.Regions.{handles}
use Rattle.region_labels.specs.declared.by_slot.SlotLabel.{SlotLabel}

-- how many positions of a region have the module with a handle
abbrev pub position_count : ℕ → Region → ℕ
position_count dimm region = count_by (λ handle. handle == dimm) (handles region)

-- the room that a label more of each of some modules takes
abbrev pub room_for : List ℕ → Region → ℕ
room_for dimms region = sum_by (λ dimm. position_count dimm region) dimms

-- the index has room for a label more of this module
abbrev pub HasRoomFor : ℕ → RegionLabels → Type 0
HasRoomFor dimm kept = position_count dimm kept.region ≤ kept.index.room

-- the index has room for a label more of each member's module
abbrev pub HasRoom : RegionLabels → Type 0
HasRoom kept = length kept.region.members ≤ kept.index.room

-- or of each of some modules
abbrev pub HasRoomForAll : List ℕ → RegionLabels → Type 0
HasRoomForAll dimms kept = room_for dimms kept.region ≤ kept.index.room

-- the region and its seats stay, and the index has this room then
pub record KeepsRegion (room : RegionLabels → ℕ) (old new : RegionLabels) : Type 0 where
  pub region : new.region ≡ old.region
  pub seats : new.seats ≡ old.seats
  pub room_is : new.index.room ≡ room old

-- after a put that replaced a label of the module, or none
abbrev pub room_after_put : ℕ → Option SlotLabel → RegionLabels → ℕ
room_after_put dimm None kept = kept.index.room - position_count dimm kept.region
room_after_put dimm (Some lost) kept = kept.index.room

-- after this many labels of the module were freed
abbrev pub room_after_free : ℕ → ℕ → RegionLabels → ℕ
room_after_free dimm freed kept = kept.index.room + freed * position_count dimm kept.region

-- the region, its seats and the entries stay, and the index has that room or more
pub record KeepsEntries (old new : RegionLabels) : Type 0 where
  pub region : new.region ≡ old.region
  pub seats : new.seats ≡ old.seats
  pub entries : new.index.entries ≡ old.index.entries
  pub room : old.index.room ≤ new.index.room
