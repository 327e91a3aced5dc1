-- How an index follows one label of a module, position by position.
use Rattle.std.specs.Prelude.{◌≡◌, ◌≢◌, ℕ, ◌+◌, ◌==◌, List, Option, None, Some, count_by, if◌then◌else◌}
use Rattle.std.specs.Prelude.{length, nat_lt, slice_index, take}
use Rattle.std.specs.List.{range_with_len}
use Rattle.label_codec.specs.ModuleLabels.{Labels}
use Rattle.region_map.specs.declared.platform.Region.{Region}
use Rattle.uuid_index.specs.declared.entry.Entry.{Entry}
use Rattle.uuid_index.specs.Labels.{IsIndex}
use Rattle.region_labels.specs.declared.region.RegionLabels.{RegionLabels}
use Rattle.region_labels.specs.Regions.{handles}
use Rattle.region_labels.specs.declared.by_slot.SlotLabel.{SlotLabel}
use Rattle.region_labels.specs.Flips.{GainsLabel}
use Rattle.region_labels.specs.Rooms.{position_count}

-- the entry of a label of the module at a position
abbrev pub entry_at : ℕ → SlotLabel → Entry
entry_at position one = record { uuid = one.uuid; position = position; slot = one.slot }

-- the module with a handle gains a label, and all else stays
pub record GainsAt (dimm : ℕ) (gained : SlotLabel) (before after : Labels) : Type 0 where
  pub gains : GainsLabel (before dimm) (after dimm) gained
  pub others : (other : ℕ) → other ≢ dimm → after other ≡ before other

-- it loses the label: the same, read backwards
abbrev pub LosesAt : ℕ → SlotLabel → Labels → Labels → Type 0
LosesAt dimm lost before after = GainsAt dimm lost after before

abbrev pub handle_at : Region → ℕ → ℕ
handle_at region position = slice_index (handles region) position

-- 1 where the module stands at the position
abbrev pub here : ℕ → Region → ℕ → ℕ
here dimm region position = if handle_at region position == dimm then 1 else 0

-- how many positions below one have the module
abbrev pub count_below : ℕ → Region → ℕ → ℕ
count_below dimm region position = count_by (λ handle. handle == dimm) (take position (handles region))

-- the modules by position, each once: as after a change before one position, and as before it from there on
abbrev pub changed_below : Region → Labels → Labels → ℕ → Labels
changed_below region before after end position =
    if nat_lt position end then after (handle_at region position) else before (handle_at region position)

-- entries are an index of them
abbrev pub IsIndexBelow : Region → Labels → Labels → ℕ → List Entry → Type 0
IsIndexBelow region before after end entries =
    IsIndex (range_with_len 0 (length region.members)) (changed_below region before after end) entries

-- In what follows the facts hold for whatever labels the entries are an index of.

-- an index that follows a label's gain up to a position now follows it there
abbrev pub FollowsGainTo : ℕ → SlotLabel → ℕ → RegionLabels → RegionLabels → Type 0
FollowsGainTo dimm gained position old new = (before after : Labels) → GainsAt dimm gained before after
    → IsIndexBelow old.region before after position old.index.entries
    → IsIndexBelow old.region before after (position + 1) new.index.entries

-- an index, and its room, after a loss
pub record HasLost (old new : RegionLabels) (freed : ℕ) (index : Type 0) : Type 0 where
  pub is : index
  pub room : new.index.room ≡ old.index.room + freed

abbrev pub FollowsLossTo : ℕ → SlotLabel → ℕ → RegionLabels → RegionLabels → Type 0
FollowsLossTo dimm lost position old new = (before after : Labels) → LosesAt dimm lost before after
    → IsIndexBelow old.region before after position old.index.entries
    → HasLost old new (here dimm old.region position)
    (IsIndexBelow old.region before after (position + 1) new.index.entries)

-- an index now follows a label's gain at all positions
abbrev pub FollowsGain : ℕ → SlotLabel → RegionLabels → RegionLabels → Type 0
FollowsGain dimm gained old new = (before after : Labels) → GainsAt dimm gained before after
    → IsIndex (handles old.region) before old.index.entries → IsIndex (handles old.region) after new.index.entries

abbrev pub FollowsLoss : ℕ → SlotLabel → RegionLabels → RegionLabels → Type 0
FollowsLoss dimm lost old new = (before after : Labels) → LosesAt dimm lost before after
    → IsIndex (handles old.region) before old.index.entries
    → HasLost old new (position_count dimm old.region) (IsIndex (handles old.region) after new.index.entries)

-- an index after a module has lost a label, or none
pub record LosesLabel (dimm : ℕ) (lost : SlotLabel) (old new : RegionLabels) : Type 0 where
  pub region : new.region ≡ old.region
  pub seats : new.seats ≡ old.seats
  pub index : FollowsLoss dimm lost old new

abbrev pub LosesIfAny : ℕ → Option SlotLabel → RegionLabels → RegionLabels → Type 0
LosesIfAny dimm None old new = new ≡ old
LosesIfAny dimm (Some lost) old new = LosesLabel dimm lost old new
