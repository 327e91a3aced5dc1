-- What marking the labels of a namespace of one of the regions gives.
use Rattle.std.specs.Prelude.{◌≡◌, ◌<◌, ℕ, false, true, List, length, map}
use Rattle.label_table.specs.Flips.{other_labels}
use Rattle.label_table.specs.Tables.{changed_at, is_member}
use Rattle.region_map.specs.declared.platform.Region.{Region}
use Rattle.module_flips.specs.Together.{free_slots}
use Rattle.namespace_passes.specs.Marking.{HasMark}
use Rattle.label_sets.specs.Sets.{StoredSets, labels_in, state_in}
use Rattle.label_sets.specs.Dropping.{CanDropIn}

-- The table is as before, and the namespace is pending: all its labels are being changed, and can be freed. The marks
-- of all others are as before, and so are the numbers of free slots. Each of its labels is the one from before, marked,
-- wherever its slot is, and all other labels are as before.
pub record IsMarkedIn (before after : StoredSets) (uuid : List ℕ) (region : Region) : Type 0 where
  pub same_table : (state_in after).table ≡ (state_in before).table
  pub marks : (state_in after).pending ≡ changed_at region uuid true (state_in before).pending
  pub can_drop : CanDropIn after uuid region
  pub mark : (position : ℕ) → position < length region.members
      → HasMark region uuid position (labels_in before) (labels_in after)
  pub others : (handle : ℕ) → other_labels uuid (labels_in after handle) ≡ other_labels uuid (labels_in before handle)
  pub elsewhere : (handle : ℕ) → is_member region handle ≡ false → labels_in after handle ≡ labels_in before handle
  pub same_free : map free_slots after.modules ≡ map free_slots before.modules
