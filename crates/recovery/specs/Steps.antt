-- What the heals of a recovery need, and what they make.
use Rattle.std.specs.Prelude.{◌≡◌, ◌≢◌, ℕ, ◌<◌, false, List, map}
use Rattle.std.specs.List.{All}
use Rattle.region_map.specs.declared.platform.Region.{Region}
use Rattle.label_table.specs.Statuses.{RegionReady, status}
use Rattle.module_flips.specs.Together.{free_slots}
use Rattle.namespace_passes.specs.Healing.{HasFreeFor}
use Rattle.label_sets.specs.Sets.{StoredSets, labels_in, state_in}
use Rattle.recovery.specs.Recovery.{pending_count}

-- A Ready region, each module of which has a free slot where a namespace is pending.
pub record CanHealPending (sets : StoredSets) (region : Region) : Type 0 where
  pub ready : status (labels_in sets) region ≡ RegionReady
  pub free : 0 < pending_count (labels_in sets) region → All (HasFreeFor region) sets.modules

-- No namespace of the region is pending. The marks of all other regions are as before, and so are the numbers of free
-- slots.
pub record AreHealed (before after : StoredSets) (region : Region) : Type 0 where
  pub none_pending : (uuid : List ℕ) → (state_in after).pending region.index uuid ≡ false
  pub others : (index : ℕ) (uuid : List ℕ) → index ≢ region.index
      → (state_in after).pending index uuid ≡ (state_in before).pending index uuid
  pub same_free : map free_slots after.modules ≡ map free_slots before.modules
