-- What healing a namespace of one of the regions asks and gives.
use Rattle.std.specs.Prelude.{◌≡◌, ◌<◌, ℕ, false, true, List, Some, length, map}
use Rattle.std.specs.List.{All}
use Rattle.label_codec.specs.declared.label.Label.{Label}
use Rattle.label_table.specs.Flips.{EachLabel, other_labels}
use Rattle.label_table.specs.Statuses.{RegionReady, status}
use Rattle.label_table.specs.Tables.{changed_at, is_member}
use Rattle.label_table.specs.Wholes.{any_read_only, is_whole, labels_with, leading_label}
use Rattle.region_map.specs.declared.platform.Region.{Region}
use Rattle.region_labels.specs.declared.modules.LoadedModule.{LoadedModule}
use Rattle.module_flips.specs.Together.{free_slots}
use Rattle.namespace_passes.specs.Labels.{needs_healing}
use Rattle.namespace_passes.specs.Namespaces.{HasHeal}
use Rattle.label_sets.specs.Sets.{StoredSets, labels_in, state_in}

-- A namespace of a Ready region can be healed: it is not read-only, and each module has a free slot.
pub record CanHealIn (sets : StoredSets) (uuid : List ℕ) (region : Region) : Type 0 where
  pub ready : status (labels_in sets) region ≡ RegionReady
  pub whole : is_whole (labels_in sets) region uuid ≡ true
  pub writable : any_read_only region (labels_with uuid (labels_in sets)) ≡ false
  pub free : All (λ (loaded : LoadedModule). is_member region loaded.dimm ≡ true → 0 < free_slots loaded) sets.modules

-- The table is as before, and the namespace is not pending. The marks of all others are as before, and so are the
-- numbers of free slots. Each label of the namespace has the values of the label that position 0 had, and is not being
-- changed: it is the one from before, or that one healed, wherever its slot is. All other labels are as before.
pub record IsHealedIn (before after : StoredSets) (uuid : List ℕ) (region : Region) : Type 0 where
  pub same_table : (state_in after).table ≡ (state_in before).table
  pub marks : (state_in after).pending ≡ changed_at region uuid false (state_in before).pending
  pub alike : (leading : Label) → leading_label region (labels_with uuid (labels_in before)) ≡ Some leading
      → EachLabel region uuid (labels_in after) (λ member label. needs_healing leading label ≡ false)
  pub heal : (leading : Label) → leading_label region (labels_with uuid (labels_in before)) ≡ Some leading
      → (position : ℕ) → position < length region.members
      → HasHeal region uuid leading position (labels_in before) (labels_in after)
  pub others : (handle : ℕ) → other_labels uuid (labels_in after handle) ≡ other_labels uuid (labels_in before handle)
  pub elsewhere : (handle : ℕ) → is_member region handle ≡ false → labels_in after handle ≡ labels_in before handle
  pub same_free : map free_slots after.modules ≡ map free_slots before.modules
