-- The labels of a namespace are marked as being changed.
use Rattle.std.specs.Prelude.{◌≡◌, ℕ, ◌<◌, ◌≤◌, false, true, List, Some, length, map, option_map}
use Rattle.label_codec.specs.declared.label.Label.{Label}
use Rattle.label_codec.specs.Flags.{is_updating}
use Rattle.label_codec.specs.ModuleLabels.{Labels}
use Rattle.region_map.specs.declared.platform.Platform.{Platform}
use Rattle.region_map.specs.declared.platform.Region.{Region}
use Rattle.label_table.specs.Belonging.{member_at}
use Rattle.label_table.specs.Fates.{without_slot}
use Rattle.label_table.specs.Flips.{AllStale, IsConfined, other_labels}
use Rattle.label_table.specs.Tables.{changed_at, is_member, state, table}
use Rattle.region_labels.specs.declared.modules.LoadedModule.{LoadedModule}
use Rattle.region_labels.specs.declared.region.RegionLabels.{RegionLabels}
use Rattle.region_labels.specs.Fates.{platform_of}
use Rattle.region_labels.specs.Modules.{labels_in}
use Rattle.module_flips.specs.Together.{free_slots}
use Rattle.namespace_passes.specs.Namespaces.{IsOpen, label_at}
use Rattle.namespace_passes.specs.MarkedLabels.{marked}

-- where there is a label at a position, it is being changed
abbrev pub IsUpdatingAt : Labels → Region → List ℕ → ℕ → Type 0
IsUpdatingAt labels region uuid position =
    (label : Label) → label_at labels region uuid position ≡ Some label → is_updating label ≡ true

-- so it is at each position
abbrev pub AreUpdating : Labels → Region → List ℕ → Type 0
AreUpdating labels region uuid =
    (position : ℕ) → position < length region.members → IsUpdatingAt labels region uuid position

-- the label at a position is the one from before, marked as being changed, wherever its slot is
abbrev pub HasMark : Region → List ℕ → ℕ → Labels → Labels → Type 0
HasMark region uuid position before after = option_map without_slot (label_at after region uuid position)
    ≡ option_map marked (label_at before region uuid position)

-- One label of the namespace is marked, or was: the table is kept, the marks of all other namespaces, and all other
-- labels.
pub record IsMarkedAt (platform : Platform) (region : Region) (uuid : List ℕ) (position : ℕ)
    (before after : Labels) : Type 0 where
  pub same_table : table platform after ≡ table platform before
  pub same_marks : changed_at region uuid false (state platform after).pending
      ≡ changed_at region uuid false (state platform before).pending
  pub stands : IsOpen after region uuid
  pub mark : HasMark region uuid position before after
  pub confined : IsConfined uuid (member_at region position).handle before after

-- The labels of the positions below one are marked, and those from there on are as they were, and so are all others.
pub record IsMarkedTo (platform : Platform) (region : Region) (uuid : List ℕ) (end : ℕ)
    (before after : Labels) : Type 0 where
  pub same_table : table platform after ≡ table platform before
  pub same_marks : changed_at region uuid false (state platform after).pending
      ≡ changed_at region uuid false (state platform before).pending
  pub stands : IsOpen after region uuid
  pub mark : (position : ℕ) → position < end → position < length region.members
      → HasMark region uuid position before after
  pub left : (position : ℕ) → end ≤ position → position < length region.members
      → label_at after region uuid position ≡ label_at before region uuid position
  pub others : (handle : ℕ) → other_labels uuid (after handle) ≡ other_labels uuid (before handle)
  pub elsewhere : (handle : ℕ) → is_member region handle ≡ false → after handle ≡ before handle

-- All labels of the namespace are marked. The table is kept and the namespace is pending. The marks of all others are
-- kept, and so are all other labels, and each module has as many free slots as before.
pub record IsMarked (modules : List LoadedModule) (regions : List RegionLabels) (region : Region) (uuid : List ℕ)
    (now : List LoadedModule) : Type 0 where
  pub same_table : table (platform_of regions) (labels_in now) ≡ table (platform_of regions) (labels_in modules)
  pub marks : (state (platform_of regions) (labels_in now)).pending
      ≡ changed_at region uuid true (state (platform_of regions) (labels_in modules)).pending
  pub stands : IsOpen (labels_in now) region uuid
  pub mark : (position : ℕ) → position < length region.members
      → HasMark region uuid position (labels_in modules) (labels_in now)
  pub stale : AllStale region uuid (labels_in now)
  pub others : (handle : ℕ) → other_labels uuid (labels_in now handle) ≡ other_labels uuid (labels_in modules handle)
  pub elsewhere : (handle : ℕ) → is_member region handle ≡ false → labels_in now handle ≡ labels_in modules handle
  pub same_free : map free_slots now ≡ map free_slots modules
