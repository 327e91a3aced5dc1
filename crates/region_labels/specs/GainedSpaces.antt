-- Namespaces that come, go, or show something else in their place.
use Rattle.std.specs.Prelude.{◌≡◌, ℕ, ◌≤◌, ◌<◌, ◌+◌, false, Some, None}
use Rattle.std.specs.List.{Contains}
use Rattle.label_codec.specs.ModuleLabels.{Labels}
use Rattle.region_map.specs.declared.platform.Platform.{Platform}
use Rattle.region_map.specs.declared.platform.Region.{Region}
use Rattle.label_table.specs.Belonging.{IsDisjoint}
use Rattle.label_table.specs.Division.{is_held_at, namespaces_over}
use Rattle.label_table.specs.Spaces.{Space, space}
use Rattle.label_table.specs.Tables.{table, with_changed_space, with_space, without_space}

-- a region gains a namespace, and the table changes by it alone
pub record GainsNamespace (platform : Platform) (region : Region) (new : Space) (before after : Labels) : Type 0 where
  pub disjoint : IsDisjoint platform
  pub region_in : Contains platform.regions region
  pub had_none : space before region new.uuid ≡ None
  pub gains : table platform after ≡ with_space region new (table platform before)

-- a region loses a namespace, and the table changes by it alone
pub record LosesNamespace (platform : Platform) (region : Region) (old : Space) (before after : Labels) : Type 0 where
  pub disjoint : IsDisjoint platform
  pub region_in : Contains platform.regions region
  pub was : space before region old.uuid ≡ Some old
  pub loses : table platform after ≡ without_space region old.uuid (table platform before)

-- a namespace shows something else, in its place and of its length, and the table changes by it alone
pub record ShowsNew (platform : Platform) (region : Region) (old new : Space) (before after : Labels) : Type 0 where
  pub disjoint : IsDisjoint platform
  pub region_in : Contains platform.regions region
  pub was : space before region new.uuid ≡ Some old
  pub place : new.offset ≡ old.offset
  pub length : new.length ≡ old.length
  pub shows : table platform after ≡ with_changed_space region new (table platform before)

-- no other namespace has an offset of a range, and no label holds one
pub record IsAlone (platform : Platform) (labels : Labels) (region : Region) (own : Space) : Type 0 where
  pub only : (offset : ℕ) → own.offset ≤ offset → offset < own.offset + own.length
      → namespaces_over labels region offset ≡ 1
  pub not_held : (offset : ℕ) → own.offset ≤ offset → offset < own.offset + own.length
      → is_held_at platform labels region offset ≡ false
