-- What one turn of a heal, and all of them, make of the labels.
use Rattle.std.specs.Prelude.{◌≡◌, ◌⊎◌, ℕ, ◌<◌, ◌≤◌, false, true, List, Option, Some, length, option_map}
use Rattle.label_codec.specs.declared.label.Label.{Label}
use Rattle.label_codec.specs.ModuleLabels.{Labels, first, of_uuid}
use Rattle.region_map.specs.declared.platform.Platform.{Platform}
use Rattle.region_map.specs.declared.platform.Region.{Region}
use Rattle.label_table.specs.Belonging.{member_at}
use Rattle.label_table.specs.Fates.{without_slot}
use Rattle.label_table.specs.Flips.{IsConfined, other_labels}
use Rattle.label_table.specs.Tables.{changed_at, is_member, state, table}
use Rattle.label_table.specs.Wholes.{any_read_only, is_whole, labels_with, leading_label}
use Rattle.namespace_passes.specs.Labels.{healed, needs_healing}

-- the label with the uuid in the module at a position
abbrev pub label_at : Labels → Region → List ℕ → ℕ → Option Label
label_at labels region uuid position = first (of_uuid uuid (labels (member_at region position).handle))

-- where there is one, it needs no healing
abbrev pub IsAlikeAt : Labels → Region → List ℕ → Label → ℕ → Type 0
IsAlikeAt labels region uuid leading position =
    (label : Label) → label_at labels region uuid position ≡ Some label → needs_healing leading label ≡ false

-- the label at a position is the one from before, or that one healed, wherever its slot is
abbrev pub HasHeal : Region → List ℕ → Label → ℕ → Labels → Labels → Type 0
HasHeal region uuid leading position before after =
    (label_at after region uuid position ≡ label_at before region uuid position)
    ⊎ (option_map without_slot (label_at after region uuid position)
    ≡ option_map (healed leading) (label_at before region uuid position))

-- each label from a position on needs no healing
abbrev pub IsWellFrom : ℕ → Labels → Region → List ℕ → Label → Type 0
IsWellFrom start labels region uuid leading = (position : ℕ) → start ≤ position → position < length region.members
    → IsAlikeAt labels region uuid leading position

-- the uuid is that of a namespace that is not read-only
pub record IsOpen (labels : Labels) (region : Region) (uuid : List ℕ) : Type 0 where
  pub whole : is_whole labels region uuid ≡ true
  pub writable : any_read_only region (labels_with uuid labels) ≡ false

-- One label of the namespace is healed, or was well: the table is kept, the marks of all other namespaces, and all other
-- labels.
pub record IsTurned (platform : Platform) (region : Region) (uuid : List ℕ) (leading : Label) (position : ℕ)
    (before after : Labels) : Type 0 where
  pub same_table : table platform after ≡ table platform before
  pub same_marks : changed_at region uuid false (state platform after).pending
      ≡ changed_at region uuid false (state platform before).pending
  pub stands : IsOpen after region uuid
  pub alike : IsAlikeAt after region uuid leading position
  pub heal : HasHeal region uuid leading position before after
  pub confined : IsConfined uuid (member_at region position).handle before after

-- The labels of the positions below one are healed, but that of position 0, which is as it was. So are those from there
-- on, and all others.
pub record IsHealedTo (platform : Platform) (region : Region) (uuid : List ℕ) (leading : Label) (end : ℕ)
    (before after : Labels) : Type 0 where
  pub same_table : table platform after ≡ table platform before
  pub same_marks : changed_at region uuid false (state platform after).pending
      ≡ changed_at region uuid false (state platform before).pending
  pub stands : IsOpen after region uuid
  pub leads : leading_label region (labels_with uuid after) ≡ Some leading
  pub alike : (position : ℕ) → 0 < position → position < end → position < length region.members
      → IsAlikeAt after region uuid leading position
  pub heal : (position : ℕ) → 0 < position → position < end → position < length region.members
      → HasHeal region uuid leading position before after
  pub first : label_at after region uuid 0 ≡ label_at before region uuid 0
  pub left : (position : ℕ) → end ≤ position → position < length region.members
      → label_at after region uuid position ≡ label_at before region uuid position
  pub others : (handle : ℕ) → other_labels uuid (after handle) ≡ other_labels uuid (before handle)
  pub elsewhere : (handle : ℕ) → is_member region handle ≡ false → after handle ≡ before handle
