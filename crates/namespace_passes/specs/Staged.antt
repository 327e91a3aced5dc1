-- The labels of a new namespace: one for the module of each member of its region, marked as being changed.
use Rattle.std.specs.Prelude.{◌≡◌, ◌⊎◌, ℕ, ◌+◌, ◌≤◌, ◌<◌, true, false, Some, length}
use Rattle.view_types.specs.declared.namespaces.Namespace.{Namespace}
use Rattle.view_types.specs.Guids.{persistent_memory}
use Rattle.label_codec.specs.declared.label.Label.{Label}
use Rattle.label_codec.specs.ModuleLabels.{IsBounded, Labels, has}
use Rattle.region_map.specs.declared.platform.Region.{Region}
use Rattle.region_map.specs.declared.platform.Platform.{Platform}
use Rattle.label_area.specs.Flips.{at_slot}
use Rattle.label_table.specs.Belonging.{member_at}
use Rattle.label_table.specs.Spaces.{Space}
use Rattle.label_table.specs.Tables.{state, with_namespace}
use Rattle.label_table.specs.Wholes.{all_ready, label_count, labels_with}
use Rattle.region_labels.specs.GainedSpaces.{GainsNamespace}

-- the label at a position. The flip that puts it sets the number of its slot.
abbrev pub staged_label : Region → Namespace → ℕ → Label
staged_label region space position = record {
  uuid = space.uuid;
  name = space.name;
  flags = 8;
  nlabel = length region.members;
  position = position;
  cookie = region.cookie;
  lba_size = space.sector;
  dpa = (member_at region position).dpa_base + space.offset;
  raw_size = space.length;
  slot = 0;
  alignment = 0;
  type_guid = persistent_memory;
  abstraction = space.abstraction;
}

-- the namespace that the labels are of
abbrev pub new_space : Namespace → Space
new_space space = record {
  uuid = space.uuid;
  name = space.name;
  abstraction = space.abstraction;
  sector = space.sector;
  offset = space.offset;
  length = space.length;
  read_only = false;
}

-- labels that stand for the state before, or for the same with a new namespace
abbrev pub IsBeforeOrWith : Platform → Region → Space → Labels → Labels → Type 0
IsBeforeOrWith platform region new before labels =
    (state platform labels ≡ state platform before)
    ⊎ (state platform labels ≡ with_namespace region new (state platform before))

-- a label of the module at position k is the staged one, and k lies below a position
pub record IsStagedAt (region : Region) (space : Namespace) (position k slot : ℕ) (label : Label) : Type 0 where
  pub below : k < position
  pub is : label ≡ at_slot slot (staged_label region space k)

-- labels stand for the state before with the new namespace
pub record HasGained (platform : Platform) (region : Region) (space : Namespace)
    (before labels : Labels) : Type 0 where
  pub state_is : state platform labels ≡ with_namespace region (new_space space) (state platform before)
  pub gains : GainsNamespace platform region (new_space space) before labels

-- Each module at a position below one has the staged label, and those from there on have none of its uuid. The state
-- is that before, or with the new namespace once all have theirs.
pub record IsStagedTo (platform : Platform) (region : Region) (space : Namespace) (before : Labels) (position : ℕ)
    (labels : Labels) : Type 0 where
  pub bounded : IsBounded labels
  pub ready : all_ready region labels ≡ true
  pub are : (k slot : ℕ) (label : Label) → k < length region.members
      → (labels (member_at region k).handle).at slot ≡ Some label → has space.uuid label ≡ true
      → IsStagedAt region space position k slot label
  pub one : (k : ℕ) → k < position → k < length region.members
      → label_count (labels_with space.uuid labels) (member_at region k).handle ≡ 1
  pub same : position < length region.members → state platform labels ≡ state platform before
  pub gained : length region.members ≤ position → HasGained platform region space before labels
