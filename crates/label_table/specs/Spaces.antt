-- What a namespace shows: where it lies, its name, and how it is used. The mark of a change under way is apart from
-- it.
use Rattle.std.specs.Prelude.{ℕ, Bool, true, false, not, ◌&&◌, List, Option, Some, None}
use Rattle.label_codec.specs.declared.label.Label.{Label}
use Rattle.label_codec.specs.ModuleLabels.{Labels}
use Rattle.region_map.specs.declared.platform.Region.{Region}
use Rattle.label_table.specs.Belonging.{offset_in}
use Rattle.label_table.specs.Wholes.{any_read_only, any_updating, is_whole, is_whole_by, labels_with, leading_label}

pub record Space : Type 0 where
  pub uuid : List ℕ
  pub name : List ℕ
  -- the GUID of the abstraction: how the namespace's bytes are used
  pub abstraction : List ℕ
  -- the size of a sector in bytes
  pub sector : ℕ
  -- the first offset in each member's part, and how many bytes from there on belong to the namespace
  pub offset : ℕ
  pub length : ℕ
  pub read_only : Bool

-- what the label of position 0 tells
abbrev pub space_of : Region → Bool → Label → Space
space_of region read_only label = record {
  uuid = label.uuid;
  name = label.name;
  abstraction = label.abstraction;
  sector = label.lba_size;
  offset = offset_in region label;
  length = label.raw_size;
  read_only = read_only;
}

abbrev pub space_if : Region → Labels → Bool → Option Label → Option Space
space_if region own false label = None
space_if region own true None = None
space_if region own true (Some label) = Some (space_of region (any_read_only region own) label)

abbrev pub space_by : Region → Labels → Option Space
space_by region own = space_if region own (is_whole_by region own) (leading_label region own)

-- the namespace of the region with a uuid
abbrev pub space : Labels → Region → List ℕ → Option Space
space labels region uuid = space_by region (labels_with uuid labels)

-- The namespace is not read-only, and one of its labels is being changed.
abbrev pub is_pending : Labels → Region → List ℕ → Bool
is_pending labels region uuid =
    is_whole labels region uuid
    && (not (any_read_only region (labels_with uuid labels)) && any_updating region (labels_with uuid labels))
