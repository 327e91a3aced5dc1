-- What the labels of one uuid tell together, and the namespace that they are. `own` are the labels of the uuid.
use Rattle.std.specs.Prelude.{ℕ, ◌==◌, ◌&&◌, ◌||◌, nat_lt, not, Bool, List, Option, Some, None, if◌then◌else◌}
use Rattle.std.specs.List.{list_all, list_any}
use Rattle.std.specs.Option.{option_map}
use Rattle.view_types.specs.declared.namespaces.Namespace.{Namespace}
use Rattle.label_codec.specs.declared.label.Label.{Label}
use Rattle.label_codec.specs.Flags.{is_read_only, is_updating}
use Rattle.label_codec.specs.ModuleLabels.{Labels, number}
use Rattle.region_map.specs.declared.platform.Member.{Member}
use Rattle.region_map.specs.declared.platform.Region.{Region}
use Rattle.label_table.specs.Belonging.{offset_in}
use Rattle.label_table.specs.Spaces.{Space, is_pending, space}
use Rattle.label_table.specs.Wholes.{has_one, has_size}
use Rattle.region_labels.specs.declared.marks.Marks.{Marks}

-- the labels of some members' modules
abbrev pub marks_of : Label → Labels → List Member → Marks
marks_of leading own members = record {
  one_size = list_all (has_size leading own) members;
  read_only = list_any (λ (member : Member). nat_lt 0 (number is_read_only (own member.handle))) members;
  updating = list_any (λ (member : Member). nat_lt 0 (number is_updating (own member.handle))) members;
}

-- with one label more
abbrev pub one_more : Label → Marks → Label → Marks
one_more leading marks label = record {
  one_size = marks.one_size && label.raw_size == leading.raw_size;
  read_only = marks.read_only || is_read_only label;
  updating = marks.updating || is_updating label;
}

-- they tell nothing where a module has none that agrees with the leading label, or has two
abbrev pub marks_if_one_each : Region → Label → Labels → Option Marks
marks_if_one_each region leading own =
    if list_all (has_one region leading own) region.members then Some (marks_of leading own region.members) else None

abbrev pub is_of_namespace : Label → Marks → Bool
is_of_namespace leading marks = marks.one_size || (is_updating leading && not marks.read_only)

-- a namespace by its leading label
abbrev pub shown_by : Region → Label → Marks → Namespace
shown_by region leading marks = record {
  uuid = leading.uuid;
  name = leading.name;
  abstraction = leading.abstraction;
  sector = leading.lba_size;
  offset = offset_in region leading;
  length = leading.raw_size;
  pending = not marks.read_only && marks.updating;
  read_only = marks.read_only;
}

-- a namespace as it is listed, with the mark of a change under way
abbrev pub listed : Bool → Space → Namespace
listed pending space = record {
  uuid = space.uuid;
  name = space.name;
  abstraction = space.abstraction;
  sector = space.sector;
  offset = space.offset;
  length = space.length;
  pending = pending;
  read_only = space.read_only;
}

abbrev pub listed_in : Labels → Region → Space → Namespace
listed_in labels region space = listed (is_pending labels region space.uuid) space

-- the namespace of a region with a uuid
abbrev pub namespace_at : Labels → Region → List ℕ → Option Namespace
namespace_at labels region uuid = option_map (listed_in labels region) (space labels region uuid)
