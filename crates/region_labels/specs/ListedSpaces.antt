-- The namespaces of a region that are looked for.
use Rattle.std.specs.Prelude.{ℕ, ◌&&◌, Bool, not, List, map}
use Rattle.std.specs.Ordering.{is_lt}
use Rattle.std.specs.Str.{bytes_eq}
use Rattle.view_types.specs.declared.namespaces.Namespace.{Namespace}
use Rattle.label_codec.specs.Names.{name_before_zero}
use Rattle.label_codec.specs.ModuleLabels.{Labels}
use Rattle.region_map.specs.declared.platform.Region.{Region}
use Rattle.label_table.specs.Namespaces.{namespaces, space_cmp}
use Rattle.region_labels.specs.Marks.{listed_in}
use Rattle.region_labels.specs.Statuses.{space_in}
use Rattle.region_labels.specs.declared.tallies.Sought.{Sought}
use Rattle.region_labels.specs.declared.tallies.Sought.TheVariants.{Named, NamedBeside, Pending}

-- the namespaces of a region as they are listed, by offset and then by uuid
abbrev pub listed_spaces : Labels → Region → List Namespace
listed_spaces labels region = map (listed_in labels region) (namespaces labels region)

-- names are compared up to their first zero byte
abbrev pub is_name : List ℕ → List ℕ → Bool
is_name name other = bytes_eq (name_before_zero name) (name_before_zero other)

abbrev pub has_name : List ℕ → Namespace → Bool
has_name name space = is_name name space.name

-- and another uuid
abbrev pub has_name_beside : List ℕ → List ℕ → Namespace → Bool
has_name_beside name uuid space = has_name name space && not (bytes_eq uuid space.uuid)

abbrev pub shows_pending : Namespace → Bool
shows_pending space = space.pending

-- by offset, and then by the bytes of the uuid
abbrev pub is_before : Namespace → Namespace → Bool
is_before a b = is_lt (space_cmp (space_in a) (space_in b))

abbrev pub is_sought : Sought → Namespace → Bool
is_sought (Named name) space = has_name name space
is_sought (NamedBeside name uuid) space = has_name_beside name uuid space
is_sought Pending space = shows_pending space
