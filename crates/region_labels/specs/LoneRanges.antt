-- The ranges of namespaces, and the held labels that reach into them.
use Rattle.std.specs.Prelude.{ℕ, ◌+◌, ◌&&◌, Bool, nat_lt, List, Option, Some, None, if◌then◌else◌}
use Rattle.std.specs.List.{list_any}
use Rattle.std.specs.Option.{option_and_then}
use Rattle.view_types.specs.declared.extents.Extent.{Extent}
use Rattle.label_codec.specs.declared.label.Label.{Label}
use Rattle.label_codec.specs.ModuleLabels.{Labels, number}
use Rattle.region_map.specs.declared.platform.Member.{Member}
use Rattle.region_map.specs.declared.platform.Platform.{Platform}
use Rattle.region_map.specs.declared.platform.Region.{Region}
use Rattle.label_table.specs.Fates.{is_held}
use Rattle.label_table.specs.Spaces.{Space, space}
use Rattle.region_labels.specs.Ranges.{range_of}

-- a label's range has an address of a range of the part that begins at `base`, which is not empty
abbrev pub reaches : ℕ → Extent → Label → Bool
reaches base range label = nat_lt 0 label.raw_size
    && (nat_lt label.dpa (base + range.start + range.len) && nat_lt (base + range.start) (label.dpa + label.raw_size))

-- and the label is held
abbrev pub holds_part : Platform → Labels → ℕ → ℕ → Extent → Label → Bool
holds_part platform labels handle base range label = reaches base range label && is_held platform labels handle label

abbrev pub is_reached_by : Platform → Labels → Extent → Member → Bool
is_reached_by platform labels range member =
    nat_lt 0 (number (holds_part platform labels member.handle member.dpa_base range) (labels member.handle))

-- a held label of one of the region's modules reaches into a range of the members' parts
abbrev pub is_reached : Platform → Labels → Region → Extent → Bool
is_reached platform labels region range = list_any (is_reached_by platform labels range) region.members

abbrev pub unless_reached : Platform → Labels → Region → Extent → Option Extent
unless_reached platform labels region range = if is_reached platform labels region range then None else Some range

-- the range of the namespace with a uuid, where no held label reaches into it
abbrev pub lone_range : Platform → Labels → Region → List ℕ → Option Extent
lone_range platform labels region uuid =
    option_and_then (λ (own : Space). unless_reached platform labels region (range_of own)) (space labels region uuid)
