-- What the structures of a table say of regions (ACPI 6.2, section 5.2.25).
use Rattle.std.specs.Prelude.{◌≡◌, ℕ, ◌==◌, Bool, List, Option, Some, None, filter, find, if◌then◌else◌, map}
use Rattle.std.specs.Prelude.{option_map}
use Rattle.std.specs.List.{filter_map, list_any}
use Rattle.std.specs.List.Sorted.{IsNonDecreasingBy, IsPermutation}
use Rattle.nfit_tables.specs.declared.pieces.Piece.{Piece}
use Rattle.nfit_tables.specs.declared.pieces.Piece.TheVariants.{Range, Mapping, Interleave, Control}
use Rattle.nfit_tables.specs.Proper.{is_region}
use Rattle.region_map.specs.declared.records.PersistentRange.{PersistentRange}
use Rattle.region_map.specs.declared.records.Part.{Part}
use Rattle.region_map.specs.declared.records.ControlFields.{ControlFields}
use Rattle.region_map.specs.declared.platform.Member.{Member}
use Rattle.region_map.specs.declared.platform.LineTable.{LineTable}

-- the same items, ascending by a key
pub record IsAscending {X : Type 0} (key : X → ℕ) (items sorted : List X) : Type 0 where
  pub same : IsPermutation items sorted
  pub order : IsNonDecreasingBy key sorted

-- an address range of persistent memory with an index above 0
abbrev pub persistent_range_of : Piece → Option PersistentRange
persistent_range_of (Range p) =
    if is_region (Range p) then Some (record { index = p.index; base = p.base; length = p.length }) else None
persistent_range_of _ = None

abbrev pub persistent_ranges : List Piece → List PersistentRange
persistent_ranges pieces = filter_map persistent_range_of pieces

-- a region mapping
abbrev pub part_of : Piece → Option Part
part_of (Mapping p) = Some (record {
  handle = p.device_handle;
  range = p.range_index;
  control = p.control_index;
  base = p.module_address_base;
  size = p.region_size;
  offset = p.region_offset;
  interleave = p.interleave_index;
  ways = p.ways;
})
part_of _ = None

-- the index that a mapping names is that of a region
abbrev pub names_region : List PersistentRange → Part → Bool
names_region ranges part = list_any (λ range. range.index == part.range) ranges

-- the mappings that name a region
abbrev pub region_parts : List Piece → List Part
region_parts pieces = filter (names_region (persistent_ranges pieces)) (filter_map part_of pieces)

-- those that name this one
abbrev pub parts_naming : ℕ → List Part → List Part
parts_naming index parts = filter (λ part. part.range == index) parts

-- a control region with an index above 0
abbrev pub control_fields_of : Piece → Option ControlFields
control_fields_of (Control p) =
    if p.index == 0 then None
    else Some (record {
      index = p.index;
      serial = p.serial_number;
      vendor = p.vendor;
      date = p.manufacturing_date;
      location = p.manufacturing_location;
    })
control_fields_of _ = None

abbrev pub all_control_fields : List Piece → List ControlFields
all_control_fields pieces = filter_map control_fields_of pieces

-- the control region that a mapping names
abbrev pub control_named : List ControlFields → Part → Option ControlFields
control_named controls part = find (λ control. control.index == part.control) controls

-- a mapping with the fields of a control region
abbrev pub member_with : Part → ControlFields → Member
member_with part control = record {
  handle = part.handle;
  dpa_base = part.base;
  size = part.size;
  region_offset = part.offset;
  interleave = part.interleave;
  ways = part.ways;
  serial = control.serial;
  vendor = control.vendor;
  date = control.date;
  location = control.location;
}

-- with those of the control region that it names
abbrev pub member_of : List ControlFields → Part → Option Member
member_of controls part = option_map (member_with part) (control_named controls part)

-- an interleave structure with an index above 0
abbrev pub line_table_of : Piece → Option LineTable
line_table_of (Interleave p) =
    if p.index == 0 then None else Some (record { index = p.index; size = p.line_size; lines = p.lines })
line_table_of _ = None

abbrev pub line_tables : List Piece → List LineTable
line_tables pieces = filter_map line_table_of pieces
