-- Which tables are proper: those that bytes can spell, in which nothing stands twice that names something, or too
-- often.
use Rattle.std.specs.Prelude.{◌≡◌, ℕ, ◌<◌, ◌≤◌, ◌^◌, ◌==◌, ◌&&◌, ◌||◌, Bool, false, List, [], ◌∷◌, Option, Some, None}
use Rattle.std.specs.Prelude.{All, filter, if◌then◌else◌, length, nat_lt, not}
use Rattle.std.specs.List.{filter_map, list_any}
use Rattle.std.specs.Str.{bytes_eq}
use Rattle.view_types.specs.Guids.{persistent_memory}
use Rattle.nfit_tables.specs.declared.pieces.Header.{Header}
use Rattle.nfit_tables.specs.declared.pieces.RangePiece.{RangePiece}
use Rattle.nfit_tables.specs.declared.pieces.MappingPiece.{MappingPiece}
use Rattle.nfit_tables.specs.declared.pieces.InterleavePiece.{InterleavePiece}
use Rattle.nfit_tables.specs.declared.pieces.ControlPiece.{ControlPiece}
use Rattle.nfit_tables.specs.declared.pieces.KeptPiece.{KeptPiece}
use Rattle.nfit_tables.specs.declared.pieces.Piece.{Piece}
use Rattle.nfit_tables.specs.declared.pieces.Piece.TheVariants.{Range, Mapping, Interleave, Control, Kept}
use Rattle.nfit_tables.specs.declared.pieces.Nfit.{Nfit}
use Rattle.nfit_tables.specs.Limits.{most_modules, most_regions}
use Rattle.nfit_tables.specs.Spelling.{length_of, spelling}

-- What the fields of a value of the program hold anyway: numbers of their widths, and bytes.
abbrev pub AreBytes : List ℕ → Type 0
AreBytes bytes = All (λ (byte : ℕ). byte < 256) bytes

pub record FitsRange (p : RangePiece) : Type 0 where
  pub index : p.index < 2 ^ 16
  pub flags : p.flags < 2 ^ 16
  pub reserved : p.reserved < 2 ^ 32
  pub proximity : p.proximity < 2 ^ 32
  pub type_guid : length p.type_guid ≡ 16
  pub type_guid_bytes : AreBytes p.type_guid
  pub base : p.base < 2 ^ 64
  pub len : p.length < 2 ^ 64
  pub attributes : p.attributes < 2 ^ 64
  pub tail : AreBytes p.tail

pub record FitsMapping (p : MappingPiece) : Type 0 where
  pub device_handle : p.device_handle < 2 ^ 32
  pub physical_id : p.physical_id < 2 ^ 16
  pub region_id : p.region_id < 2 ^ 16
  pub range_index : p.range_index < 2 ^ 16
  pub control_index : p.control_index < 2 ^ 16
  pub region_size : p.region_size < 2 ^ 64
  pub region_offset : p.region_offset < 2 ^ 64
  pub module_address_base : p.module_address_base < 2 ^ 64
  pub interleave_index : p.interleave_index < 2 ^ 16
  pub ways : p.ways < 2 ^ 16
  pub state_flags : p.state_flags < 2 ^ 16
  pub reserved : p.reserved < 2 ^ 16
  pub tail : AreBytes p.tail

pub record FitsInterleave (p : InterleavePiece) : Type 0 where
  pub index : p.index < 2 ^ 16
  pub reserved : p.reserved < 2 ^ 16
  pub line_size : p.line_size < 2 ^ 32
  pub lines : All (λ (line : ℕ). line < 2 ^ 32) p.lines
  pub tail : AreBytes p.tail

pub record FitsControl (p : ControlPiece) : Type 0 where
  pub index : p.index < 2 ^ 16
  pub vendor : p.vendor < 2 ^ 16
  pub device : p.device < 2 ^ 16
  pub revision : p.revision < 2 ^ 16
  pub subsystem_vendor : p.subsystem_vendor < 2 ^ 16
  pub subsystem_device : p.subsystem_device < 2 ^ 16
  pub subsystem_revision : p.subsystem_revision < 2 ^ 16
  pub valid_fields : p.valid_fields < 2 ^ 8
  pub manufacturing_location : p.manufacturing_location < 2 ^ 8
  pub manufacturing_date : p.manufacturing_date < 2 ^ 16
  pub reserved : p.reserved < 2 ^ 16
  pub serial_number : p.serial_number < 2 ^ 32
  pub format_code : p.format_code < 2 ^ 16
  pub number_of_windows : p.number_of_windows < 2 ^ 16
  pub tail : AreBytes p.tail

pub record FitsKept (p : KeptPiece) : Type 0 where
  pub kind : p.kind < 2 ^ 16
  pub tail : AreBytes p.tail

abbrev pub FitsPiece : Piece → Type 0
FitsPiece (Range p) = FitsRange p
FitsPiece (Mapping p) = FitsMapping p
FitsPiece (Interleave p) = FitsInterleave p
FitsPiece (Control p) = FitsControl p
FitsPiece (Kept p) = FitsKept p

pub record FitsHeader (h : Header) : Type 0 where
  pub oem_id : length h.oem_id ≡ 6
  pub oem_id_bytes : AreBytes h.oem_id
  pub oem_table : length h.oem_table ≡ 8
  pub oem_table_bytes : AreBytes h.oem_table
  pub oem_revision : h.oem_revision < 2 ^ 32
  pub creator : h.creator < 2 ^ 32
  pub creator_revision : h.creator_revision < 2 ^ 32
  pub reserved : h.reserved < 2 ^ 32

-- the types whose fields are known
abbrev pub is_known : ℕ → Bool
is_known kind = (kind == 0) || (kind == 1) || (kind == 2) || (kind == 4)

abbrev pub is_kept_as_known : Piece → Bool
is_kept_as_known (Kept p) = is_known p.kind
is_kept_as_known (Range p) = false
is_kept_as_known (Mapping p) = false
is_kept_as_known (Interleave p) = false
is_kept_as_known (Control p) = false

-- the type and the index of a structure that can be named: one with an index above 0
abbrev pub name_with : ℕ → ℕ → Option (ℕ × ℕ)
name_with kind index = if index == 0 then None else Some (kind, index)

abbrev pub name_of : Piece → Option (ℕ × ℕ)
name_of (Range p) = name_with 0 p.index
name_of (Interleave p) = name_with 2 p.index
name_of (Control p) = name_with 4 p.index
name_of (Mapping p) = None
name_of (Kept p) = None

abbrev pub names : List Piece → List (ℕ × ℕ)
names pieces = filter_map name_of pieces

abbrev pub is_same_name : ℕ × ℕ → ℕ × ℕ → Bool
is_same_name a b = (a.0 == b.0) && (a.1 == b.1)

-- no name stands twice
abbrev pub AllDiffer : List (ℕ × ℕ) → Type 0
AllDiffer [] = Unit {0}
AllDiffer (name ∷ others) = (list_any (is_same_name name) others ≡ false) × AllDiffer others

-- an address range of persistent memory that can be named
abbrev pub is_region : Piece → Bool
is_region (Range p) = bytes_eq p.type_guid persistent_memory && nat_lt 0 p.index
is_region (Mapping p) = false
is_region (Interleave p) = false
is_region (Control p) = false
is_region (Kept p) = false

abbrev pub region_count : List Piece → ℕ
region_count pieces = length (filter is_region pieces)

abbrev pub handle_of : Piece → Option ℕ
handle_of (Mapping p) = Some p.device_handle
handle_of (Range p) = None
handle_of (Interleave p) = None
handle_of (Control p) = None
handle_of (Kept p) = None

-- each number once
abbrev pub distinct : List ℕ → List ℕ
distinct [] = []
distinct (n ∷ ns) = n ∷ filter (λ other. not (other == n)) (distinct ns)

-- the number of device handles in mappings
abbrev pub module_count : List Piece → ℕ
module_count pieces = length (distinct (filter_map handle_of pieces))

pub record IsProper (n : Nfit) : Type 0 where
  pub header : FitsHeader n.header
  pub pieces : All FitsPiece n.pieces
  -- a structure whose fields are known is not kept as bytes
  pub kinds : All (λ (p : Piece). is_kept_as_known p ≡ false) n.pieces
  -- each structure and the whole have lengths that their fields hold
  pub short : All (λ (p : Piece). length (spelling p) < 2 ^ 16) n.pieces
  pub len : length_of n < 2 ^ 32
  pub differ : AllDiffer (names n.pieces)
  pub regions : region_count n.pieces ≤ most_regions
  pub modules : module_count n.pieces ≤ most_modules
