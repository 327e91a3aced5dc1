-- The bytes of a table (ACPI 6.2, section 5.2.25). All numbers are little-endian.
use Rattle.std.specs.Prelude.{ℕ, ◌+◌, ◌-◌, ◌%◌, List, [], ◌∷◌, ◌++◌, codes, length, sum}
use Rattle.std.specs.List.{flat_map}
use Rattle.byteorder.specs.Endian.{little_bytes}
use Rattle.nfit_tables.specs.declared.pieces.Header.{Header}
use Rattle.nfit_tables.specs.declared.pieces.RangePiece.{RangePiece}
use Rattle.nfit_tables.specs.declared.pieces.MappingPiece.{MappingPiece}
use Rattle.nfit_tables.specs.declared.pieces.InterleavePiece.{InterleavePiece}
use Rattle.nfit_tables.specs.declared.pieces.ControlPiece.{ControlPiece}
use Rattle.nfit_tables.specs.declared.pieces.Piece.{Piece}
use Rattle.nfit_tables.specs.declared.pieces.Piece.TheVariants.{Range, Mapping, Interleave, Control, Kept}
use Rattle.nfit_tables.specs.declared.pieces.Nfit.{Nfit}
use Rattle.nfit_tables.specs.Limits.{header_len}

-- The fields of the structures behind their type and length, each at its offset.
--
-- system physical address range (type 0): Index 4, Flags 6, Reserved 8, Proximity 12, Type GUID 16, Base 32, Length 40,
-- Attributes 48
unfoldable pub range_fields : RangePiece → List ℕ
range_fields p = little_bytes 2 p.index
    ++ little_bytes 2 p.flags
    ++ little_bytes 4 p.reserved
    ++ little_bytes 4 p.proximity
    ++ p.type_guid
    ++ little_bytes 8 p.base
    ++ little_bytes 8 p.length
    ++ little_bytes 8 p.attributes

-- region mapping (type 1): Device Handle 4, Physical ID 8, Region ID 10, Range Index 12, Control Index 14, Region Size
-- 16, Region Offset 24, Module Address Base 32, Interleave Index 40, Ways 42, State Flags 44, Reserved 46
unfoldable pub mapping_fields : MappingPiece → List ℕ
mapping_fields p = little_bytes 4 p.device_handle
    ++ little_bytes 2 p.physical_id
    ++ little_bytes 2 p.region_id
    ++ little_bytes 2 p.range_index
    ++ little_bytes 2 p.control_index
    ++ little_bytes 8 p.region_size
    ++ little_bytes 8 p.region_offset
    ++ little_bytes 8 p.module_address_base
    ++ little_bytes 2 p.interleave_index
    ++ little_bytes 2 p.ways
    ++ little_bytes 2 p.state_flags
    ++ little_bytes 2 p.reserved

-- interleave (type 2): Index 4, Reserved 6, Number of Lines 8, Line Size 12, the offset of each line from 16 on
unfoldable pub interleave_fields : InterleavePiece → List ℕ
interleave_fields p = little_bytes 2 p.index
    ++ little_bytes 2 p.reserved
    ++ little_bytes 4 (length p.lines)
    ++ little_bytes 4 p.line_size
    ++ flat_map (little_bytes 4) p.lines

-- control region (type 4): Index 4, Vendor 6, Device 8, Revision 10, Subsystem Vendor 12, Device 14 and Revision 16,
-- Valid Fields 18, Manufacturing Location 19, Manufacturing Date 20, Reserved 22, Serial Number 24, Format Code 28,
-- Number of Windows 30
unfoldable pub control_fields : ControlPiece → List ℕ
control_fields p = little_bytes 2 p.index
    ++ little_bytes 2 p.vendor
    ++ little_bytes 2 p.device
    ++ little_bytes 2 p.revision
    ++ little_bytes 2 p.subsystem_vendor
    ++ little_bytes 2 p.subsystem_device
    ++ little_bytes 2 p.subsystem_revision
    ++ p.valid_fields ∷ []
    ++ p.manufacturing_location ∷ []
    ++ little_bytes 2 p.manufacturing_date
    ++ little_bytes 2 p.reserved
    ++ little_bytes 4 p.serial_number
    ++ little_bytes 2 p.format_code
    ++ little_bytes 2 p.number_of_windows

-- the type of a structure
abbrev pub type_of : Piece → ℕ
type_of (Range p) = 0
type_of (Mapping p) = 1
type_of (Interleave p) = 2
type_of (Control p) = 4
type_of (Kept p) = p.kind

-- its bytes behind the type and the length: the fields, and the tail
abbrev pub body_of : Piece → List ℕ
body_of (Range p) = range_fields p ++ p.tail
body_of (Mapping p) = mapping_fields p ++ p.tail
body_of (Interleave p) = interleave_fields p ++ p.tail
body_of (Control p) = control_fields p ++ p.tail
body_of (Kept p) = p.tail

-- a structure: its type, the length of the whole, and the body
unfoldable pub spelling : Piece → List ℕ
spelling piece = little_bytes 2 (type_of piece) ++ little_bytes 2 (4 + length (body_of piece)) ++ body_of piece

abbrev pub spellings : List Piece → List ℕ
spellings pieces = flat_map spelling pieces

-- the header of a table of some length, with this checksum byte
unfoldable pub header_with : ℕ → ℕ → Header → List ℕ
header_with checksum len h = codes "NFIT"
    ++ little_bytes 4 len
    ++ 1 ∷ []
    ++ checksum ∷ []
    ++ h.oem_id
    ++ h.oem_table
    ++ little_bytes 4 h.oem_revision
    ++ little_bytes 4 h.creator
    ++ little_bytes 4 h.creator_revision
    ++ little_bytes 4 h.reserved

-- the length of a table
abbrev pub length_of : Nfit → ℕ
length_of n = header_len + length (spellings n.pieces)

-- the table with this checksum byte
abbrev pub text_with : ℕ → Nfit → List ℕ
text_with checksum n = header_with checksum (length_of n) n.header ++ spellings n.pieces

-- the checksum byte with which all bytes sum to 0 modulo 256
abbrev pub checksum_byte : Nfit → ℕ
checksum_byte n = (256 - sum (text_with 0 n) % 256) % 256

-- the bytes of a table
abbrev pub text : Nfit → List ℕ
text n = text_with (checksum_byte n) n
