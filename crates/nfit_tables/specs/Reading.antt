-- The table that bytes spell, or the first fault of bytes that spell none.
use Rattle.std.specs.Prelude.{◌≡◌, ℕ, zero, suc, ◌+◌, ◌*◌, ◌%◌, ◌==◌, ◌&&◌, Bool, List, [], ◌∷◌, Option, Some, None}
use Rattle.std.specs.Prelude.{Result, Ok, Err, codes, drop, if◌then◌else◌, length, map, nat_le, nat_lt, not}
use Rattle.std.specs.Prelude.{slice_index, sum, take}
use Rattle.std.specs.List.{list_any, range_with_len}
use Rattle.std.specs.Str.{bytes_eq}
use Rattle.byte_ranges.specs.Ranges.{number_at, range}
use Rattle.nfit_tables.specs.declared.fault.NfitFault.{NfitFault}
use Rattle.nfit_tables.specs.declared.fault.NfitFault.TheVariants.{Short, Signature, Length, Revision, Checksum}
use Rattle.nfit_tables.specs.declared.fault.NfitFault.TheVariants.{Structure, TwiceIndex, TooMany}
use Rattle.nfit_tables.specs.declared.fault.ReadNfit.{ReadNfit}
use Rattle.nfit_tables.specs.declared.fault.ReadNfit.TheVariants as errors
use Rattle.nfit_tables.specs.declared.pieces.Header.{Header}
use Rattle.nfit_tables.specs.declared.pieces.RangePiece.{RangePiece}
use Rattle.nfit_tables.specs.declared.pieces.MappingPiece.{MappingPiece}
use Rattle.nfit_tables.specs.declared.pieces.InterleavePiece.{InterleavePiece}
use Rattle.nfit_tables.specs.declared.pieces.ControlPiece.{ControlPiece}
use Rattle.nfit_tables.specs.declared.pieces.Piece.{Piece}
use Rattle.nfit_tables.specs.declared.pieces.Piece.TheVariants.{Range, Mapping, Interleave, Control, Kept}
use Rattle.nfit_tables.specs.declared.pieces.Nfit.{Nfit}
use Rattle.nfit_tables.specs.Limits.{header_len, least_control, least_interleave, least_mapping, least_range}
use Rattle.nfit_tables.specs.Limits.{least_structure, most_modules, most_regions}
use Rattle.nfit_tables.specs.Proper.{is_same_name, module_count, names, region_count}

infixl 10 ◌>>=◌
abbrev pub ◌>>=◌ : {A B : Type 0} → Result A NfitFault → (A → Result B NfitFault) → Result B NfitFault
(Ok x) >>= f = f x
(Err e) >>= f = Err e

-- What was returned is what reading gives, unless memory was refused.
abbrev pub Gives : {X : Type 0} → Result X ReadNfit → Result X NfitFault → Type 0
Gives (Ok x) read = read ≡ Ok x
Gives (Err errors.Memory) read = Unit {0}
Gives (Err (errors.Fault fault)) read = read ≡ Err fault

-- The fields of a structure, by their offsets from its start.
unfoldable pub range_in : List ℕ → RangePiece
range_in bytes = record {
  index = number_at 2 bytes 4;
  flags = number_at 2 bytes 6;
  reserved = number_at 4 bytes 8;
  proximity = number_at 4 bytes 12;
  type_guid = range bytes 16 16;
  base = number_at 8 bytes 32;
  length = number_at 8 bytes 40;
  attributes = number_at 8 bytes 48;
  tail = drop least_range bytes;
}

unfoldable pub mapping_in : List ℕ → MappingPiece
mapping_in bytes = record {
  device_handle = number_at 4 bytes 4;
  physical_id = number_at 2 bytes 8;
  region_id = number_at 2 bytes 10;
  range_index = number_at 2 bytes 12;
  control_index = number_at 2 bytes 14;
  region_size = number_at 8 bytes 16;
  region_offset = number_at 8 bytes 24;
  module_address_base = number_at 8 bytes 32;
  interleave_index = number_at 2 bytes 40;
  ways = number_at 2 bytes 42;
  state_flags = number_at 2 bytes 44;
  reserved = number_at 2 bytes 46;
  tail = drop least_mapping bytes;
}

-- how many lines an interleave structure tells
abbrev pub line_count : List ℕ → ℕ
line_count bytes = number_at 4 bytes 8

abbrev pub lines_in : ℕ → List ℕ → List ℕ
lines_in count bytes = map (λ line. number_at 4 bytes (least_interleave + 4 * line)) (range_with_len 0 count)

unfoldable pub interleave_in : List ℕ → InterleavePiece
interleave_in bytes = record {
  index = number_at 2 bytes 4;
  reserved = number_at 2 bytes 6;
  line_size = number_at 4 bytes 12;
  lines = lines_in (line_count bytes) bytes;
  tail = drop (least_interleave + 4 * line_count bytes) bytes;
}

unfoldable pub control_in : List ℕ → ControlPiece
control_in bytes = record {
  index = number_at 2 bytes 4;
  vendor = number_at 2 bytes 6;
  device = number_at 2 bytes 8;
  revision = number_at 2 bytes 10;
  subsystem_vendor = number_at 2 bytes 12;
  subsystem_device = number_at 2 bytes 14;
  subsystem_revision = number_at 2 bytes 16;
  valid_fields = slice_index bytes 18;
  manufacturing_location = slice_index bytes 19;
  manufacturing_date = number_at 2 bytes 20;
  reserved = number_at 2 bytes 22;
  serial_number = number_at 4 bytes 24;
  format_code = number_at 2 bytes 28;
  number_of_windows = number_at 2 bytes 30;
  tail = drop least_control bytes;
}

-- the structure that these bytes are, by its type
abbrev pub piece_by : ℕ → List ℕ → Piece
piece_by kind bytes =
    if kind == 0 then Range (range_in bytes)
    else if kind == 1 then Mapping (mapping_in bytes)
    else if kind == 2 then Interleave (interleave_in bytes)
    else if kind == 4 then Control (control_in bytes)
    else Kept (record { kind = kind; tail = drop least_structure bytes })

abbrev pub piece_in : List ℕ → Piece
piece_in bytes = piece_by (number_at 2 bytes 0) bytes

-- the length is at least the least one of the type
abbrev pub has_least : ℕ → ℕ → List ℕ → Bool
has_least kind len bytes =
    if kind == 0 then nat_le least_range len
    else if kind == 1 then nat_le least_mapping len
    else if kind == 2 then nat_le least_interleave len && nat_le (least_interleave + 4 * line_count bytes) len
    else if kind == 4 then nat_le least_control len
    else nat_le least_structure len

-- the length that a structure tells
abbrev pub told_length : List ℕ → ℕ
told_length bytes = number_at 2 bytes 2

-- a whole structure stands at the front
abbrev pub is_structure : List ℕ → Bool
is_structure bytes = nat_le least_structure (length bytes)
    && nat_le (told_length bytes) (length bytes)
    && has_least (number_at 2 bytes 0) (told_length bytes) bytes

-- The structures from an offset on, up to the end: at most `most` of them.
unfoldable pub pieces_at : ℕ → ℕ → List ℕ → Result (List Piece) NfitFault
pieces_at most at [] = Ok []
pieces_at zero at (byte ∷ bytes) = Err (Structure at)
pieces_at (suc most) at (byte ∷ bytes) =
    if is_structure (byte ∷ bytes)
    then (pieces_at most (at + told_length (byte ∷ bytes)) (drop (told_length (byte ∷ bytes)) (byte ∷ bytes))
    >>= λ more.
    Ok (piece_in (take (told_length (byte ∷ bytes)) (byte ∷ bytes)) ∷ more))
    else Err (Structure at)

unfoldable pub header_in : List ℕ → Header
header_in bytes = record {
  oem_id = range bytes 10 6;
  oem_table = range bytes 16 8;
  oem_revision = number_at 4 bytes 24;
  creator = number_at 4 bytes 28;
  creator_revision = number_at 4 bytes 32;
  reserved = number_at 4 bytes 36;
}

-- the first name that was an earlier one
abbrev pub twice_behind : List (ℕ × ℕ) → List (ℕ × ℕ) → Option (ℕ × ℕ)
twice_behind earlier [] = None
twice_behind earlier (name ∷ names) =
    if list_any (is_same_name name) earlier then Some name else twice_behind (name ∷ earlier) names

abbrev pub first_twice : List Piece → Option (ℕ × ℕ)
first_twice pieces = twice_behind [] (names pieces)

-- Nothing stands twice that names something, or too often.
abbrev pub counted : Nfit → Result Nfit NfitFault
counted n =
    if nat_lt most_regions (region_count n.pieces) then Err (TooMany 0)
    else if nat_lt most_modules (module_count n.pieces) then Err (TooMany 1)
    else Ok n

abbrev pub named_once : Option (ℕ × ℕ) → Nfit → Result Nfit NfitFault
named_once (Some name) n = Err (TwiceIndex name.0 name.1)
named_once None n = counted n

abbrev pub checked : Nfit → Result Nfit NfitFault
checked n = named_once (first_twice n.pieces) n

-- the structures behind a header that is right
abbrev pub table_behind : List ℕ → Result Nfit NfitFault
table_behind bytes = pieces_at (length bytes) header_len (drop header_len bytes) >>= λ pieces.
    checked (record { header = header_in bytes; pieces = pieces })

-- the table that the bytes spell, or the first of the faults in their order
abbrev pub table_of : List ℕ → Result Nfit NfitFault
table_of bytes =
    if nat_lt (length bytes) header_len then Err (Short (length bytes))
    else if not (bytes_eq (take 4 bytes) (codes "NFIT")) then Err Signature
    else if not (number_at 4 bytes 4 == length bytes) then Err (Length (number_at 4 bytes 4) (length bytes))
    else if not (slice_index bytes 8 == 1) then Err (Revision (slice_index bytes 8))
    else if not (sum bytes % 256 == 0) then Err (Checksum (sum bytes % 256))
    else table_behind bytes
