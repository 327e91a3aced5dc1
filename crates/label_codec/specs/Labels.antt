-- The label in a slot of 256 bytes (UEFI 2.7, section 13.19). All numbers are little-endian.
--
--     offset  bytes  field                        offset  bytes  field
--          0     16  Uuid                            112      8  RawSize, in bytes
--         16     64  Name                            120      4  Slot, the slot's own number
--         80      4  Flags                           124      1  Alignment
--         84      2  NLabel, the set's labels        125      3  reserved
--         86      2  Position in the set             128     16  TypeGuid
--         88      8  SetCookie                       144     16  AddressAbstractionGuid
--         96      8  LbaSize, in bytes               160     88  reserved
--        104      8  Dpa, in bytes                   248      8  Checksum, with this field as zero
--
-- The reserved bytes count in the checksum alone.
use Rattle.std.specs.Prelude.{◌≡◌, ◌<◌, ◌^◌, ℕ, ◌==◌, ◌&&◌, Bool, List, [], ◌∷◌, ◌++◌, Option, Some, None}
use Rattle.std.specs.Prelude.{if◌then◌else◌, length, replicate, slice_index}
use Rattle.byteorder.specs.Endian.{little_bytes}
use Rattle.byte_ranges.specs.Ranges.{range, number_at, with_fields}
use Rattle.fletcher64.specs.Sums.{has_checksum, with_checksum}
use Rattle.label_codec.specs.declared.label.Label.{Label}
use Rattle.label_codec.specs.Offsets.{abstraction_at, alignment_at, cookie_at, dpa_at, flags_at, label_checksum_at}
use Rattle.label_codec.specs.Offsets.{lba_size_at, name_at, nlabel_at, position_at, raw_size_at, slot_at, type_guid_at}
use Rattle.label_codec.specs.Offsets.{uuid_at}

-- the bytes of a label
abbrev pub label_len : ℕ
label_len = 256

-- the fields
unfoldable pub fields_of : List ℕ → Label
fields_of bytes = record {
  uuid = range bytes uuid_at 16;
  name = range bytes name_at 64;
  flags = number_at 4 bytes flags_at;
  nlabel = number_at 2 bytes nlabel_at;
  position = number_at 2 bytes position_at;
  cookie = number_at 8 bytes cookie_at;
  lba_size = number_at 8 bytes lba_size_at;
  dpa = number_at 8 bytes dpa_at;
  raw_size = number_at 8 bytes raw_size_at;
  slot = number_at 4 bytes slot_at;
  alignment = slice_index bytes alignment_at;
  type_guid = range bytes type_guid_at 16;
  abstraction = range bytes abstraction_at 16;
}

-- the checksum is right, and the label is that of this slot
unfoldable pub is_label : List ℕ → ℕ → Bool
is_label bytes slot = has_checksum bytes label_checksum_at && (number_at 4 bytes slot_at == slot)

-- the label of a slot, where its bytes are one
abbrev pub label_of : List ℕ → ℕ → Option Label
label_of bytes slot = if is_label bytes slot then Some (fields_of bytes) else None

-- What the fields of a value of the program hold anyway: those of the namespace, and those of the module's part of it.
pub record FitsNamespaceFields (l : Label) : Type 0 where
  pub uuid : length l.uuid ≡ 16
  pub name : length l.name ≡ 64
  pub flags : l.flags < 256 ^ 4
  pub nlabel : l.nlabel < 256 ^ 2
  pub position : l.position < 256 ^ 2
  pub cookie : l.cookie < 256 ^ 8
  pub lba_size : l.lba_size < 256 ^ 8

pub record FitsPartFields (l : Label) : Type 0 where
  pub dpa : l.dpa < 256 ^ 8
  pub raw_size : l.raw_size < 256 ^ 8
  pub slot : l.slot < 256 ^ 4
  pub type_guid : length l.type_guid ≡ 16
  pub abstraction : length l.abstraction ≡ 16

-- the bytes of these fields, each with its offset
abbrev pub namespace_fields : Label → List (ℕ × List ℕ)
namespace_fields l = (uuid_at, l.uuid)
    ∷ (name_at, l.name)
    ∷ (flags_at, little_bytes 4 l.flags)
    ∷ (nlabel_at, little_bytes 2 l.nlabel)
    ∷ (position_at, little_bytes 2 l.position)
    ∷ (cookie_at, little_bytes 8 l.cookie)
    ∷ (lba_size_at, little_bytes 8 l.lba_size)
    ∷ []

abbrev pub part_fields : Label → List (ℕ × List ℕ)
part_fields l = (dpa_at, little_bytes 8 l.dpa)
    ∷ (raw_size_at, little_bytes 8 l.raw_size)
    ∷ (slot_at, little_bytes 4 l.slot)
    ∷ (alignment_at, l.alignment ∷ [])
    ∷ (type_guid_at, l.type_guid)
    ∷ (abstraction_at, l.abstraction)
    ∷ []

abbrev pub fields_text : Label → List (ℕ × List ℕ)
fields_text l = namespace_fields l ++ part_fields l

-- a label as it is written: the fields over zeros, and the checksum
unfoldable pub label_text : Label → List ℕ
label_text l = with_checksum (with_fields (replicate label_len 0) (fields_text l)) label_checksum_at

-- the reserved bytes are zero
pub record HasZerosReserved (bytes : List ℕ) : Type 0 where
  pub behind_alignment : range bytes 125 3 ≡ replicate 3 0
  pub behind_guids : range bytes 160 88 ≡ replicate 88 0
