-- The fields that are read from the bytes of a structure are spelled by these bytes, and fit.
use Rattle.std.proofs.Common.{◌≡◌, ℕ, ◌+◌, ◌^◌, ◌<◌, ◌≤◌, List, [], ◌∷◌, length, get_or, drop, refl, arith}
use Rattle.std.proofs.lemmas.List.{length-take, length-drop, drop_more}
use Rattle.std.proofs.lemmas.List.Elements.{All-take, All-drop}
use Rattle.byteorder.specs.Endian.{little_bytes}
use Rattle.byte_ranges.specs.Ranges.{number_at, range}
use Rattle.nfit_tables.specs.declared.pieces.RangePiece.{RangePiece}
use Rattle.nfit_tables.specs.declared.pieces.MappingPiece.{MappingPiece}
use Rattle.nfit_tables.specs.declared.pieces.ControlPiece.{ControlPiece}
use Rattle.nfit_tables.specs.Spelling.{range_fields, mapping_fields, control_fields}
use Rattle.nfit_tables.specs.Proper.{AreBytes, FitsRange, FitsMapping, FitsControl}
use Rattle.nfit_tables.specs.Reading.{range_in, mapping_in, control_in}
use Rattle.nfit_tables.proofs.NumbersSpelled.{IsBytes-from, Spells, ◌followed_by◌, range_spelled, number_spelled, number_below}

module _ (bytes : List ℕ) (are : AreBytes bytes) where
  -- a field of a number, of one byte, and of bytes as they are: from its offset up to its end
  pub field_number : (k at end n : ℕ) → at + k ≡ end → end ≤ length bytes → n ≡ number_at k bytes at → Spells bytes at end (little_bytes k n)
  field_number k at end n e within is = rw (is, ← e) (number_spelled bytes (IsBytes-from bytes are) k at (omega arith))

  pub number_fits : (k at : ℕ) → number_at k bytes at < 256 ^ k
  number_fits = number_below bytes (IsBytes-from bytes are)

  pub field_byte : (at end n : ℕ) → at + 1 ≡ end → end ≤ length bytes → n ≡ get_or bytes at 0 → Spells bytes at end (n ∷ [])
  field_byte at end n e within is = rw (is, ← e) (record { parts = drop_more bytes at 0 (omega arith) })

  pub field_bytes : (at n end : ℕ) (text : List ℕ) → at + n ≡ end → text ≡ range bytes at n → Spells bytes at end text
  field_bytes at n end text e is = rw (is, ← e) (range_spelled bytes at n)

  -- over any structure whose fields are these, so that what stands in the bytes isn't computed
  range_spelled_by : (p : RangePiece) → 56 ≤ length bytes → p.index ≡ number_at 2 bytes 4 → p.flags ≡ number_at 2 bytes 6 → p.reserved ≡ number_at 4 bytes 8 → p.proximity ≡ number_at 4 bytes 12
      → p.type_guid ≡ range bytes 16 16 → p.base ≡ number_at 8 bytes 32 → p.length ≡ number_at 8 bytes 40 → p.attributes ≡ number_at 8 bytes 48 → Spells bytes 4 56 (range_fields p)
  unfolding range_fields
  range_spelled_by p long index flags reserved proximity type_guid base len attributes =
      field_number 2 4 6 p.index refl (omega arith) index
      followed_by field_number 2 6 8 p.flags refl (omega arith) flags
      followed_by field_number 4 8 12 p.reserved refl (omega arith) reserved
      followed_by field_number 4 12 16 p.proximity refl (omega arith) proximity
      followed_by field_bytes 16 16 32 p.type_guid refl type_guid
      followed_by field_number 8 32 40 p.base refl (omega arith) base
      followed_by field_number 8 40 48 p.length refl (omega arith) len
      followed_by field_number 8 48 56 p.attributes refl (omega arith) attributes

  pub range_fields_spelled : 56 ≤ length bytes → Spells bytes 4 56 (range_fields (range_in bytes))
  unfolding range_in
  range_fields_spelled long = range_spelled_by (range_in bytes) long refl refl refl refl refl refl refl refl

  pub range_fits : 56 ≤ length bytes → FitsRange (range_in bytes)
  unfolding range_in
  range_fits long = record {
    index = number_fits 2 4;
    flags = number_fits 2 6;
    reserved = number_fits 4 8;
    proximity = number_fits 4 12;
    type_guid = omega (arith, length-take 16 (drop 16 bytes), length-drop 16 bytes);
    type_guid_bytes = All-take (λ (b : ℕ). b < 256) 16 (drop 16 bytes) (All-drop (λ (b : ℕ). b < 256) 16 bytes are);
    base = number_fits 8 32;
    len = number_fits 8 40;
    attributes = number_fits 8 48;
    tail = All-drop (λ (b : ℕ). b < 256) 56 bytes are;
  }

  mapping_spelled_by : (p : MappingPiece) → 48 ≤ length bytes
      → p.device_handle ≡ number_at 4 bytes 4 → p.physical_id ≡ number_at 2 bytes 8 → p.region_id ≡ number_at 2 bytes 10 → p.range_index ≡ number_at 2 bytes 12
      → p.control_index ≡ number_at 2 bytes 14 → p.region_size ≡ number_at 8 bytes 16 → p.region_offset ≡ number_at 8 bytes 24 → p.module_address_base ≡ number_at 8 bytes 32
      → p.interleave_index ≡ number_at 2 bytes 40 → p.ways ≡ number_at 2 bytes 42 → p.state_flags ≡ number_at 2 bytes 44 → p.reserved ≡ number_at 2 bytes 46 → Spells bytes 4 48 (mapping_fields p)
  unfolding mapping_fields
  mapping_spelled_by p long device_handle physical_id region_id range_index control_index region_size region_offset module_address_base interleave_index ways state_flags reserved =
      field_number 4 4 8 p.device_handle refl (omega arith) device_handle
      followed_by field_number 2 8 10 p.physical_id refl (omega arith) physical_id
      followed_by field_number 2 10 12 p.region_id refl (omega arith) region_id
      followed_by field_number 2 12 14 p.range_index refl (omega arith) range_index
      followed_by field_number 2 14 16 p.control_index refl (omega arith) control_index
      followed_by field_number 8 16 24 p.region_size refl (omega arith) region_size
      followed_by field_number 8 24 32 p.region_offset refl (omega arith) region_offset
      followed_by field_number 8 32 40 p.module_address_base refl (omega arith) module_address_base
      followed_by field_number 2 40 42 p.interleave_index refl (omega arith) interleave_index
      followed_by field_number 2 42 44 p.ways refl (omega arith) ways
      followed_by field_number 2 44 46 p.state_flags refl (omega arith) state_flags
      followed_by field_number 2 46 48 p.reserved refl (omega arith) reserved

  pub mapping_fields_spelled : 48 ≤ length bytes → Spells bytes 4 48 (mapping_fields (mapping_in bytes))
  unfolding mapping_in
  mapping_fields_spelled long = mapping_spelled_by (mapping_in bytes) long refl refl refl refl refl refl refl refl refl refl refl refl

  pub mapping_fits : FitsMapping (mapping_in bytes)
  unfolding mapping_in
  mapping_fits = record {
    device_handle = number_fits 4 4;
    physical_id = number_fits 2 8;
    region_id = number_fits 2 10;
    range_index = number_fits 2 12;
    control_index = number_fits 2 14;
    region_size = number_fits 8 16;
    region_offset = number_fits 8 24;
    module_address_base = number_fits 8 32;
    interleave_index = number_fits 2 40;
    ways = number_fits 2 42;
    state_flags = number_fits 2 44;
    reserved = number_fits 2 46;
    tail = All-drop (λ (b : ℕ). b < 256) 48 bytes are;
  }

  control_spelled_by : (p : ControlPiece) → 32 ≤ length bytes
      → p.index ≡ number_at 2 bytes 4 → p.vendor ≡ number_at 2 bytes 6 → p.device ≡ number_at 2 bytes 8 → p.revision ≡ number_at 2 bytes 10
      → p.subsystem_vendor ≡ number_at 2 bytes 12 → p.subsystem_device ≡ number_at 2 bytes 14 → p.subsystem_revision ≡ number_at 2 bytes 16 → p.valid_fields ≡ get_or bytes 18 0
      → p.manufacturing_location ≡ get_or bytes 19 0 → p.manufacturing_date ≡ number_at 2 bytes 20 → p.reserved ≡ number_at 2 bytes 22 → p.serial_number ≡ number_at 4 bytes 24
      → p.format_code ≡ number_at 2 bytes 28 → p.number_of_windows ≡ number_at 2 bytes 30 → Spells bytes 4 32 (control_fields p)
  unfolding control_fields
  control_spelled_by p long index vendor device revision subsystem_vendor subsystem_device subsystem_revision valid_fields manufacturing_location manufacturing_date reserved serial_number format_code number_of_windows =
      field_number 2 4 6 p.index refl (omega arith) index
      followed_by field_number 2 6 8 p.vendor refl (omega arith) vendor
      followed_by field_number 2 8 10 p.device refl (omega arith) device
      followed_by field_number 2 10 12 p.revision refl (omega arith) revision
      followed_by field_number 2 12 14 p.subsystem_vendor refl (omega arith) subsystem_vendor
      followed_by field_number 2 14 16 p.subsystem_device refl (omega arith) subsystem_device
      followed_by field_number 2 16 18 p.subsystem_revision refl (omega arith) subsystem_revision
      followed_by field_byte 18 19 p.valid_fields refl (omega arith) valid_fields
      followed_by field_byte 19 20 p.manufacturing_location refl (omega arith) manufacturing_location
      followed_by field_number 2 20 22 p.manufacturing_date refl (omega arith) manufacturing_date
      followed_by field_number 2 22 24 p.reserved refl (omega arith) reserved
      followed_by field_number 4 24 28 p.serial_number refl (omega arith) serial_number
      followed_by field_number 2 28 30 p.format_code refl (omega arith) format_code
      followed_by field_number 2 30 32 p.number_of_windows refl (omega arith) number_of_windows

  pub control_fields_spelled : 32 ≤ length bytes → Spells bytes 4 32 (control_fields (control_in bytes))
  unfolding control_in
  control_fields_spelled long = control_spelled_by (control_in bytes) long refl refl refl refl refl refl refl refl refl refl refl refl refl refl

  pub control_fits : FitsControl (control_in bytes)
  unfolding control_in
  control_fits = record {
    index = number_fits 2 4;
    vendor = number_fits 2 6;
    device = number_fits 2 8;
    revision = number_fits 2 10;
    subsystem_vendor = number_fits 2 12;
    subsystem_device = number_fits 2 14;
    subsystem_revision = number_fits 2 16;
    valid_fields = IsBytes-from bytes are 18;
    manufacturing_location = IsBytes-from bytes are 19;
    manufacturing_date = number_fits 2 20;
    reserved = number_fits 2 22;
    serial_number = number_fits 4 24;
    format_code = number_fits 2 28;
    number_of_windows = number_fits 2 30;
    tail = All-drop (λ (b : ℕ). b < 256) 32 bytes are;
  }
