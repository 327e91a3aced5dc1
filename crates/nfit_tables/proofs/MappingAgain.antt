-- A mapping that is spelled is read again.
use Rattle.std.proofs.Common.{◌≡◌, length, drop, refl}
use Rattle.byteorder.specs.Numbers.{little_number-reads_back}
use Rattle.byte_ranges.specs.Ranges.{number_at}
use Rattle.nfit_tables.specs.declared.pieces.MappingPiece.{MappingPiece}
use Rattle.nfit_tables.specs.declared.pieces.Piece.TheVariants.{Mapping}
use Rattle.nfit_tables.specs.Spelling.{mapping_fields, spelling}
use Rattle.nfit_tables.specs.Proper.{FitsMapping}
use Rattle.nfit_tables.specs.Reading.{mapping_in}

pub length-mapping_fields : (p : MappingPiece) → length (mapping_fields p) ≡ 44
unfolding mapping_fields
length-mapping_fields p = refl

pub mapping_again : (p : MappingPiece) → FitsMapping p → mapping_in (spelling (Mapping p)) ≡ p
unfolding mapping_fields spelling mapping_in
mapping_again p fits =
    let bytes = spelling (Mapping p) in
    let handle : number_at 4 bytes 4 ≡ p.device_handle = little_number-reads_back 4 p.device_handle (drop 8 bytes) fits.device_handle in
    let physical : number_at 2 bytes 8 ≡ p.physical_id = little_number-reads_back 2 p.physical_id (drop 10 bytes) fits.physical_id in
    let region : number_at 2 bytes 10 ≡ p.region_id = little_number-reads_back 2 p.region_id (drop 12 bytes) fits.region_id in
    let range : number_at 2 bytes 12 ≡ p.range_index = little_number-reads_back 2 p.range_index (drop 14 bytes) fits.range_index in
    let control : number_at 2 bytes 14 ≡ p.control_index = little_number-reads_back 2 p.control_index (drop 16 bytes) fits.control_index in
    let size : number_at 8 bytes 16 ≡ p.region_size = little_number-reads_back 8 p.region_size (drop 24 bytes) fits.region_size in
    let offset : number_at 8 bytes 24 ≡ p.region_offset = little_number-reads_back 8 p.region_offset (drop 32 bytes) fits.region_offset in
    let address : number_at 8 bytes 32 ≡ p.module_address_base = little_number-reads_back 8 p.module_address_base (drop 40 bytes) fits.module_address_base in
    let interleave : number_at 2 bytes 40 ≡ p.interleave_index = little_number-reads_back 2 p.interleave_index (drop 42 bytes) fits.interleave_index in
    let ways : number_at 2 bytes 42 ≡ p.ways = little_number-reads_back 2 p.ways (drop 44 bytes) fits.ways in
    let state : number_at 2 bytes 44 ≡ p.state_flags = little_number-reads_back 2 p.state_flags (drop 46 bytes) fits.state_flags in
    let reserved : number_at 2 bytes 46 ≡ p.reserved = little_number-reads_back 2 p.reserved (drop 48 bytes) fits.reserved in
    λ i. record {
      device_handle = handle i;
      physical_id = physical i;
      region_id = region i;
      range_index = range i;
      control_index = control i;
      region_size = size i;
      region_offset = offset i;
      module_address_base = address i;
      interleave_index = interleave i;
      ways = ways i;
      state_flags = state i;
      reserved = reserved i;
      tail = p.tail;
    }
