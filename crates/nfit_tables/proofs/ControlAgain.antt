-- A control region that is spelled is read again.
use Rattle.std.proofs.Common.{◌≡◌, length, drop, refl}
use Rattle.byteorder.specs.Numbers.{little_number-reads_back}
use Rattle.byte_ranges.specs.Ranges.{number_at}
use Rattle.nfit_tables.specs.declared.pieces.ControlPiece.{ControlPiece}
use Rattle.nfit_tables.specs.declared.pieces.Piece.TheVariants.{Control}
use Rattle.nfit_tables.specs.Spelling.{control_fields, spelling}
use Rattle.nfit_tables.specs.Proper.{FitsControl}
use Rattle.nfit_tables.specs.Reading.{control_in}

pub length-control_fields : (p : ControlPiece) → length (control_fields p) ≡ 28
unfolding control_fields
length-control_fields p = refl

pub control_again : (p : ControlPiece) → FitsControl p → control_in (spelling (Control p)) ≡ p
unfolding control_fields spelling control_in
control_again p fits =
    let bytes = spelling (Control p) in
    let index : number_at 2 bytes 4 ≡ p.index = little_number-reads_back 2 p.index (drop 6 bytes) fits.index in
    let vendor : number_at 2 bytes 6 ≡ p.vendor = little_number-reads_back 2 p.vendor (drop 8 bytes) fits.vendor in
    let device : number_at 2 bytes 8 ≡ p.device = little_number-reads_back 2 p.device (drop 10 bytes) fits.device in
    let revision : number_at 2 bytes 10 ≡ p.revision = little_number-reads_back 2 p.revision (drop 12 bytes) fits.revision in
    let sub_vendor : number_at 2 bytes 12 ≡ p.subsystem_vendor = little_number-reads_back 2 p.subsystem_vendor (drop 14 bytes) fits.subsystem_vendor in
    let sub_device : number_at 2 bytes 14 ≡ p.subsystem_device = little_number-reads_back 2 p.subsystem_device (drop 16 bytes) fits.subsystem_device in
    let sub_revision : number_at 2 bytes 16 ≡ p.subsystem_revision = little_number-reads_back 2 p.subsystem_revision (drop 18 bytes) fits.subsystem_revision in
    let date : number_at 2 bytes 20 ≡ p.manufacturing_date = little_number-reads_back 2 p.manufacturing_date (drop 22 bytes) fits.manufacturing_date in
    let reserved : number_at 2 bytes 22 ≡ p.reserved = little_number-reads_back 2 p.reserved (drop 24 bytes) fits.reserved in
    let serial : number_at 4 bytes 24 ≡ p.serial_number = little_number-reads_back 4 p.serial_number (drop 28 bytes) fits.serial_number in
    let format : number_at 2 bytes 28 ≡ p.format_code = little_number-reads_back 2 p.format_code (drop 30 bytes) fits.format_code in
    let windows : number_at 2 bytes 30 ≡ p.number_of_windows = little_number-reads_back 2 p.number_of_windows (drop 32 bytes) fits.number_of_windows in
    λ i. record {
      index = index i;
      vendor = vendor i;
      device = device i;
      revision = revision i;
      subsystem_vendor = sub_vendor i;
      subsystem_device = sub_device i;
      subsystem_revision = sub_revision i;
      valid_fields = p.valid_fields;
      manufacturing_location = p.manufacturing_location;
      manufacturing_date = date i;
      reserved = reserved i;
      serial_number = serial i;
      format_code = format i;
      number_of_windows = windows i;
      tail = p.tail;
    }
