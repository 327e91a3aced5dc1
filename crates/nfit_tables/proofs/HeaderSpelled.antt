-- The header that is read is spelled by the first bytes, and fits.
use Rattle.std.proofs.Common.{◌≡◌, ℕ, ◌<◌, ◌≤◌, List, ◌++◌, length, get_or, drop, refl, sym, arith}
use Rattle.std.specs.Prelude.{codes}
use Rattle.std.proofs.lemmas.List.{length-take, length-drop}
use Rattle.std.proofs.lemmas.List.Elements.{All-take, All-drop}
use Rattle.byte_ranges.specs.Ranges.{number_at, range}
use Rattle.nfit_tables.specs.declared.pieces.Header.{Header}
use Rattle.nfit_tables.specs.Spelling.{header_with}
use Rattle.nfit_tables.specs.Proper.{AreBytes, FitsHeader}
use Rattle.nfit_tables.specs.Reading.{header_in}
use Rattle.nfit_tables.proofs.NumbersSpelled.{Spells, ◌followed_by◌}
use Rattle.nfit_tables.proofs.FieldsSpelled.{field_number, number_fits, field_byte, field_bytes}

module _ (bytes : List ℕ) (are : AreBytes bytes) (long : 40 ≤ length bytes) where
  header_spelled_by : (checksum len : ℕ) (h : Header) → range bytes 0 4 ≡ codes "NFIT" → len ≡ number_at 4 bytes 4 → get_or bytes 8 0 ≡ 1 → checksum ≡ get_or bytes 9 0
      → h.oem_id ≡ range bytes 10 6 → h.oem_table ≡ range bytes 16 8 → h.oem_revision ≡ number_at 4 bytes 24 → h.creator ≡ number_at 4 bytes 28
      → h.creator_revision ≡ number_at 4 bytes 32 → h.reserved ≡ number_at 4 bytes 36 → Spells bytes 0 40 (header_with checksum len h)
  unfolding header_with
  header_spelled_by checksum len h signature told revision checksum_is oem_id oem_table oem_revision creator creator_revision reserved =
      field_bytes bytes are 0 4 4 (codes "NFIT") refl (sym signature)
      followed_by field_number bytes are 4 4 8 len refl (omega arith) told
      followed_by field_byte bytes are 8 9 1 refl (omega arith) (sym revision)
      followed_by field_byte bytes are 9 10 checksum refl (omega arith) checksum_is
      followed_by field_bytes bytes are 10 6 16 h.oem_id refl oem_id
      followed_by field_bytes bytes are 16 8 24 h.oem_table refl oem_table
      followed_by field_number bytes are 4 24 28 h.oem_revision refl (omega arith) oem_revision
      followed_by field_number bytes are 4 28 32 h.creator refl (omega arith) creator
      followed_by field_number bytes are 4 32 36 h.creator_revision refl (omega arith) creator_revision
      followed_by field_number bytes are 4 36 40 h.reserved refl (omega arith) reserved

  pub header_spelled : range bytes 0 4 ≡ codes "NFIT" → number_at 4 bytes 4 ≡ length bytes → get_or bytes 8 0 ≡ 1 → bytes ≡ header_with (get_or bytes 9 0) (length bytes) (header_in bytes) ++ drop 40 bytes
  unfolding header_in
  header_spelled signature told revision =
      (header_spelled_by (get_or bytes 9 0) (length bytes) (header_in bytes) signature (sym told) revision refl refl refl refl refl refl refl).parts

  pub header_fits : FitsHeader (header_in bytes)
  unfolding header_in
  header_fits = record {
    oem_id = omega (arith, length-take 6 (drop 10 bytes), length-drop 10 bytes);
    oem_id_bytes = All-take (λ (b : ℕ). b < 256) 6 (drop 10 bytes) (All-drop (λ (b : ℕ). b < 256) 10 bytes are);
    oem_table = omega (arith, length-take 8 (drop 16 bytes), length-drop 16 bytes);
    oem_table_bytes = All-take (λ (b : ℕ). b < 256) 8 (drop 16 bytes) (All-drop (λ (b : ℕ). b < 256) 16 bytes are);
    oem_revision = number_fits bytes are 4 24;
    creator = number_fits bytes are 4 28;
    creator_revision = number_fits bytes are 4 32;
    reserved = number_fits bytes are 4 36;
  }
