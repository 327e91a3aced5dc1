-- The fields of an interleave structure are spelled by its bytes, and fit.
use Rattle.std.proofs.Common.{◌≡◌, ℕ, zero, suc, ◌+◌, ◌*◌, ◌^◌, ◌<◌, ◌≤◌, List, length, drop, map, refl, ap, ◌∙◌, arith}
use Rattle.std.specs.List.{flat_map, range_with_len}
use Rattle.std.proofs.lemmas.List.FromFn.{length-map-range_with_len}
use Rattle.std.proofs.lemmas.List.Elements.{All-map, All-drop}
use Rattle.byteorder.specs.Endian.{little_bytes}
use Rattle.byte_ranges.specs.Ranges.{number_at}
use Rattle.nfit_tables.specs.declared.pieces.InterleavePiece.{InterleavePiece}
use Rattle.nfit_tables.specs.Spelling.{interleave_fields}
use Rattle.nfit_tables.specs.Proper.{AreBytes, FitsInterleave}
use Rattle.nfit_tables.specs.Reading.{interleave_in, line_count, lines_in}
use Rattle.nfit_tables.proofs.NumbersSpelled.{Spells, ◌followed_by◌}
use Rattle.nfit_tables.proofs.FieldsSpelled.{field_number, number_fits}

module _ (bytes : List ℕ) (are : AreBytes bytes) where
  -- n lines, from the one at a on
  lines_spelled : (a n : ℕ) → 16 + 4 * (a + n) ≤ length bytes
      → Spells bytes (16 + 4 * a) (16 + 4 * (a + n)) (flat_map (little_bytes 4) (map (λ line. number_at 4 bytes (16 + 4 * line)) (range_with_len a n)))
  lines_spelled a zero within = record { parts = ap (λ (m : ℕ). drop m bytes) (omega arith) }
  lines_spelled a (suc n) within =
      let first = field_number bytes are 4 (16 + 4 * a) (16 + 4 * (a + 1)) (number_at 4 bytes (16 + 4 * a)) (omega arith) (omega arith) refl in
      let others = lines_spelled (a + 1) n (omega arith) in
      let e : 16 + 4 * (a + 1 + n) ≡ 16 + 4 * (a + suc n) = omega arith in
      first followed_by (rw e at others)

  all_lines_spelled : (count : ℕ) (lines : List ℕ) → 16 + 4 * count ≤ length bytes → lines ≡ lines_in count bytes → Spells bytes 16 (16 + 4 * count) (flat_map (little_bytes 4) lines)
  all_lines_spelled count lines long is =
      let e : 16 + 4 * (0 + count) ≡ 16 + 4 * count = omega arith in
      rw is (rw e at (lines_spelled 0 count (omega arith)))

  interleave_spelled_by : (p : InterleavePiece) (count : ℕ) → 16 + 4 * count ≤ length bytes → count ≡ line_count bytes → p.index ≡ number_at 2 bytes 4 → p.reserved ≡ number_at 2 bytes 6
      → p.line_size ≡ number_at 4 bytes 12 → p.lines ≡ lines_in count bytes → Spells bytes 4 (16 + 4 * count) (interleave_fields p)
  unfolding interleave_fields
  interleave_spelled_by p count long told index reserved line_size lines =
      let len : length p.lines ≡ count = ap length lines ∙ length-map-range_with_len (λ line. number_at 4 bytes (16 + 4 * line)) 0 count in
      field_number bytes are 2 4 6 p.index refl (omega arith) index
      followed_by field_number bytes are 2 6 8 p.reserved refl (omega arith) reserved
      followed_by field_number bytes are 4 8 12 (length p.lines) refl (omega arith) (len ∙ told)
      followed_by field_number bytes are 4 12 16 p.line_size refl (omega arith) line_size
      followed_by all_lines_spelled count p.lines long lines

  pub interleave_fields_spelled : 16 + 4 * line_count bytes ≤ length bytes → Spells bytes 4 (16 + 4 * line_count bytes) (interleave_fields (interleave_in bytes))
  unfolding interleave_in
  interleave_fields_spelled long = interleave_spelled_by (interleave_in bytes) (line_count bytes) long refl refl refl refl refl

  pub interleave_fits : FitsInterleave (interleave_in bytes)
  unfolding interleave_in
  interleave_fits = record {
    index = number_fits bytes are 2 4;
    reserved = number_fits bytes are 2 6;
    line_size = number_fits bytes are 4 12;
    lines = All-map (λ (line : ℕ). line < 2 ^ 32) (λ line. number_at 4 bytes (16 + 4 * line)) (range_with_len 0 (line_count bytes)) (λ k d lt. number_fits bytes are 4 _);
    tail = All-drop (λ (b : ℕ). b < 256) (16 + 4 * line_count bytes) bytes are;
  }
