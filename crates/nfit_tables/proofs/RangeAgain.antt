-- An address range that is spelled is read again.
use Rattle.std.proofs.Common.{◌≡◌, ℕ, ◌+◌, List, ◌++◌, length, take, drop, sym, ap, ◌∙◌, arith, append_assoc}
use Rattle.std.proofs.lemmas.List.{length-append, take_at, drop_at, drop-drop}
use Rattle.byteorder.specs.Endian.{little_bytes, little_number}
use Rattle.byteorder.specs.Numbers.{little_number-reads_back}
use Rattle.byte_ranges.specs.Ranges.{number_at, range}
use Rattle.nfit_tables.specs.declared.pieces.RangePiece.{RangePiece}
use Rattle.nfit_tables.specs.declared.pieces.Piece.TheVariants.{Range}
use Rattle.nfit_tables.specs.Spelling.{range_fields, spelling}
use Rattle.nfit_tables.specs.Proper.{FitsRange}
use Rattle.nfit_tables.specs.Reading.{range_in}

-- a field of bytes, and what stands behind it
module _ (first a b c d : List ℕ) (n : ℕ) (count : length first ≡ n) where
  regroup : first ++ a ++ b ++ c ++ d ≡ first ++ (a ++ b ++ c ++ d)
  regroup = simp append_assoc

  take_first : take n (first ++ a ++ b ++ c ++ d) ≡ first
  take_first = ap (take n) regroup ∙ take_at first (a ++ b ++ c ++ d) n count

  drop_first : (k : ℕ) → drop (n + k) (first ++ a ++ b ++ c ++ d) ≡ drop k (a ++ b ++ c ++ d)
  drop_first k = sym (drop-drop k n (first ++ a ++ b ++ c ++ d)) ∙ ap (λ (bytes : List ℕ). drop k (drop n bytes)) regroup ∙ ap (drop k) (drop_at first (a ++ b ++ c ++ d) n count)

module _ (p : RangePiece) (fits : FitsRange p) where
  pub length-range_fields : length (range_fields p) ≡ 52
  unfolding range_fields
  length-range_fields =
      let behind = length-append p.type_guid (little_bytes 8 p.base ++ little_bytes 8 p.length ++ little_bytes 8 p.attributes) in
      let grouped : p.type_guid ++ little_bytes 8 p.base ++ little_bytes 8 p.length ++ little_bytes 8 p.attributes ≡ p.type_guid ++ (little_bytes 8 p.base ++ little_bytes 8 p.length ++ little_bytes 8 p.attributes) = simp append_assoc in
      omega (arith, fits.type_guid, behind, ap length grouped)

  pub range_again : range_in (spelling (Range p)) ≡ p
  unfolding range_fields spelling range_in
  range_again =
      let bytes = spelling (Range p) in
      let beyond = drop_first p.type_guid (little_bytes 8 p.base) (little_bytes 8 p.length) (little_bytes 8 p.attributes) p.tail 16 fits.type_guid in
      let index : number_at 2 bytes 4 ≡ p.index = little_number-reads_back 2 p.index (drop 6 bytes) fits.index in
      let flags : number_at 2 bytes 6 ≡ p.flags = little_number-reads_back 2 p.flags (drop 8 bytes) fits.flags in
      let reserved : number_at 4 bytes 8 ≡ p.reserved = little_number-reads_back 4 p.reserved (drop 12 bytes) fits.reserved in
      let proximity : number_at 4 bytes 12 ≡ p.proximity = little_number-reads_back 4 p.proximity (drop 16 bytes) fits.proximity in
      let guid : range bytes 16 16 ≡ p.type_guid = take_first p.type_guid (little_bytes 8 p.base) (little_bytes 8 p.length) (little_bytes 8 p.attributes) p.tail 16 fits.type_guid in
      let base : number_at 8 bytes 32 ≡ p.base = ap (little_number 8) (beyond 0) ∙ little_number-reads_back 8 p.base (little_bytes 8 p.length ++ little_bytes 8 p.attributes ++ p.tail) fits.base in
      let len : number_at 8 bytes 40 ≡ p.length = ap (little_number 8) (beyond 8) ∙ little_number-reads_back 8 p.length (little_bytes 8 p.attributes ++ p.tail) fits.len in
      let attributes : number_at 8 bytes 48 ≡ p.attributes = ap (little_number 8) (beyond 16) ∙ little_number-reads_back 8 p.attributes p.tail fits.attributes in
      let tail : drop 56 bytes ≡ p.tail = beyond 24 in
      λ i. record { index = index i; flags = flags i; reserved = reserved i; proximity = proximity i; type_guid = guid i; base = base i; length = len i; attributes = attributes i; tail = tail i }
