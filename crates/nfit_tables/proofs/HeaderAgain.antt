-- A header that is spelled is read again.
use Rattle.std.proofs.Common.{◌≡◌, ℕ, ◌+◌, ◌-◌, ◌%◌, ◌^◌, ◌<◌, List, [], ◌∷◌, ◌++◌, length, take, drop, refl, sym, ap, ◌∙◌, arith, append_assoc}
use Rattle.std.specs.Prelude.{codes, slice_index, sum}
use Rattle.std.proofs.lemmas.List.{length-append, take_at, drop_at, drop-drop}
use Rattle.std.proofs.lemmas.List.Sums.{sum_by-append, sum_by-cons}
use Rattle.byteorder.specs.Endian.{little_bytes, little_number}
use Rattle.byteorder.specs.Numbers.{little_number-reads_back}
use Rattle.byte_ranges.specs.Ranges.{number_at, range}
use Rattle.nfit_tables.specs.declared.pieces.Header.{Header}
use Rattle.nfit_tables.specs.declared.pieces.Nfit.{Nfit}
use Rattle.nfit_tables.specs.Spelling.{header_with, spellings, length_of, checksum_byte, text}
use Rattle.nfit_tables.specs.Proper.{FitsHeader}
use Rattle.nfit_tables.specs.Reading.{header_in}

-- two fields of bytes, and what stands behind them
module _ (first second a b c d rest : List ℕ) (n m : ℕ) (count_first : length first ≡ n) (count_second : length second ≡ m) where
  whole : List ℕ
  whole = first ++ second ++ a ++ b ++ c ++ d ++ rest

  regroup : whole ≡ first ++ (second ++ (a ++ b ++ c ++ d ++ rest))
  unfolding whole
  regroup = simp append_assoc

  take_first : take n whole ≡ first
  take_first = ap (take n) regroup ∙ take_at first (second ++ (a ++ b ++ c ++ d ++ rest)) n count_first

  drop_first : drop n whole ≡ second ++ (a ++ b ++ c ++ d ++ rest)
  drop_first = ap (drop n) regroup ∙ drop_at first (second ++ (a ++ b ++ c ++ d ++ rest)) n count_first

  take_second : take m (drop n whole) ≡ second
  take_second = ap (take m) drop_first ∙ take_at second (a ++ b ++ c ++ d ++ rest) m count_second

  drop_second : (k : ℕ) → drop (n + m + k) whole ≡ drop k (a ++ b ++ c ++ d ++ rest)
  drop_second k =
      sym (drop-drop k (n + m) whole) ∙ ap (drop k) (sym (drop-drop m n whole) ∙ ap (drop m) drop_first ∙ drop_at second (a ++ b ++ c ++ d ++ rest) m count_second)

  length-whole : length whole ≡ n + (m + length (a ++ b ++ c ++ d ++ rest))
  length-whole =
      ap length regroup
      ∙ omega (arith, length-append first (second ++ (a ++ b ++ c ++ d ++ rest)), length-append second (a ++ b ++ c ++ d ++ rest), count_first, count_second)

-- a header, and whatever stands behind it
module _ (checksum len : ℕ) (h : Header) (rest : List ℕ) where
  pub signature_at : take 4 (header_with checksum len h ++ rest) ≡ codes "NFIT"
  unfolding header_with
  signature_at = refl

  pub len_at : len < 2 ^ 32 → number_at 4 (header_with checksum len h ++ rest) 4 ≡ len
  unfolding header_with
  len_at short = little_number-reads_back 4 len (drop 8 (header_with checksum len h ++ rest)) short

  pub revision_at : slice_index (header_with checksum len h ++ rest) 8 ≡ 1
  unfolding header_with
  revision_at = refl

  module _ (fits : FitsHeader h) where
    pub behind_header : drop 40 (header_with checksum len h ++ rest) ≡ rest
    unfolding header_with whole
    behind_header = drop_second h.oem_id h.oem_table (little_bytes 4 h.oem_revision) (little_bytes 4 h.creator) (little_bytes 4 h.creator_revision) (little_bytes 4 h.reserved) rest 6 8 fits.oem_id fits.oem_table 16

    pub length-header : length (header_with checksum len h ++ rest) ≡ 40 + length rest
    unfolding header_with whole
    length-header =
        let long = length-whole h.oem_id h.oem_table (little_bytes 4 h.oem_revision) (little_bytes 4 h.creator) (little_bytes 4 h.creator_revision) (little_bytes 4 h.reserved) rest 6 8 fits.oem_id fits.oem_table in
        omega (arith, long)

    pub header_again : header_in (header_with checksum len h ++ rest) ≡ h
    unfolding header_with header_in whole
    header_again =
        let bytes = header_with checksum len h ++ rest in
        let id : range bytes 10 6 ≡ h.oem_id =
        take_first h.oem_id h.oem_table (little_bytes 4 h.oem_revision) (little_bytes 4 h.creator) (little_bytes 4 h.creator_revision) (little_bytes 4 h.reserved) rest 6 8 fits.oem_id fits.oem_table in
        let table : range bytes 16 8 ≡ h.oem_table =
        take_second h.oem_id h.oem_table (little_bytes 4 h.oem_revision) (little_bytes 4 h.creator) (little_bytes 4 h.creator_revision) (little_bytes 4 h.reserved) rest 6 8 fits.oem_id fits.oem_table in
        let beyond = drop_second h.oem_id h.oem_table (little_bytes 4 h.oem_revision) (little_bytes 4 h.creator) (little_bytes 4 h.creator_revision) (little_bytes 4 h.reserved) rest 6 8 fits.oem_id fits.oem_table in
        let revision : number_at 4 bytes 24 ≡ h.oem_revision =
        ap (little_number 4) (beyond 0) ∙ little_number-reads_back 4 h.oem_revision (little_bytes 4 h.creator ++ little_bytes 4 h.creator_revision ++ little_bytes 4 h.reserved ++ rest) fits.oem_revision in
        let creator : number_at 4 bytes 28 ≡ h.creator =
        ap (little_number 4) (beyond 4) ∙ little_number-reads_back 4 h.creator (little_bytes 4 h.creator_revision ++ little_bytes 4 h.reserved ++ rest) fits.creator in
        let creator_revision : number_at 4 bytes 32 ≡ h.creator_revision =
        ap (little_number 4) (beyond 8) ∙ little_number-reads_back 4 h.creator_revision (little_bytes 4 h.reserved ++ rest) fits.creator_revision in
        let reserved : number_at 4 bytes 36 ≡ h.reserved = ap (little_number 4) (beyond 12) ∙ little_number-reads_back 4 h.reserved rest fits.reserved in
        λ i. record { oem_id = id i; oem_table = table i; oem_revision = revision i; creator = creator i; creator_revision = creator_revision i; reserved = reserved i }

-- what stands in front of the checksum byte, and behind it
front : ℕ → List ℕ
front len = codes "NFIT" ++ little_bytes 4 len ++ 1 ∷ []

behind : Header → List ℕ → List ℕ
behind h rest = h.oem_id ++ h.oem_table ++ little_bytes 4 h.oem_revision ++ little_bytes 4 h.creator ++ little_bytes 4 h.creator_revision ++ little_bytes 4 h.reserved ++ rest

-- a header, cut at the checksum byte
cut : (checksum len : ℕ) (h : Header) (rest : List ℕ) → header_with checksum len h ++ rest ≡ front len ++ checksum ∷ behind h rest
unfolding header_with front behind
cut checksum len h rest = refl

sum-header : (checksum len : ℕ) (h : Header) (rest : List ℕ) → sum (header_with checksum len h ++ rest) ≡ sum (front len) + (checksum + sum (behind h rest))
sum-header checksum len h rest =
    ap sum (cut checksum len h rest) ∙ sum_by-append (λ (x : ℕ). x) (front len) (checksum ∷ behind h rest) ∙ ap (λ (n : ℕ). sum (front len) + n) (sum_by-cons (λ (x : ℕ). x) checksum (behind h rest))

-- the checksum byte makes up for the other bytes
made_up : (byte front behind : ℕ) → byte ≡ (256 - (front + (0 + behind)) % 256) % 256 → (front + (byte + behind)) % 256 ≡ 0
made_up byte front behind is = omega arith

-- all bytes of a table sum to 0 modulo 256
pub sum-text : (n : Nfit) → sum (text n) % 256 ≡ 0
sum-text n =
    let one = sum-header (checksum_byte n) (length_of n) n.header (spellings n.pieces) in
    let none = sum-header 0 (length_of n) n.header (spellings n.pieces) in
    let byte : checksum_byte n ≡ (256 - (sum (front (length_of n)) + (0 + sum (behind n.header (spellings n.pieces)))) % 256) % 256 = ap (λ (s : ℕ). (256 - s % 256) % 256) none in
    ap (λ (s : ℕ). s % 256) one ∙ made_up (checksum_byte n) (sum (front (length_of n))) (sum (behind n.header (spellings n.pieces))) byte
