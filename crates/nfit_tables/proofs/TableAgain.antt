-- A proper table that is spelled is read again, so no two of them have one text.
use Rattle.std.proofs.Common.{◌≡◌, ℕ, ◌+◌, ◌%◌, ◌≤◌, Bool, true, false, cond, List, length, take, drop, Option, None, Result, Ok, refl, sym, ap, ◌∙◌, arith}
use Rattle.std.specs.Prelude.{◌==◌, codes, nat_lt, not, slice_index, sum}
use Rattle.std.specs.Str.{bytes_eq}
use Rattle.std.proofs.lemmas.Bool.{le-ltb, eq-eqb}
use Rattle.byte_ranges.specs.Ranges.{number_at}
use Rattle.nfit_tables.specs.declared.fault.NfitFault.{NfitFault}
use Rattle.nfit_tables.specs.declared.pieces.Header.{Header}
use Rattle.nfit_tables.specs.declared.pieces.Piece.{Piece}
use Rattle.nfit_tables.specs.declared.pieces.Nfit.{Nfit}
use Rattle.nfit_tables.specs.Spelling.{spellings, length_of, checksum_byte, text}
use Rattle.nfit_tables.specs.Proper.{IsProper, names, region_count, module_count}
use Rattle.nfit_tables.specs.Reading.{◌>>=◌, header_in, pieces_at, first_twice, named_once, checked, table_behind, table_of}
use Rattle.nfit_tables.proofs.PiecesAgain.{pieces_again}
use Rattle.nfit_tables.proofs.HeaderAgain.{signature_at, len_at, revision_at, behind_header, length-header, header_again, sum-text}
use Rattle.nfit_tables.proofs.NamesApart.{twice_behind-none}

-- each test is passed
passed : {A : Type 0} (short signed long one summed : Bool) (a b c d e found : A) → short ≡ false → signed ≡ true → long ≡ true → one ≡ true → summed ≡ true
    → cond short a (cond (not signed) b (cond (not long) c (cond (not one) d (cond (not summed) e found)))) ≡ found
passed short signed long one summed a b c d e found h k l m n = rw (h, k, l, m, n) refl

-- bytes with a right header
table_of-passed : (bytes : List ℕ) → 40 ≤ length bytes → take 4 bytes ≡ codes "NFIT" → number_at 4 bytes 4 ≡ length bytes → slice_index bytes 8 ≡ 1 → sum bytes % 256 ≡ 0 → table_of bytes ≡ table_behind bytes
table_of-passed bytes enough signed long one summed =
    passed (nat_lt (length bytes) 40) (bytes_eq (take 4 bytes) (codes "NFIT")) (number_at 4 bytes 4 == length bytes) (slice_index bytes 8 == 1) (sum bytes % 256 == 0) _ _ _ _ _ (table_behind bytes)
    (le-ltb (length bytes) 40 enough) (ap (λ (four : List ℕ). bytes_eq four (codes "NFIT")) signed) (eq-eqb (number_at 4 bytes 4) (length bytes) long) (eq-eqb (slice_index bytes 8) 1 one) (eq-eqb (sum bytes % 256) 0 summed)

-- nothing in it stands twice or too often
checked-proper : (n : Nfit) → IsProper n → checked n ≡ Ok n
checked-proper n proper =
    let once : first_twice n.pieces ≡ None = twice_behind-none (names n.pieces) proper.differ in
    let regions : nat_lt 64 (region_count n.pieces) ≡ false = le-ltb 64 (region_count n.pieces) proper.regions in
    let modules : nat_lt 64 (module_count n.pieces) ≡ false = le-ltb 64 (module_count n.pieces) proper.modules in
    ap (λ (twice : Option (ℕ × ℕ)). named_once twice n) once ∙ rw (regions, modules) refl

-- the structures behind the header, and then the table
behind_again : (bytes : List ℕ) (n : Nfit) → IsProper n → header_in bytes ≡ n.header → pieces_at (length bytes) 40 (drop 40 bytes) ≡ Ok n.pieces → table_behind bytes ≡ Ok n
behind_again bytes n proper head pieces =
    ap (λ (read : Result (List Piece) NfitFault). read >>= λ pieces. checked (record { header = header_in bytes; pieces = pieces })) pieces
    ∙ ap (λ (h : Header). checked (record { header = h; pieces = n.pieces })) head
    ∙ checked-proper n proper

-- what a proper table spells is read as that table
pub table_of-text : (n : Nfit) → IsProper n → table_of (text n) ≡ Ok n
table_of-text n proper =
    let bytes = text n in
    let checksum = checksum_byte n in
    let len = length_of n in
    let rest = spellings n.pieces in
    let count : length bytes ≡ 40 + length rest = length-header checksum len n.header rest proper.header in
    let told : number_at 4 bytes 4 ≡ length bytes = len_at checksum len n.header rest proper.len ∙ sym count in
    let pieces : pieces_at (length bytes) 40 (drop 40 bytes) ≡ Ok n.pieces =
    ap (pieces_at (length bytes) 40) (behind_header checksum len n.header rest proper.header)
    ∙ pieces_again n.pieces (length bytes) 40 proper.pieces proper.kinds proper.short (omega arith) in
    table_of-passed bytes (omega arith) (signature_at checksum len n.header rest) told (revision_at checksum len n.header rest) (sum-text n)
    ∙ behind_again bytes n proper (header_again checksum len n.header rest proper.header) pieces

-- that it was read
abbrev read_as : Nfit → Result Nfit NfitFault
read_as n = Ok n

-- no two proper tables have one text
pub text-once : (m n : Nfit) → IsProper m → IsProper n → text m ≡ text n → m ≡ n
text-once m n proper_m proper_n same =
    let both : read_as m ≡ read_as n = sym (table_of-text m proper_m) ∙ ap table_of same ∙ table_of-text n proper_n in
    cc
