-- An interleave structure that is spelled is read again, line by line.
use Rattle.std.proofs.Common.{◌≡◌, ℕ, ◌+◌, ◌*◌, ◌^◌, ◌<◌, List, [], ◌∷◌, ◌++◌, length, drop, refl, sym, ap, subst, ◌∙◌, arith, All}
use Rattle.std.specs.Prelude.{map}
use Rattle.std.specs.List.{flat_map, range_with_len}
use Rattle.std.proofs.lemmas.List.{drop_at, drop-drop}
use Rattle.std.proofs.lemmas.List.Elements.{All-head, All-tail}
use Rattle.byteorder.specs.Endian.{little_bytes, little_number}
use Rattle.byteorder.specs.Numbers.{little_number-reads_back}
use Rattle.byte_ranges.specs.Ranges.{number_at}
use Rattle.nfit_tables.specs.declared.pieces.InterleavePiece.{InterleavePiece}
use Rattle.nfit_tables.specs.declared.pieces.Piece.TheVariants.{Interleave}
use Rattle.nfit_tables.specs.Spelling.{interleave_fields, spelling}
use Rattle.nfit_tables.specs.Proper.{FitsInterleave}
use Rattle.nfit_tables.specs.Reading.{interleave_in, line_count, lines_in}

abbrev lines_text : List ℕ → List ℕ
lines_text lines = flat_map (little_bytes 4) lines

length-lines_text : (lines : List ℕ) → length (lines_text lines) ≡ 4 * length lines
length-lines_text [] = refl
length-lines_text (line ∷ lines) = omega (arith, length-lines_text lines)

-- the lines from some place on
lines_from : (lines tail bytes : List ℕ) (from : ℕ) → All (λ (line : ℕ). line < 2 ^ 32) lines → drop (16 + 4 * from) bytes ≡ lines_text lines ++ tail
    → map (λ line. number_at 4 bytes (16 + 4 * line)) (range_with_len from (length lines)) ≡ lines
lines_from [] tail bytes from fits there = refl
lines_from (line ∷ lines) tail bytes from fits there =
    let first : number_at 4 bytes (16 + 4 * from) ≡ line = ap (little_number 4) there ∙ little_number-reads_back 4 line (lines_text lines ++ tail) (All-head (λ (n : ℕ). n < 2 ^ 32) line lines fits) in
    let behind : drop (16 + 4 * (from + 1)) bytes ≡ lines_text lines ++ tail =
    subst (λ (at : ℕ). drop at bytes ≡ lines_text lines ++ tail) (omega arith) (sym (drop-drop 4 (16 + 4 * from) bytes) ∙ ap (drop 4) there) in
    let others = lines_from lines tail bytes (from + 1) (All-tail (λ (n : ℕ). n < 2 ^ 32) line lines fits) behind in
    λ i. first i ∷ others i

pub length-interleave_fields : (p : InterleavePiece) → length (interleave_fields p) ≡ 12 + 4 * length p.lines
unfolding interleave_fields
length-interleave_fields p = omega (arith, length-lines_text p.lines)

-- the number of lines, whatever stands behind
pub count_at : (p : InterleavePiece) (rest : List ℕ) → length p.lines < 2 ^ 32 → line_count (spelling (Interleave p) ++ rest) ≡ length p.lines
unfolding interleave_fields spelling
count_at p rest few = little_number-reads_back 4 (length p.lines) (drop 12 (spelling (Interleave p) ++ rest)) few

pub interleave_again : (p : InterleavePiece) → FitsInterleave p → length p.lines < 2 ^ 32 → interleave_in (spelling (Interleave p)) ≡ p
unfolding interleave_fields spelling interleave_in
interleave_again p fits few =
    let bytes = spelling (Interleave p) in
    let index : number_at 2 bytes 4 ≡ p.index = little_number-reads_back 2 p.index (drop 6 bytes) fits.index in
    let reserved : number_at 2 bytes 6 ≡ p.reserved = little_number-reads_back 2 p.reserved (drop 8 bytes) fits.reserved in
    let size : number_at 4 bytes 12 ≡ p.line_size = little_number-reads_back 4 p.line_size (drop 16 bytes) fits.line_size in
    let count : line_count bytes ≡ length p.lines = little_number-reads_back 4 (length p.lines) (drop 12 bytes) few in
    let lines : lines_in (line_count bytes) bytes ≡ p.lines = ap (λ (n : ℕ). lines_in n bytes) count ∙ lines_from p.lines p.tail bytes 0 fits.lines refl in
    let tail : drop (16 + 4 * line_count bytes) bytes ≡ p.tail =
    ap (λ (n : ℕ). drop (16 + 4 * n) bytes) count ∙ sym (drop-drop (4 * length p.lines) 16 bytes) ∙ drop_at (lines_text p.lines) p.tail (4 * length p.lines) (length-lines_text p.lines) in
    λ i. record { index = index i; reserved = reserved i; line_size = size i; lines = lines i; tail = tail i }
