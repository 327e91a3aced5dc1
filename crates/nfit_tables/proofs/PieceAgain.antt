-- A structure that is spelled is a structure, and is read again.
use Rattle.std.proofs.Common.{◌≡◌, ℕ, ◌+◌, ◌*◌, ◌^◌, ◌<◌, Bool, true, false, cond, List, [], ◌++◌, length, drop, refl, sym, ap, ◌∙◌, arith}
use Rattle.std.specs.Prelude.{◌&&◌, ◌||◌, ◌==◌, nat_le}
use Rattle.std.proofs.lemmas.Bool.{le-leb, and_from}
use Rattle.std.proofs.lemmas.List.{append-nil, length-append}
use Rattle.byte_ranges.specs.Ranges.{number_at}
use Rattle.nfit_tables.specs.declared.pieces.KeptPiece.{KeptPiece}
use Rattle.nfit_tables.specs.declared.pieces.Piece.{Piece}
use Rattle.nfit_tables.specs.declared.pieces.Piece.TheVariants.{Range, Mapping, Interleave, Control, Kept}
use Rattle.nfit_tables.specs.Spelling.{type_of, spelling, range_fields, mapping_fields, interleave_fields, control_fields}
use Rattle.nfit_tables.specs.Proper.{FitsPiece, is_kept_as_known}
use Rattle.nfit_tables.specs.Reading.{told_length, line_count, has_least, is_structure, piece_by, piece_in, range_in, mapping_in, interleave_in, control_in}
use Rattle.nfit_tables.proofs.Heads.{length-spelling, kind_at, told_at}
use Rattle.nfit_tables.proofs.RangeAgain.{length-range_fields, range_again}
use Rattle.nfit_tables.proofs.MappingAgain.{length-mapping_fields, mapping_again}
use Rattle.nfit_tables.proofs.InterleaveAgain.{length-interleave_fields, count_at, interleave_again}
use Rattle.nfit_tables.proofs.ControlAgain.{length-control_fields, control_again}

-- a type that is none of the known ones
unknown : {A : Type 0} (a b c d : Bool) (v w x y z : A) → (a || b || c || d) ≡ false → cond a v (cond b w (cond c x (cond d y z))) ≡ z
unknown false false false false v w x y z e = refl
unknown true b c d v w x y z e = absurd cc
unknown false true c d v w x y z e = absurd cc
unknown false false true d v w x y z e = absurd cc
unknown false false false true v w x y z e = absurd cc

-- its type fits its field
kind_fits : (piece : Piece) → FitsPiece piece → type_of piece < 2 ^ 16
kind_fits (Range p) fits = omega arith
kind_fits (Mapping p) fits = omega arith
kind_fits (Interleave p) fits = omega arith
kind_fits (Control p) fits = omega arith
kind_fits (Kept p) fits = fits.kind

-- the type of a structure with nothing behind it
kind_alone : (piece : Piece) → FitsPiece piece → number_at 2 (spelling piece) 0 ≡ type_of piece
kind_alone piece fits = ap (λ (bytes : List ℕ). number_at 2 bytes 0) (sym (append-nil (spelling piece))) ∙ kind_at piece [] (kind_fits piece fits)

kept_again : (p : KeptPiece) → drop 4 (spelling (Kept p)) ≡ p.tail
unfolding spelling
kept_again p = refl

-- read by its type
by_kind : (piece : Piece) → FitsPiece piece → is_kept_as_known piece ≡ false → length (spelling piece) < 2 ^ 16 → piece_by (type_of piece) (spelling piece) ≡ piece
by_kind (Range p) fits kept short = ap Range (range_again p fits)
by_kind (Mapping p) fits kept short = ap Mapping (mapping_again p fits)
by_kind (Interleave p) fits kept short =
    let few : length p.lines < 2 ^ 32 = omega (arith, length-spelling (Interleave p), length-append (interleave_fields p) p.tail, length-interleave_fields p) in
    ap Interleave (interleave_again p fits few)
by_kind (Control p) fits kept short = ap Control (control_again p fits)
by_kind (Kept p) fits kept short =
    let bytes = spelling (Kept p) in
    let chosen = unknown (p.kind == 0) (p.kind == 1) (p.kind == 2) (p.kind == 4) (Range (range_in bytes)) (Mapping (mapping_in bytes)) (Interleave (interleave_in bytes)) (Control (control_in bytes))
    (Kept (record { kind = p.kind; tail = drop 4 bytes })) kept in
    chosen ∙ (λ i. Kept (record { kind = p.kind; tail = kept_again p i }))

-- the bytes of a structure are read as that structure
pub piece_again : (piece : Piece) → FitsPiece piece → is_kept_as_known piece ≡ false → length (spelling piece) < 2 ^ 16 → piece_in (spelling piece) ≡ piece
piece_again piece fits kept short = ap (λ (kind : ℕ). piece_by kind (spelling piece)) (kind_alone piece fits) ∙ by_kind piece fits kept short

-- its length is at least the least one of its type
least_holds : (piece : Piece) (rest : List ℕ) → FitsPiece piece → is_kept_as_known piece ≡ false → length (spelling piece) < 2 ^ 16
    → has_least (type_of piece) (length (spelling piece)) (spelling piece ++ rest) ≡ true
least_holds (Range p) rest fits kept short =
    le-leb 56 (length (spelling (Range p))) (omega (arith, length-spelling (Range p), length-append (range_fields p) p.tail, length-range_fields p fits))
least_holds (Mapping p) rest fits kept short =
    le-leb 48 (length (spelling (Mapping p))) (omega (arith, length-spelling (Mapping p), length-append (mapping_fields p) p.tail, length-mapping_fields p))
least_holds (Interleave p) rest fits kept short =
    let whole : length (spelling (Interleave p)) ≡ 16 + 4 * length p.lines + length p.tail = omega (arith, length-spelling (Interleave p), length-append (interleave_fields p) p.tail, length-interleave_fields p) in
    let count = count_at p rest (omega arith) in
    and_from (nat_le 16 (length (spelling (Interleave p)))) (nat_le (16 + 4 * line_count (spelling (Interleave p) ++ rest)) (length (spelling (Interleave p))))
    (le-leb 16 (length (spelling (Interleave p))) (omega arith))
    (le-leb (16 + 4 * line_count (spelling (Interleave p) ++ rest)) (length (spelling (Interleave p))) (omega arith))
least_holds (Control p) rest fits kept short =
    le-leb 32 (length (spelling (Control p))) (omega (arith, length-spelling (Control p), length-append (control_fields p) p.tail, length-control_fields p))
least_holds (Kept p) rest fits kept short =
    let bytes = spelling (Kept p) ++ rest in
    let len = length (spelling (Kept p)) in
    let chosen = unknown (p.kind == 0) (p.kind == 1) (p.kind == 2) (p.kind == 4) (nat_le 56 len) (nat_le 48 len) (nat_le 16 len && nat_le (16 + 4 * line_count bytes) len) (nat_le 32 len) (nat_le 4 len) kept in
    chosen ∙ le-leb 4 len (omega (arith, length-spelling (Kept p)))

-- a whole structure stands in front of whatever stands behind it
pub structure_again : (piece : Piece) (rest : List ℕ) → FitsPiece piece → is_kept_as_known piece ≡ false → length (spelling piece) < 2 ^ 16 → is_structure (spelling piece ++ rest) ≡ true
structure_again piece rest fits kept short =
    let bytes = spelling piece ++ rest in
    let told = told_at piece rest short in
    let long = length-append (spelling piece) rest in
    let least : has_least (number_at 2 bytes 0) (told_length bytes) bytes ≡ true =
    (λ i. has_least (kind_at piece rest (kind_fits piece fits) i) (told i) bytes) ∙ least_holds piece rest fits kept short in
    and_from (nat_le 4 (length bytes) && nat_le (told_length bytes) (length bytes)) (has_least (number_at 2 bytes 0) (told_length bytes) bytes)
    (and_from (nat_le 4 (length bytes)) (nat_le (told_length bytes) (length bytes)) (le-leb 4 (length bytes) (omega (arith, length-spelling piece))) (le-leb (told_length bytes) (length bytes) (omega arith))) least
