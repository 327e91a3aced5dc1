-- Structures that are spelled one after the other are read again.
use Rattle.std.proofs.Common.{◌≡◌, ℕ, zero, suc, ◌+◌, ◌^◌, ◌<◌, ◌≤◌, true, false, List, [], ◌∷◌, ◌++◌, length, take, drop, Result, Ok, Err, refl, ap, ◌∙◌, arith, All}
use Rattle.std.proofs.lemmas.Bool.{cond-true}
use Rattle.std.proofs.lemmas.List.{length-append, take_at, drop_at}
use Rattle.std.proofs.lemmas.List.Elements.{All-head, All-tail}
use Rattle.nfit_tables.specs.declared.fault.NfitFault.{NfitFault}
use Rattle.nfit_tables.specs.declared.fault.NfitFault.TheVariants.{Structure}
use Rattle.nfit_tables.specs.declared.pieces.Piece.{Piece}
use Rattle.nfit_tables.specs.Spelling.{spelling, spellings}
use Rattle.nfit_tables.specs.Proper.{FitsPiece, is_kept_as_known}
use Rattle.nfit_tables.specs.Reading.{◌>>=◌, told_length, is_structure, piece_in, pieces_at}
use Rattle.nfit_tables.proofs.Heads.{length-spelling, told_at}
use Rattle.nfit_tables.proofs.PieceAgain.{piece_again, structure_again}

-- what follows a first structure of some length
after_first : ℕ → ℕ → ℕ → List ℕ → Result (List Piece) NfitFault
after_first most at len bytes = pieces_at most (at + len) (drop len bytes) >>= λ more. Ok (piece_in (take len bytes) ∷ more)

first_then : (most at : ℕ) (bytes : List ℕ) → 1 ≤ length bytes → is_structure bytes ≡ true → pieces_at (suc most) at bytes ≡ after_first most at (told_length bytes) bytes
unfolding pieces_at after_first
first_then most at [] some is = absurd (omega arith)
first_then most at (byte ∷ bytes) some is =
    cond-true (is_structure (byte ∷ bytes)) (after_first most at (told_length (byte ∷ bytes)) (byte ∷ bytes)) (Err (Structure at)) is

-- the first of them is as it was spelled, where the others are
first_again : (piece : Piece) (pieces : List Piece) (most at : ℕ) → piece_in (spelling piece) ≡ piece
    → pieces_at most (at + length (spelling piece)) (spellings pieces) ≡ Ok pieces
    → after_first most at (length (spelling piece)) (spelling piece ++ spellings pieces) ≡ Ok (piece ∷ pieces)
unfolding after_first
first_again piece pieces most at one others =
    let front = take_at (spelling piece) (spellings pieces) (length (spelling piece)) refl in
    let behind = drop_at (spelling piece) (spellings pieces) (length (spelling piece)) refl in
    rw (front, behind, others, one) refl

-- where the bound on their number is at least the number of bytes
pub pieces_again : (pieces : List Piece) (most at : ℕ) → All FitsPiece pieces → All (λ (p : Piece). is_kept_as_known p ≡ false) pieces → All (λ (p : Piece). length (spelling p) < 2 ^ 16) pieces
    → length (spellings pieces) ≤ most → pieces_at most at (spellings pieces) ≡ Ok pieces
unfolding pieces_at
pieces_again [] most at fits kept short enough = refl
pieces_again (piece ∷ pieces) zero at fits kept short enough =
    absurd (omega (arith, length-append (spelling piece) (spellings pieces), length-spelling piece))
pieces_again (piece ∷ pieces) (suc most) at fits kept short enough =
    let whole = length-append (spelling piece) (spellings pieces) in
    let least = length-spelling piece in
    let bytes = spelling piece ++ spellings pieces in
    let first_fits = All-head FitsPiece piece pieces fits in
    let first_kept = All-head (λ (p : Piece). is_kept_as_known p ≡ false) piece pieces kept in
    let first_short = All-head (λ (p : Piece). length (spelling p) < 2 ^ 16) piece pieces short in
    let is = structure_again piece (spellings pieces) first_fits first_kept first_short in
    let one = piece_again piece first_fits first_kept first_short in
    let others = pieces_again pieces most (at + length (spelling piece)) (All-tail FitsPiece piece pieces fits) (All-tail (λ (p : Piece). is_kept_as_known p ≡ false) piece pieces kept)
    (All-tail (λ (p : Piece). length (spelling p) < 2 ^ 16) piece pieces short) (omega arith) in
    first_then most at bytes (omega arith) is ∙ ap (λ (len : ℕ). after_first most at len bytes) (told_at piece (spellings pieces) first_short) ∙ first_again piece pieces most at one others
