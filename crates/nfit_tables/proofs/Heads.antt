-- What stands in front of each structure: its type and its length.
use Rattle.std.proofs.Common.{◌≡◌, ℕ, ◌+◌, ◌^◌, ◌<◌, List, ◌++◌, length, drop, sym, ◌∙◌, arith}
use Rattle.byteorder.specs.Numbers.{little_number-reads_back}
use Rattle.byte_ranges.specs.Ranges.{number_at}
use Rattle.nfit_tables.specs.declared.pieces.Piece.{Piece}
use Rattle.nfit_tables.specs.Spelling.{type_of, body_of, spelling}
use Rattle.nfit_tables.specs.Reading.{told_length}

pub length-spelling : (piece : Piece) → length (spelling piece) ≡ 4 + length (body_of piece)
unfolding spelling
length-spelling piece = omega arith

-- its type reads as it was spelled, whatever stands behind it
pub kind_at : (piece : Piece) (rest : List ℕ) → type_of piece < 2 ^ 16 → number_at 2 (spelling piece ++ rest) 0 ≡ type_of piece
unfolding spelling
kind_at piece rest fits = little_number-reads_back 2 (type_of piece) (drop 2 (spelling piece ++ rest)) fits

-- and so does its length
pub told_at : (piece : Piece) (rest : List ℕ) → length (spelling piece) < 2 ^ 16 → told_length (spelling piece ++ rest) ≡ length (spelling piece)
unfolding spelling
told_at piece rest short =
    let told : told_length (spelling piece ++ rest) ≡ 4 + length (body_of piece) = little_number-reads_back 2 (4 + length (body_of piece)) (drop 4 (spelling piece ++ rest)) (omega arith) in
    told ∙ sym (length-spelling piece)
