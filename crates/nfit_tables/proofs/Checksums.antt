-- The checksum byte, put into the bytes of a table.
use Rattle.std.proofs.Common.{◌≡◌, ℕ, ◌+◌, ◌-◌, ◌%◌, ◌<◌, List, ◌++◌, length, refl, ap, ◌∙◌, arith}
use Rattle.std.specs.Prelude.{slice_set, sum}
use Rattle.nfit_tables.specs.declared.pieces.Nfit.{Nfit}
use Rattle.nfit_tables.specs.Spelling.{header_with, length_of, spellings, text, text_with}

-- the header and the structures, appended to nothing
pub parts_appended : (n : Nfit) (len : ℕ) (header bytes : List ℕ) → len ≡ length_of n → header ≡ header_with 0 len n.header → bytes ≡ header ++ spellings n.pieces → bytes ≡ text_with 0 n
parts_appended n len header bytes known start is = is ∙ ap (λ (front : List ℕ). front ++ spellings n.pieces) (start ∙ ap (λ (l : ℕ). header_with 0 l n.header) known)

-- a table has a checksum byte
pub header_long : (n : Nfit) (bytes : List ℕ) → bytes ≡ text_with 0 n → 9 < length bytes
unfolding header_with
header_long n bytes is = rw is (omega arith)

-- with that byte set, the bytes are the text
pub put_checksum : (n : Nfit) (bytes : List ℕ) (total : ℕ) → bytes ≡ text_with 0 n → total ≡ sum bytes % 256 → slice_set bytes 9 ((0 + (256 - total)) % 256) ≡ text n
unfolding header_with
put_checksum n bytes total is total_is =
    let value : 0 + (256 - total) ≡ 256 - sum (text_with 0 n) % 256 = omega (arith, total_is ∙ ap (λ (b : List ℕ). sum b % 256) is) in
    rw (value, is) refl
