use Rattle.std.proofs.Common.{◌≡◌, ℕ, ◌+◌, ◌<◌, length, get_or, take, nat_lt, arith, ap, ◌∙◌, List}
use Rattle.std.specs.Prelude.{IsTrue, nat_le}
use Rattle.std.specs.List.{list_all}
use Rattle.std.proofs.lemmas.Bool.{and_parts, leb-true}
use Rattle.std.proofs.lemmas.List.Folds.{length-flat_map-take}
use Rattle.nfit_tables.specs.declared.pieces.Nfit.{Nfit}
use Rattle.nfit_tables.specs.declared.pieces.Piece.{Piece}
use Rattle.nfit_tables.specs.Spelling.{length_of, spelling, spellings}
use Rattle.nfit_tables.specs.Fitting.{fits}
use Rattle.nfit_tables.proofs.writing.table_len.Goals as goal

-- structures that are already too long
too_long : (n : Nfit) (i : ℕ) (p : Piece) → i < length n.pieces → p ≡ get_or n.pieces i p → 1048576 < 40 + length (spellings (take i n.pieces)) + length (spelling p) → IsTrue (fits n) → ⊥
too_long n i p inside is long all_fit =
    let most = leb-true (length_of n) 1048576 (and_parts (list_all (λ q. nat_lt (length (spelling q)) 65536) n.pieces) (nat_le (length_of n) 1048576) all_fit).1 in
    omega (arith, most, length-flat_map-take spelling n.pieces i p inside, ap (λ (q : Piece). length (spelling q)) is)

pub returns-then-len-gt-MOST_BYTES : goal.returns-then-len-gt-MOST_BYTES
returns-then-len-gt-MOST_BYTES c =
    let len = c.in_ok-piece_len.ensures.1 in
    too_long c.args.nfit.now c.loop-piece.piece-index c.piece-item.result (omega (arith, ap length c.as_slice-piece-items.ensures))
    (c.piece-item.is ∙ ap (λ (ps : List Piece). get_or ps c.loop-piece.piece-index c.piece-item.result) c.as_slice-piece-items.ensures)
    (omega (arith, len))
