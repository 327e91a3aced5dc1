use Rattle.std.proofs.Common.{refl, sym, ◌∙◌, arith}
use Rattle.std.proofs.lemmas.Bool.{eqb-true, eqb-false}
use Rattle.cmd_words.proofs.FirstPiece.{empty_line, pieces_past_spaces, first_split}
use Rattle.cmd_words.proofs.pieces.next_piece.Goals as goal

pub returns-then-is_empty : goal.returns-then-is_empty
returns-then-is_empty c =
    pieces_past_spaces _ _ _ c.trim_start_matches-text.ensures.matches.0.1 ∙ empty_line _ (eqb-true _ _ (sym c.is_empty.ensures ∙ c.if-is_empty.true))

pub returns : goal.returns
returns c =
    let some = eqb-false _ _ (sym c.is_empty.ensures ∙ c.if-is_empty.false) in
    pieces_past_spaces _ _ _ c.trim_start_matches-text.ensures.matches.0.1 ∙ first_split c.trim_start_matches-text.result.now c.split_once.result _ _ c.unwrap_or.ensures refl refl (c.split_once.ensures.byte (omega arith) (λ _ _ f. f)) c.trim_start_matches-text.ensures.matches.1 (omega (arith, some))
