use Rattle.std.proofs.Common.{ℕ, ◌+◌, ◌-◌, List, [], ◌∷◌, ◌++◌, length, take, drop, sym, ap, subst, ◌∙◌, arith}
use Rattle.std.proofs.lemmas.List.{length-drop}
use Rattle.nfit_tables.specs.declared.pieces.Piece.{Piece}
use Rattle.nfit_tables.specs.Reading.{is_structure, piece_in, pieces_at}
use Rattle.nfit_tables.proofs.Loop.{IsWhole, ends, four, goes_on, has_least-cut, is_done, length_told, none_told, nothing_before, rest_cut, with_front}
use Rattle.nfit_tables.proofs.reading.pieces.Goals as goal

pub loop-at-init : goal.loop-at-init
loop-at-init c = record {
  within = c.requires.header;
  read = (length c.args.bytes.now, omega arith, rw c.new-pieces.ensures (nothing_before (pieces_at (length c.args.bytes.now) 40 (drop 40 c.args.bytes.now))));
}

pub returns-in_default : goal.returns-in_default
returns-in_default c =
    let bytes = c.args.bytes.now in
    let at = c.loop-at.at in
    let read = c.loop-at.invariant.read in
    let none = ap is_structure (sym (rest_cut at bytes)) ∙ none_told (take (length bytes - at) (drop at bytes)) c.in_default.ensures in
    ends c.loop-at.pieces read.0 at bytes (pieces_at (length bytes) 40 (drop 40 bytes)) c.loop-at-test.true read.1 none read.2

pub piece-requires-clause-least : goal.piece-requires-clause-least
piece-requires-clause-least c =
    let rest = take (length c.args.bytes.now - c.loop-at.at) (drop c.loop-at.at c.args.bytes.now) in
    has_least-cut rest c.in-Some.len (length_told c.in-Some.len rest c.in-Some.ensures)

pub loop-at-preserved : goal.loop-at-preserved
loop-at-preserved c =
    let bytes = c.args.bytes.now in
    let at = c.loop-at.at in
    let len = c.in-Some.len in
    let front = c.loop-at.pieces in
    let read = c.loop-at.invariant.read in
    let same = rest_cut at bytes in
    let whole = subst (λ (rest : List ℕ). IsWhole rest len) same (length_told len (take (length bytes - at) (drop at bytes)) c.in-Some.ensures) in
    let next = goes_on front read.0 at len bytes (pieces_at (length bytes) 40 (drop 40 bytes)) c.loop-at-test.true read.1 whole read.2 in
    let piece = c.in_ok-piece.ensures ∙ ap (λ (rest : List ℕ). piece_in (take len rest)) same in
    let pushed = c.in_ok-push.ensures.ok ∙ ap (λ (p : Piece). front ++ p ∷ []) piece in
    record {
      within = omega (arith, (four (drop at bytes) len whole).1, length-drop at bytes);
      read = (next.0, next.1, ap (λ (ps : List Piece). with_front ps (pieces_at next.0 (at + len) (drop (at + len) bytes))) pushed ∙ next.2);
    }

pub returns : goal.returns
returns c =
    let bytes = c.args.bytes.now in
    let read = c.loop-at.invariant.read in
    is_done c.loop-at.pieces read.0 c.loop-at.at bytes (pieces_at (length bytes) 40 (drop 40 bytes)) (omega arith) read.2
