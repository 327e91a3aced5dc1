-- A line of visible characters and spaces is text.
use Rattle.std.proofs.Common.{◌≡◌, ◌⊎◌, inl, inr, ℕ, zero, suc, ◌<◌, ◌≤◌, Bool, true, false, not, None, List, [], ◌∷◌, length, get_or, leb, ltb, ◌∙◌, arith}
use Rattle.std.specs.List.{position, position_or_len}
use Rattle.std.specs.Str.{IsAscii, IsUtf8}
use Rattle.std.proofs.lemmas.Bool.{and_parts, cases_Bool, cond-true, leb-true, ltb-false, not-false}
use Rattle.std.proofs.lemmas.Option.{none-some}
use Rattle.std.proofs.lemmas.Str.{IsUtf8-from_ascii}
use Rattle.cmd_words.specs.Lines.{is_visible_or_space}
use Rattle.cmd_words.proofs.FirstPiece.{step_no, step_yes}

abbrev other : ℕ → Bool
other byte = not (is_visible_or_space byte)

visible_is_ascii : (byte : ℕ) → other byte ≡ false → byte < 128
visible_is_ascii byte plain =
    let within = and_parts (leb 32 byte) (leb byte 126) (not-false _ plain) in
    let le = leb-true byte 126 within.1 in
    omega arith

none_other : (line : List ℕ) → length line ≤ position_or_len other line → IsAscii line
none_other [] past i = omega arith
none_other (x ∷ xs) past i = elim (cases_Bool (other x)) [
  | inl found ↦ let first = step_yes other x xs found in absurd (omega arith)
  | inr plain ↦ let later = step_no other x xs plain in by i (visible_is_ascii x plain) (none_other xs (omega arith))
]
  where
    by : (k : ℕ) → x < 128 → ((j : ℕ) → get_or xs j 0 < 128) → get_or (x ∷ xs) k 0 < 128
    by zero first rest = first
    by (suc j) first rest = rest j

pub line_is_text : (line : List ℕ) → None ≡ position other line → IsUtf8 line
line_is_text line none = IsUtf8-from_ascii line (none_other line (past (cases_Bool (ltb (position_or_len other line) (length line)))))
  where
    past : (ltb (position_or_len other line) (length line) ≡ true) ⊎ (ltb (position_or_len other line) (length line) ≡ false) → length line ≤ position_or_len other line
    past (inl found) = absurd (none-some _ (none ∙ cond-true _ _ _ found))
    past (inr not_found) = ltb-false _ _ not_found
