-- The first piece of a text.
use Rattle.std.proofs.Common.{◌≡◌, ℕ, ◌+◌, ◌<◌, Bool, true, false, not, Option, Some, None, List, [], ◌∷◌, ◌++◌, Bor, ltb, length, drop, filter, MatchOption, refl, ap, sym, ◌∙◌, inl, inr, arith, unwrap_or}
use Rattle.std.specs.List.{after_first, before_first, onto_first, position_or_len, slice_split}
use Rattle.std.specs.Str.Pattern.{CutsPrefixes, FindsCharPrefix, IsFullyTrimmed}
use Rattle.std.proofs.lemmas.Bool.{cases_Bool, cond-true, cond-false, ne_eqb, lt-ltb, not_from_true, not_from_false}
use Rattle.std.proofs.lemmas.List.Folds.{length-prefix_len}
use Rattle.std.proofs.lemmas.List.Splits.{slice_split-cons_no, slice_split_first}
use Rattle.std.proofs.lemmas.Str.{encode_ascii}
use Rattle.std.proofs.lemmas.Str.Pattern.{drop_at_char}
use Rattle.cmd_words.specs.Pieces.{is_space, pieces}

-- spaces before a text change no piece
pieces_past_space : (text : List ℕ) → pieces (32 ∷ text) ≡ pieces text
pieces_past_space text = refl

pub pieces_past_spaces : (line text cuts : List ℕ) → CutsPrefixes (FindsCharPrefix 32) line cuts text → pieces line ≡ pieces text
pieces_past_spaces line text [] is = ap pieces (sym is)
pieces_past_spaces line text (n ∷ ns) (before, cut, at, is) =
    let space : before ≡ 32 ∷ drop n before = drop_at_char 32 before 0 n at (omega arith) in
    pieces_past_spaces line before ns cut ∙ ap pieces space ∙ pieces_past_space (drop n before) ∙ ap pieces (sym is)

-- what is left begins with no space
no_space_first : (x : ℕ) (xs : List ℕ) → IsFullyTrimmed (FindsCharPrefix 32) (x ∷ xs) → is_space x ≡ false
no_space_first x xs (None, none, _) = ne_eqb x 32 (λ e. none xs (ap (λ y. y ∷ xs) e ∙ ap (λ cs. cs ++ xs) (sym (encode_ascii 32 (omega arith)))))
no_space_first x xs (Some n, at, none) = absurd (omega (arith, at.ends, none))

pub step_no : {X : Type 0} (p : X → Bool) (x : X) (xs : List X) → p x ≡ false → position_or_len p (x ∷ xs) ≡ 1 + position_or_len p xs
step_no p x xs fails = cond-true _ _ _ (not_from_false _ fails)

pub step_yes : {X : Type 0} (p : X → Bool) (x : X) (xs : List X) → p x ≡ true → position_or_len p (x ∷ xs) ≡ 0
step_yes p x xs passes = cond-false _ _ _ (not_from_true _ passes)

slice_split_past : {X : Type 0} (p : X → Bool) (xs : List X) → position_or_len p xs ≡ length xs → slice_split p xs ≡ xs ∷ []
slice_split_past p [] past = refl
slice_split_past p (x ∷ xs) past = elim (cases_Bool (p x))
    [ inl passes ↦ absurd (omega (arith, past, step_yes p x xs passes)) | inr fails ↦ slice_split-cons_no p x xs fails ∙ ap (onto_first x) (slice_split_past p xs (omega (arith, past, step_no p x xs fails))) ]

first_piece : (x : ℕ) (xs : List ℕ) → is_space x ≡ false → position_or_len is_space (x ∷ xs) < length (x ∷ xs) → pieces (x ∷ xs) ≡ before_first is_space (x ∷ xs) ∷ pieces (after_first is_space (x ∷ xs))
first_piece x xs fails within =
    let some : 0 < length (before_first is_space (x ∷ xs)) = omega (arith, step_no is_space x xs fails, length-prefix_len (λ y. not (is_space y)) (x ∷ xs)) in
    ap (filter (λ piece. ltb 0 (length piece))) (slice_split_first is_space (x ∷ xs) 0 within) ∙ cond-true _ _ _ (lt-ltb _ _ some)

last_piece : (x : ℕ) (xs : List ℕ) → position_or_len is_space (x ∷ xs) ≡ length (x ∷ xs) → pieces (x ∷ xs) ≡ (x ∷ xs) ∷ []
last_piece x xs past = ap (filter (λ piece. ltb 0 (length piece))) (slice_split_past is_space (x ∷ xs) past) ∙ cond-true _ _ _ (lt-ltb 0 (length (x ∷ xs)) (omega arith))

-- the parts round the first space of a text that begins with none, or the text and nothing behind it
pub first_split : (text : List ℕ) (cut : Option (Bor (List ℕ) × Bor (List ℕ))) (whole first : Bor (List ℕ) × Bor (List ℕ)) → first ≡ unwrap_or cut whole → whole.0.now ≡ text → whole.1.now ≡ [] → MatchOption cut (position_or_len is_space text ≡ length text) (λ x. (x.0.now ≡ before_first is_space text) × (x.1.now ≡ after_first is_space text) × (position_or_len is_space text < length text)) → IsFullyTrimmed (FindsCharPrefix 32) text → 0 < length text → pieces text ≡ first.0.now ∷ pieces first.1.now
first_split [] cut whole first is text_is rest_is found trimmed some = absurd (omega arith)
first_split (x ∷ xs) (Some parts) whole first is text_is rest_is found trimmed some =
    rw is (rw (found.0, found.1) (first_piece x xs (no_space_first x xs trimmed) found.2))
first_split (x ∷ xs) None whole first is text_is rest_is found trimmed some = rw is (rw (text_is, rest_is) (last_piece x xs found))

-- a text without bytes has no piece
pub empty_line : (text : List ℕ) → length text ≡ 0 → pieces text ≡ []
empty_line [] none = refl
empty_line (x ∷ xs) none = absurd (omega arith)
