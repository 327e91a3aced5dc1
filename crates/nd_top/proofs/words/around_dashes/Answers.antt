use Rattle.std.proofs.Common.{◌≡◌, ℕ, ◌+◌, ◌≤◌, Option, Some, None, List, cond, ltb, length, take, drop, ap, sym, ◌∙◌, arith, rules, tests, inl, inr}
use Rattle.std.specs.List.{position_or_len}
use Rattle.std.proofs.lemmas.Bool.{cases_Bool, cond-true, ltb-false}
use Rattle.std.proofs.lemmas.List.{take_rest, take_all, drop_all}
use Rattle.std.proofs.lemmas.Option.{cond_some, none-some}
use Rattle.std.proofs.lemmas.Iterator.{YieldsList-from_slice}
use Rattle.std.proofs.lemmas.Iterator.Search.{position_from_yields_List}
use Rattle.nd_top.specs.Words.{Word, is_dashes}
use Rattle.nd_top.proofs.words.around_dashes.Goals as goal

-- what `position` says
abbrev IsFirst : List Word → Option ℕ → Type 0
IsFirst words r = r ≡ cond (ltb (position_or_len is_dashes words) (length words)) (Some (position_or_len is_dashes words)) None

place_is : (words : List Word) (i : ℕ) → IsFirst words (Some i) → i ≡ position_or_len is_dashes words
place_is words i found = sym (cond_some _ _ _ (sym found)).1

is_past : (words : List Word) → IsFirst words None → length words ≤ position_or_len is_dashes words
is_past words none = elim (cases_Bool (ltb (position_or_len is_dashes words) (length words)))
    [ inl found ↦ absurd (none-some _ (none ∙ cond-true _ _ _ found)) | inr not_found ↦ ltb-false _ _ not_found ]

pub returns-in-Some : goal.returns-in-Some
returns-in-Some c =
    let words = c.args.words.now in
    let found : IsFirst words (Some c.in-Some.dashes) = position_from_yields_List is_dashes _ _ _ c.in-Some.ensures.ran (YieldsList-from_slice words cc) (λ x b q k. search (rules, tests)) in
    let place = place_is words _ found in
    record {
      front = ap (λ n. take n words) place;
      back = take_rest words (c.in-Some.dashes + 1) ∙ ap (λ n. drop (n + 1) words) place;
    }

pub returns-in-None : goal.returns-in-None
returns-in-None c =
    let words = c.args.words.now in
    let none : IsFirst words None = position_from_yields_List is_dashes _ _ _ c.in-None.ensures.ran (YieldsList-from_slice words cc) (λ x b q k. search (rules, tests)) in
    let past = is_past words none in
    record { front = sym (take_all _ words past); back = sym (drop_all _ words (omega arith)) }
