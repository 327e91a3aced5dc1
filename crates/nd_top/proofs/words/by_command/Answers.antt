use Rattle.std.proofs.Common.{◌≡◌, true, false, Some, List, ℕ, [], ◌∷◌, ◌++◌, codes, slice_get, ap, sym, ◌∙◌}
use Rattle.std.specs.Option.{option_map}
use Rattle.std.specs.Str.{bytes_eq}
use Rattle.std.specs.String.{string_bytes}
use Rattle.std.proofs.lemmas.Bool.{cond-true, cond-false, false_from_ne_true}
use Rattle.std.proofs.lemmas.Slice.Eq.{bytes_eq-Decides}
use Rattle.nd_top.specs.Words.{Word, is_command}
use Rattle.nd_top.proofs.words.by_command.Goals as goal

-- the test of the first word
is_command_is : (name : List ℕ) (words : List Word) (command : List ℕ) → Some command ≡ option_map string_bytes (slice_get words 0) → is_command name words ≡ bytes_eq command name
is_command_is name [] command first = cc
is_command_is name (word ∷ words) command first =
    let is : string_bytes word ≡ command = cc in
    ap (λ text. bytes_eq text name) is

-- the word is another than this name
other : (name : List ℕ) (words : List Word) (command : List ℕ) → Some command ≡ option_map string_bytes (slice_get words 0) → ¬ (command ≡ name) → is_command name words ≡ false
other name words command first differs =
    is_command_is name words command first ∙ false_from_ne_true _ (λ same. differs ((bytes_eq-Decides _ _).0 same))

the_same : (name : List ℕ) (words : List Word) (command : List ℕ) → Some command ≡ option_map string_bytes (slice_get words 0) → command ≡ name → is_command name words ≡ true
the_same name words command first is = is_command_is name words command first ∙ (bytes_eq-Decides _ _).1 is

pub returns-in-do : goal.returns-in-do
returns-in-do c =
    c.do_words.ensures ∙ sym (cond-true _ _ _ (the_same (codes "do") (c.args.front.now ++ c.args.back.now) _ c.in_ok-operand.ensures c.in-do.is))

pub returns-in-run : goal.returns-in-run
returns-in-run c =
    let words = c.args.front.now ++ c.args.back.now in
    c.run_words.ensures ∙ sym (cond-true _ _ _ (the_same (codes "run") words _ c.in_ok-operand.ensures c.in-run.is))
    ∙ sym (cond-false _ _ _ (other (codes "do") words _ c.in_ok-operand.ensures c.in-run.not-do))

pub returns-in_default : goal.returns-in_default
returns-in_default c =
    let words = c.args.front.now ++ c.args.back.now in
    c.labels.ensures ∙ sym (cond-false _ _ _ (other (codes "run") words _ c.in_ok-operand.ensures c.in_default.not-run))
    ∙ sym (cond-false _ _ _ (other (codes "do") words _ c.in_ok-operand.ensures c.in_default.not-do))
