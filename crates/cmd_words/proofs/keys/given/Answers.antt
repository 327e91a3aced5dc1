use Rattle.std.proofs.Common.{None, Some, refl, ap, ◌∙◌, rules, tests}
use Rattle.std.specs.Option.{option_and_then, option_copied}
use Rattle.std.proofs.lemmas.Iterator.Consumers.{YieldsList-from_first}
use Rattle.std.proofs.lemmas.Iterator.Search.{find_from_yields_List}
use Rattle.cmd_words.specs.Pieces.{pieces}
use Rattle.cmd_words.specs.Keys.{gives, value_for}
use Rattle.cmd_words.specs.declared.pieces.Pieces.{Pieces}
use Rattle.cmd_words.proofs.keys.given.Goals as goal

pub returns : goal.returns
returns c =
    let all = YieldsList-from_first (λ x. x.now) (λ (s : Pieces). pieces s.0.now) (pieces c.args.text.now) refl in
    let found = find_from_yields_List (gives c.args.key) c.find.new.self _ (Some c.in_ok-piece.piece) c.in_ok-piece.ensures.ran all (λ x b q k. search (rules, tests)) in
    c.value_for.ensures ∙ ap (option_and_then (value_for c.args.key)) found

pub returns-in_err-piece : goal.returns-in_err-piece
returns-in_err-piece c =
    let all = YieldsList-from_first (λ x. x.now) (λ (s : Pieces). pieces s.0.now) (pieces c.args.text.now) refl in
    let none = find_from_yields_List (gives c.args.key) c.find.new.self _ None c.in_err-piece.ensures.ran all (λ x b q k. search (rules, tests)) in
    ap option_copied c.from_residual.ensures ∙ ap (option_and_then (value_for c.args.key)) none
