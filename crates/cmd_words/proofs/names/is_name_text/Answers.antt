use Rattle.std.proofs.Common.{◌&&◌, ap, sym, ◌∙◌, rules, tests}
use Rattle.std.specs.List.{list_all}
use Rattle.std.proofs.lemmas.Bool.{le-leb}
use Rattle.std.proofs.lemmas.Iterator.{YieldsList-from_slice}
use Rattle.std.proofs.lemmas.Iterator.Search.{all_from_yields_List}
use Rattle.cmd_words.specs.Names.{is_name_character}
use Rattle.cmd_words.proofs.names.is_name_text.Goals as goal

pub returns-then-text-le-MOST_CHARACTERS : goal.returns-then-text-le-MOST_CHARACTERS
returns-then-text-le-MOST_CHARACTERS c =
    let all = all_from_yields_List is_name_character _ _ _ c.all.ensures.ran (YieldsList-from_slice c.args.text.now cc) (λ x b q k. search (rules, tests)) in
    all ∙ sym (ap (λ short. short && list_all is_name_character c.args.text.now) (le-leb _ _ c.if-text-le-MOST_CHARACTERS.true))
