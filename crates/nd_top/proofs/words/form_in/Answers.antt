use Rattle.std.proofs.Common.{sym, ◌∙◌, rules, tests}
use Rattle.std.proofs.lemmas.Bool.{cond-false}
use Rattle.std.proofs.lemmas.Iterator.{YieldsList-from_slice}
use Rattle.std.proofs.lemmas.Iterator.Search.{any_from_yields_List}
use Rattle.nd_top.specs.Words.{is_option}
use Rattle.nd_top.proofs.words.form_in.Goals as goal

pub returns : goal.returns
returns c =
    let any = any_from_yields_List is_option _ _ _ c.any.ensures.ran (YieldsList-from_slice c.args.front.now cc) (λ x b q k. search (rules, tests)) in
    c.by_command.ensures ∙ sym (cond-false _ _ _ (sym any ∙ c.if-any.false))
