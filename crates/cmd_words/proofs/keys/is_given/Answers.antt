use Rattle.std.proofs.Common.{refl, rules, tests}
use Rattle.std.proofs.lemmas.Iterator.{YieldsList-from_take}
use Rattle.std.proofs.lemmas.Iterator.Consumers.{YieldsList-at, YieldsList-from_first}
use Rattle.std.proofs.lemmas.Iterator.Search.{any_from_yields_List}
use Rattle.cmd_words.specs.Pieces.{pieces}
use Rattle.cmd_words.specs.Keys.{gives}
use Rattle.cmd_words.specs.declared.pieces.Pieces.{Pieces}
use Rattle.cmd_words.proofs.keys.is_given.Goals as goal

pub returns : goal.returns
returns c =
    let all = YieldsList-from_first (λ x. x.now) (λ (s : Pieces). pieces s.0.now) (pieces c.args.text.now) refl in
    let first = YieldsList-from_take c.args.count (YieldsList-at c.take.ensures.source all) c.take.ensures.count in
    any_from_yields_List (gives c.args.key) c.any.new.self _ _ c.any.ensures.ran first (λ x b q k. search (rules, tests))
