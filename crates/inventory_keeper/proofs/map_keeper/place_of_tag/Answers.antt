use Rattle.std.proofs.Common.{◌≤◌, sym, subst, ◌∙◌, tests, rules}
use Rattle.std.specs.Prelude.{length}
use Rattle.std.proofs.lemmas.Iterator.{YieldsList-from_slice}
use Rattle.std.proofs.lemmas.Iterator.Search.{position_from_yields_List}
use Rattle.std.proofs.lemmas.List.Sums.{prefix_len-le-length}
use Rattle.inventory_keeper.specs.Tags.{is_before}
use Rattle.inventory_keeper.proofs.Places.{place_or_len}
use Rattle.inventory_keeper.proofs.map_keeper.place_of_tag.Goals as goal

pub returns-clause-place : goal.returns-clause-place
returns-clause-place c =
    let tags = c.args.tags.now in
    let first = position_from_yields_List (is_before c.args.uuid.now) _ _ _ c.position.ensures.ran (YieldsList-from_slice tags cc) (λ x b q k. search (rules, tests)) in
    c.unwrap_or.ensures ∙ rw (first) (place_or_len _ _ (prefix_len-le-length _ tags))

pub returns-clause-within : goal.returns-clause-within
returns-clause-within c = subst (λ place. place ≤ length c.args.tags.now) (sym (returns-clause-place c)) (prefix_len-le-length _ c.args.tags.now)
