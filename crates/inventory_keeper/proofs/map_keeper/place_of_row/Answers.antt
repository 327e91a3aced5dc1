use Rattle.std.proofs.Common.{◌≤◌, sym, subst, ◌∙◌, tests, rules}
use Rattle.std.specs.Prelude.{length, nat_lt}
use Rattle.std.proofs.lemmas.Iterator.{YieldsList-from_slice}
use Rattle.std.proofs.lemmas.Iterator.Search.{position_from_yields_List}
use Rattle.std.proofs.lemmas.List.Sums.{prefix_len-le-length}
use Rattle.inventory_keeper.proofs.Places.{place_or_len}
use Rattle.inventory_keeper.proofs.map_keeper.place_of_row.Goals as goal

pub returns-clause-place : goal.returns-clause-place
returns-clause-place c =
    let rows = c.args.rows.now in
    let first = position_from_yields_List (λ row. nat_lt c.args.new.now.spa row.spa) _ _ _ c.position.ensures.ran (YieldsList-from_slice rows cc) (λ x b q k. search (rules, tests)) in
    c.unwrap_or.ensures ∙ rw (first) (place_or_len _ _ (prefix_len-le-length _ rows))

pub returns-clause-within : goal.returns-clause-within
returns-clause-within c = subst (λ place. place ≤ length c.args.rows.now) (sym (returns-clause-place c)) (prefix_len-le-length _ c.args.rows.now)
