use Rattle.std.proofs.Common.{not, tests, rules}
use Rattle.std.proofs.lemmas.Fn.{filter_same}
use Rattle.inventory_keeper.specs.Rows.{has_row}
use Rattle.inventory_keeper.proofs.map_keeper.take_rows.Goals as goal

pub returns-clause-rows : goal.returns-clause-rows
returns-clause-rows c = filter_same _ (λ row. not (has_row c.args.taken.now row)) _ (λ x b q k. search (rules, tests)) _ _ c.retain.ensures.filtered
