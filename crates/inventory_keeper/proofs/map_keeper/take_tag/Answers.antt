use Rattle.std.proofs.Common.{not, tests, rules}
use Rattle.std.proofs.lemmas.Fn.{filter_same}
use Rattle.inventory_keeper.specs.Tags.{is_of}
use Rattle.inventory_keeper.proofs.map_keeper.take_tag.Goals as goal

pub returns-clause-tags : goal.returns-clause-tags
returns-clause-tags c = filter_same _ (λ tag. not (is_of c.args.uuid.now tag)) _ (λ x b q k. search (rules, tests)) _ _ c.retain.ensures.filtered
