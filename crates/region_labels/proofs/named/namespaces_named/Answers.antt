use Rattle.std.proofs.Common.{sym, ◌∙◌}
use Rattle.region_labels.specs.Modules.{labels_in}
use Rattle.region_labels.specs.ListedSpaces.{has_name, listed_spaces}
use Rattle.region_labels.proofs.Neighbours.{named-none, named-one, named-several}
use Rattle.region_labels.proofs.named.namespaces_named.Goals as goal

pub returns-in-None : goal.returns-in-None
returns-in-None c =
    named-none (has_name c.args.name.now) (listed_spaces (labels_in c.args.modules.now) c.args.kept.now.region) (sym c.in-None.is ∙ c.tally_of-named.ensures.first)

pub returns-then-named-eq1 : goal.returns-then-named-eq1
returns-then-named-eq1 c =
    named-one (has_name c.args.name.now) (listed_spaces (labels_in c.args.modules.now) c.args.kept.now.region) c.in-Some.first c.tally_of-named.result.count
    (sym c.in-Some.is ∙ c.tally_of-named.ensures.first) c.tally_of-named.ensures.count c.if-named-eq1.true

pub returns-else-named-eq1 : goal.returns-else-named-eq1
returns-else-named-eq1 c =
    named-several (has_name c.args.name.now) (listed_spaces (labels_in c.args.modules.now) c.args.kept.now.region) c.in-Some.first c.tally_of-named.result.count
    (sym c.in-Some.is ∙ c.tally_of-named.ensures.first) c.tally_of-named.ensures.count c.if-named-eq1.false
