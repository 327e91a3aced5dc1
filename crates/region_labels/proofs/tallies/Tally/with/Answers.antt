use Rattle.std.proofs.Common.{◌+◌, ◌++◌, Option, Some, sym, subst, ◌∙◌}
use Rattle.std.specs.Option.{option_to_list}
use Rattle.view_types.specs.declared.namespaces.Namespace.{Namespace}
use Rattle.region_labels.specs.Tallies.{IsTally}
use Rattle.region_labels.proofs.CountedSpaces.{filter-some, tally-passes}
use Rattle.region_labels.proofs.tallies.Tally.with.Goals as goal

pub returns : goal.returns
returns c = λ test spaces space is before.
    let found = filter-some test space c.in-Some.space (sym c.in-Some.is ∙ is) in
    subst (λ (o : Option Namespace). IsTally test (spaces ++ option_to_list o) (record { count = c.args.self.count + 1; first = Some c.first_with.result })) (sym found.0)
    (tally-passes test spaces c.in-Some.space c.args.self c.first_with.result before found.1 (c.first_with.ensures test spaces before.first found.1))
