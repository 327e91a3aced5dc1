use Rattle.std.proofs.Common.{sym, subst, ◌∙◌}
use Rattle.region_labels.specs.Tallies.{IsFirst}
use Rattle.region_labels.proofs.Ordered.{first-new, first-old, first-only}
use Rattle.region_labels.proofs.tallies.Tally.first_with.Goals as goal

pub returns-then-is_before : goal.returns-then-is_before
returns-then-is_before c = λ test spaces is passes.
    first-new test spaces c.args.space c.in-Some.first (subst (IsFirst test spaces) c.in-Some.is is) passes (sym c.is_before.ensures ∙ c.if-is_before.true)

pub returns-else-is_before : goal.returns-else-is_before
returns-else-is_before c = λ test spaces is passes.
    first-old test spaces c.args.space c.in-Some.first (subst (IsFirst test spaces) c.in-Some.is is) (sym c.is_before.ensures ∙ c.if-is_before.false)

pub returns-in-None : goal.returns-in-None
returns-in-None c = λ test spaces is passes.
    first-only test spaces c.args.space (subst (IsFirst test spaces) c.in-None.is is) passes
