use Rattle.std.proofs.Common.{◌∙◌, sym, subst}
use Rattle.label_table.specs.Plain.{IsOnly, module_in}
use Rattle.label_table.proofs.OnlyLabels.{only-first}
use Rattle.label_table.proofs.plain.ModuleLabels.only.Goals as goal

pub returns-then-count-eq1 : goal.returns-then-count-eq1
returns-then-count-eq1 c = subst (λ o. IsOnly c.args.uuid.now (module_in c.args.self.now) o) (sym c.first.ensures) (only-first c.args.uuid.now (module_in c.args.self.now) (sym c.count.ensures ∙ c.if-count-eq1.true))
