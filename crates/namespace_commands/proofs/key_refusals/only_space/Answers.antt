use Rattle.std.proofs.Common.{sym, ◌∙◌}
use Rattle.label_sets.specs.Sets.{labels_in}
use Rattle.table_steps.specs.Namespaces.{fitting}
use Rattle.namespace_commands.proofs.Fitting.{told-one}
use Rattle.namespace_commands.proofs.key_refusals.only_space.Goals as goal

pub returns-else-space-clause-only : goal.returns-else-space-clause-only
returns-else-space-clause-only c = λ r found.
    let L = labels_in c.args.sets.now in
    record {
      only = told-one L r (fitting L r c.args.key.now) c.in-One.space (sym (c.fitting.ensures r found) ∙ c.in-One.is);
      writable = c.if-space.false;
    }
