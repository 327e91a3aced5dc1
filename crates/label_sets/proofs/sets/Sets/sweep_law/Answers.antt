use Rattle.std.proofs.Common.{subst}
use Rattle.label_codec.specs.ModuleLabels.{IsBounded}
use Rattle.label_sets.specs.Sets.{StoredSets, labels_in}
use Rattle.module_flips.proofs.Sweeping.{all-bounded}
use Rattle.label_sets.proofs.TightSlots.{swept-where-free}
use Rattle.label_sets.proofs.sets.Sets.sweep_law.Goals as goal

pub returns-clause-swept : goal.returns-clause-swept
returns-clause-swept c = swept-where-free c.self.inside c.self.invariant c.args.self.now c.self.view_is

pub returns-clause-bounded : goal.returns-clause-bounded
returns-clause-bounded c = subst (λ (s : StoredSets). IsBounded (labels_in s)) c.self.view_is (all-bounded c.self.inside.modules.items c.self.invariant.in_use)
