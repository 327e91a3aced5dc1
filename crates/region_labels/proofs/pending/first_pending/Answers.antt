use Rattle.std.proofs.Common.{sym, ◌∙◌}
use Rattle.region_labels.specs.Modules.{labels_in}
use Rattle.region_labels.proofs.Pendings.{none-found, none-pending, not_pending}
use Rattle.region_labels.proofs.pending.first_pending.Goals as goal

pub returns-then-not-has_marked-clause-first : goal.returns-then-not-has_marked-clause-first
returns-then-not-has_marked-clause-first c = none-found (labels_in c.args.modules.now) c.args.kept.now.region (sym c.has_marked.ensures ∙ c.if-not-has_marked.true)

pub returns-then-not-has_marked-clause-none : goal.returns-then-not-has_marked-clause-none
returns-then-not-has_marked-clause-none c = λ none uuid. not_pending (labels_in c.args.modules.now) c.args.kept.now.region (sym c.has_marked.ensures ∙ c.if-not-has_marked.true) uuid

pub returns-clause-none : goal.returns-clause-none
returns-clause-none c = λ none uuid. none-pending (labels_in c.args.modules.now) c.args.kept.now.region (sym none ∙ c.tally_of.ensures.first) uuid
