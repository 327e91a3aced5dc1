use Rattle.std.proofs.Common.{sym, ap, ◌∙◌}
use Rattle.std.specs.Option.{option_copied}
use Rattle.region_labels.specs.Modules.{labels_in}
use Rattle.region_labels.proofs.Leading.{none-led-of}
use Rattle.region_labels.proofs.tallies.namespace_of.Goals as goal

pub returns-then-not-may_lead : goal.returns-then-not-may_lead
returns-then-not-may_lead c =
    none-led-of (labels_in c.args.modules.now) c.args.kept.now.region c.args.sought.now (option_copied c.args.label) c.in-Some.label.now (ap option_copied c.in-Some.is) c.requires.leads (sym c.may_lead.ensures ∙ c.if-not-may_lead.true)
