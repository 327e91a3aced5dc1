use Rattle.std.proofs.Common.{sym, ◌∙◌, rules}
use Rattle.rig_trait.proofs.Frames.{reads_on}
use Rattle.label_area.proofs.AreaKinds.{foreign}
use Rattle.label_area.proofs.Shown.{kind_looked}
use Rattle.label_area.proofs.init.uninit_layout.Goals as goal

pub returns-in_err-kinds-clause-reads_only : goal.returns-in_err-kinds-clause-reads_only
returns-in_err-kinds-clause-reads_only g c = search (rules, reads_on)

pub returns-in-Uninit-clause-reads_only : goal.returns-in-Uninit-clause-reads_only
returns-in-Uninit-clause-reads_only g c = search (rules, reads_on)

pub returns-in-Ready-clause-refused : goal.returns-in-Ready-clause-refused
returns-in-Ready-clause-refused g c told =
    let read = c.size.ensures.reads_only in
    kind_looked c.in-Some.size c.in-Some-of.layouts (g.R.Shown.areas c.args.rig.now) (g.R.Shown.areas c.size.new.self) c.args.dimm c.in_ok-kinds.kinds read.areas
    (sym (c.in_ok-size.ensures.size told) ∙ c.in-Some.is) c.in-Some-of.ensures.exact (c.in_ok-kinds.ensures.kinds (read.goes_on.tells ∙ told))
    ∙ sym c.in-Ready.ensures

pub returns-in-Ready-clause-reads_only : goal.returns-in-Ready-clause-reads_only
returns-in-Ready-clause-reads_only g c = search (rules, reads_on)

pub returns-in_default-kind-clause-refused : goal.returns-in_default-kind-clause-refused
returns-in_default-kind-clause-refused g c told =
    let read = c.size.ensures.reads_only in
    kind_looked c.in-Some.size c.in-Some-of.layouts (g.R.Shown.areas c.args.rig.now) (g.R.Shown.areas c.size.new.self) c.args.dimm c.in_ok-kinds.kinds read.areas
    (sym (c.in_ok-size.ensures.size told) ∙ c.in-Some.is) c.in-Some-of.ensures.exact (c.in_ok-kinds.ensures.kinds (read.goes_on.tells ∙ told))
    ∙ foreign c.in_ok-kinds.kinds (λ e. c.in_default-kind.not-Uninit (c.kind.ensures ∙ e)) (λ e. c.in_default-kind.not-Ready (c.kind.ensures ∙ e))

pub returns-in_default-kind-clause-reads_only : goal.returns-in_default-kind-clause-reads_only
returns-in_default-kind-clause-reads_only g c = search (rules, reads_on)
