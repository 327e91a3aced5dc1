use Rattle.std.proofs.Common.{sym, ◌∙◌, subst}
use Rattle.label_table.specs.Plain.{labels_in}
use Rattle.table_steps.specs.Plain.{IsInitialiseReply}
use Rattle.table_steps.proofs.Replies.{initialises-foreign, initialises-missing, initialises-new, initialises-ready, initialises-unknown, initialises-wrong_size}
use Rattle.table_steps.proofs.plain.initialise.Goals as goal

pub returns-then-not-has_module : goal.returns-then-not-has_module
returns-then-not-has_module c = initialises-unknown c.args.platform.now (labels_in c.args.modules.now) c.args.dimm c.args.slots (sym c.has_module.ensures ∙ c.if-not-has_module.true)

pub returns-in-Uninit : goal.returns-in-Uninit
returns-in-Uninit c = initialises-new c.args.platform.now (labels_in c.args.modules.now) c.args.dimm c.args.slots (sym c.has_module.ensures ∙ c.if-not-has_module.false) (sym c.kind_of.ensures ∙ c.in-Uninit.is)

pub returns-in-Ready : goal.returns-in-Ready
returns-in-Ready c = initialises-ready c.args.platform.now (labels_in c.args.modules.now) c.args.dimm c.args.slots (sym c.has_module.ensures ∙ c.if-not-has_module.false) (sym c.kind_of.ensures ∙ c.in-Ready.is)

pub returns-in-Missing : goal.returns-in-Missing
returns-in-Missing c = subst (IsInitialiseReply c.args.platform.now (labels_in c.args.modules.now) c.args.dimm c.args.slots) (sym c.not_ready.ensures)
    (initialises-missing c.args.platform.now (labels_in c.args.modules.now) c.args.dimm c.args.slots (sym c.has_module.ensures ∙ c.if-not-has_module.false) (sym c.kind_of.ensures ∙ c.in-Missing.is))

pub returns-in-WrongSize : goal.returns-in-WrongSize
returns-in-WrongSize c = subst (IsInitialiseReply c.args.platform.now (labels_in c.args.modules.now) c.args.dimm c.args.slots) (sym c.not_ready-in-WrongSize.ensures)
    (initialises-wrong_size c.args.platform.now (labels_in c.args.modules.now) c.args.dimm c.args.slots (sym c.has_module.ensures ∙ c.if-not-has_module.false) (sym c.kind_of.ensures ∙ c.in-WrongSize.is))

pub returns-in-Foreign : goal.returns-in-Foreign
returns-in-Foreign c = subst (IsInitialiseReply c.args.platform.now (labels_in c.args.modules.now) c.args.dimm c.args.slots) (sym c.not_ready-in-Foreign.ensures)
    (initialises-foreign c.args.platform.now (labels_in c.args.modules.now) c.args.dimm c.args.slots (sym c.has_module.ensures ∙ c.if-not-has_module.false) (sym c.kind_of.ensures ∙ c.in-Foreign.is))
