use Rattle.std.proofs.Common.{[], ◌∷◌, ◌∙◌}
use Rattle.label_sets.specs.Sets.{labels_in}
use Rattle.table_steps.specs.Refusals.{no_slots}
use Rattle.namespace_commands.proofs.KeyedRefusals.{destroy-first}
use Rattle.namespace_commands.proofs.key_refusals.doomed_space.Goals as goal

pub returns-in-Err-clause-refused : goal.returns-in-Err-clause-refused
returns-in-Err-clause-refused c = c.in-Err.ensures.refused (no_slots c.args.platform.now (labels_in c.args.sets.now) 1 c.args.index ∷ [])

pub returns-in-Some-clause-refused : goal.returns-in-Some-clause-refused
returns-in-Some-clause-refused c =
    destroy-first c.args.platform.now c.args.sets.now c.requires c.args.index c.args.key.now c.in-Ok.space c.in-Ok.ensures.chosen c.no_slots.result c.no_slots.ensures ∙ c.in-Some.is

pub returns-in-None-clause-unrefused : goal.returns-in-None-clause-unrefused
returns-in-None-clause-unrefused c =
    destroy-first c.args.platform.now c.args.sets.now c.requires c.args.index c.args.key.now c.in-Ok.space c.in-Ok.ensures.chosen c.no_slots.result c.no_slots.ensures ∙ c.in-None.is
