use Rattle.std.proofs.Common.{[], ◌∷◌, sym, ◌∙◌}
use Rattle.label_sets.specs.Sets.{labels_in}
use Rattle.table_steps.specs.Refusals.{by_region, no_slots}
use Rattle.table_steps.specs.Rename.{name_taken_in}
use Rattle.namespace_commands.proofs.KeyedRefusals.{rename-first}
use Rattle.namespace_commands.proofs.key_refusals.named_space.Goals as goal

pub returns-in-Err-clause-refused : goal.returns-in-Err-clause-refused
returns-in-Err-clause-refused c =
    let P = c.args.platform.now in
    let L = labels_in c.args.sets.now in
    c.in-Err.ensures.refused (by_region P c.args.index (name_taken_in L c.args.key.now c.args.name.now) ∷ no_slots P L 1 c.args.index ∷ [])

pub returns-in-Some-clause-refused : goal.returns-in-Some-clause-refused
returns-in-Some-clause-refused c =
    rename-first c.args.platform.now c.args.sets.now c.requires c.args.index c.args.key.now c.in-Ok.space c.in-Ok.ensures.chosen c.args.name.now c.name_taken.result c.no_slots.result c.name_taken.ensures c.no_slots.ensures
    ∙ sym c.or-refusal.ensures ∙ c.in-Some.is

pub returns-in-None-clause-unrefused : goal.returns-in-None-clause-unrefused
returns-in-None-clause-unrefused c =
    rename-first c.args.platform.now c.args.sets.now c.requires c.args.index c.args.key.now c.in-Ok.space c.in-Ok.ensures.chosen c.args.name.now c.name_taken.result c.no_slots.result c.name_taken.ensures c.no_slots.ensures
    ∙ sym c.or-refusal.ensures ∙ c.in-None.is
