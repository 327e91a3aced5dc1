use Rattle.std.proofs.Common.{sym, ◌∙◌}
use Rattle.label_sets.specs.Sets.{labels_in}
use Rattle.table_steps.specs.Refusals.{region_not_ready, unknown_region, unusable}
use Rattle.namespace_commands.proofs.Firsts.{or_more}
use Rattle.namespace_commands.proofs.create_refusals.create_refusal.Goals as goal

-- The first refusals are those of every command that asks for a Ready region.
pub returns-in-Ok-Some-clause-refusal : goal.returns-in-Ok-Some-clause-refusal
returns-in-Ok-Some-clause-refusal c = λ free are.
    let P = c.args.platform.now in
    let L = labels_in c.args.sets.now in
    let index = c.args.asked.now.region in
    or_more (unknown_region P index) (unusable P index) (region_not_ready P L index) _ c.in-Ok-Some.refusal
    (sym c.in-Ok-Some.ensures.refusal ∙ c.in-Ok-Some.field-0-is)
