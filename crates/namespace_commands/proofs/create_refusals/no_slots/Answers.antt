use Rattle.std.proofs.Common.{sym, ap, ◌∙◌}
use Rattle.std.specs.Prelude.{option_map}
use Rattle.view_types.specs.declared.refusal.Refusal.TheVariants.{NoSlots}
use Rattle.region_labels.specs.declared.positions.ModuleSpare.{ModuleSpare}
use Rattle.namespace_commands.proofs.Refused.{slots-is}
use Rattle.namespace_commands.proofs.create_refusals.no_slots.Goals as goal

pub returns-in-Some : goal.returns-in-Some
returns-in-Some c = λ r found.
    sym (slots-is c.args.sets.now c.args.index r found c.args.least c.first_without_spare.result c.first_without_spare.ensures ∙ ap (option_map (λ (m : ModuleSpare). NoSlots m.dimm m.spare)) c.in-Some.is)

pub returns-in-None : goal.returns-in-None
returns-in-None c = λ r found.
    sym (slots-is c.args.sets.now c.args.index r found c.args.least c.first_without_spare.result c.first_without_spare.ensures ∙ ap (option_map (λ (m : ModuleSpare). NoSlots m.dimm m.spare)) c.in-None.is)
