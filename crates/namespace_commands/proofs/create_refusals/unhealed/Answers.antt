use Rattle.std.proofs.Common.{None, sym, ◌∙◌}
use Rattle.std.specs.Prelude.{if◌then◌else◌, is_some, option_map}
use Rattle.view_types.specs.declared.refusal.Refusal.TheVariants.{Unhealed}
use Rattle.region_labels.specs.declared.positions.ModuleSpare.{ModuleSpare}
use Rattle.namespace_commands.proofs.Refused.{healed-is, unhealed-is}
use Rattle.namespace_commands.proofs.create_refusals.unhealed.Goals as goal

pub returns-in-Some-first_without_spare : goal.returns-in-Some-first_without_spare
returns-in-Some-first_without_spare c = λ r found.
    sym (unhealed-is c.args.sets.now c.args.index r found c.first_pending.result c.first_pending.ensures c.first_without_spare.result c.first_without_spare.ensures
    ∙ (λ i. if is_some (c.in-Some.is i) then option_map (λ (m : ModuleSpare). Unhealed m.dimm) (c.in-Some-first_without_spare.is i) else None))

pub returns-in-None-first_without_spare : goal.returns-in-None-first_without_spare
returns-in-None-first_without_spare c = λ r found.
    sym (unhealed-is c.args.sets.now c.args.index r found c.first_pending.result c.first_pending.ensures c.first_without_spare.result c.first_without_spare.ensures
    ∙ (λ i. if is_some (c.in-Some.is i) then option_map (λ (m : ModuleSpare). Unhealed m.dimm) (c.in-None-first_without_spare.is i) else None))

pub returns-in-None : goal.returns-in-None
returns-in-None c = λ r found. sym (healed-is c.args.sets.now c.args.index r found c.first_pending.result c.first_pending.ensures c.in-None.is)
