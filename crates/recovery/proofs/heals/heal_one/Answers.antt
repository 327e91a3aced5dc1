use Rattle.std.proofs.Common.{sym, subst, ◌∙◌}
use Rattle.region_map.specs.declared.platform.Region.{Region}
use Rattle.label_sets.specs.Healing.{CanHealIn}
use Rattle.label_table.proofs.ListTests.{some_is}
use Rattle.namespace_passes.proofs.HealFlips.{on_ok}
use Rattle.label_sets.proofs.TablePasses.{table-still}
use Rattle.recovery.proofs.Healed.{can-heal, healed-less}
use Rattle.recovery.proofs.heals.heal_one.Goals as goal

pub clear_all-requires-clause-heal : goal.clear_all-requires-clause-heal
clear_all-requires-clause-heal g c = λ region there.
    subst (λ (r : Region). CanHealIn c.args.sets.now c.args.uuid.now r) (some_is (sym c.requires.found ∙ there))
    (can-heal c.args.sets.now c.args.found.now c.args.uuid.now c.requires.heal c.requires.pending)

pub returns-clause-fewer : goal.returns-clause-fewer
returns-clause-fewer g c =
    on_ok c.clear_all.result
    (λ healed. healed-less c.args.platform.now c.requires.sound c.args.sets.now c.clear_all.new.self c.requires.platform c.args.found.now c.requires.found (c.clear_all.ensures.pass c.args.found.now c.requires.found).regions
    (table-still c.args.sets.now c.clear_all.new.self (c.clear_all.ensures.pass c.args.found.now c.requires.found)) c.args.uuid.now c.requires.pending healed)
    (c.clear_all.ensures.healed c.args.found.now c.requires.found)

pub returns-clause-pass : goal.returns-clause-pass
returns-clause-pass g c = c.clear_all.ensures.pass c.args.found.now c.requires.found
