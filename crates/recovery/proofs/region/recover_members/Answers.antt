use Rattle.label_sets.specs.Sets.{labels_in}
use Rattle.label_sets.proofs.Stageable.{ready-all}
use Rattle.namespace_passes.proofs.HealFlips.{on_ok}
use Rattle.module_flips.proofs.Passes.{sized-on}
use Rattle.label_sets.proofs.TablePasses.{table-still, tables-on}
use Rattle.recovery.proofs.Healed.{can-after, recovered}
use Rattle.recovery.proofs.region.recover_members.Goals as goal

pub sweep_members-requires-clause-ready : goal.sweep_members-requires-clause-ready
sweep_members-requires-clause-ready g c = ready-all (labels_in c.args.sets.now) c.args.found.now c.requires.ready

pub heal_pending-requires-clause-heal : goal.heal_pending-requires-clause-heal
heal_pending-requires-clause-heal g c =
    let did = c.in-Ok.ensures in
    can-after c.args.platform.now c.requires.sound c.args.sets.now c.sweep_members.new.sets c.requires.platform c.args.found.now c.requires.found did.pass.regions (table-still c.args.sets.now c.sweep_members.new.sets did.pass) did.state did.pass.dimms did.free c.requires.ready c.requires.spare

pub heal_pending-requires-clause-sized : goal.heal_pending-requires-clause-sized
heal_pending-requires-clause-sized g c = sized-on c.in-Ok.ensures.pass c.requires.sized

pub returns-in-Ok-clause-recovered : goal.returns-in-Ok-clause-recovered
returns-in-Ok-clause-recovered g c =
    let swept = c.in-Ok.ensures in
    let did = c.heal_pending.ensures in
    on_ok c.heal_pending.result (λ healed. recovered c.args.sets.now c.sweep_members.new.sets c.heal_pending.new.sets c.args.found.now swept.state swept.free (table-still c.sweep_members.new.sets c.heal_pending.new.sets did.pass) did.pass.dimms healed) did.healed

pub returns-in-Ok-clause-pass : goal.returns-in-Ok-clause-pass
returns-in-Ok-clause-pass g c = tables-on c.args.sets.now c.sweep_members.new.sets c.heal_pending.new.sets c.in-Ok.ensures.pass c.heal_pending.ensures.pass
