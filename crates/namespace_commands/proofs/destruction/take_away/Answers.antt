use Rattle.std.proofs.Common.{inl, sym, ◌∙◌}
use Rattle.namespace_passes.proofs.HealFlips.{on_ok}
use Rattle.namespace_commands.proofs.ChangedSpaces.{can-heal, freed-fits, freed-state}
use Rattle.module_flips.proofs.Passes.{pass-as, pass-on, sized-on}
use Rattle.namespace_commands.proofs.destruction.take_away.Goals as goal

pub free_labels-requires-clause-platform : goal.free_labels-requires-clause-platform
free_labels-requires-clause-platform g c = c.requires.platform ∙ sym c.in-Ok.ensures.pass.regions

pub free_labels-requires-clause-heal : goal.free_labels-requires-clause-heal
free_labels-requires-clause-heal g c =
    can-heal c.args.platform.now c.requires.sound c.args.sets.now c.recover_ready.new.sets c.requires.platform c.args.region.now c.requires.known c.args.space.now c.requires.change c.in-Ok.ensures.pass.regions c.in-Ok.ensures.recovered

pub free_labels-requires-clause-sized : goal.free_labels-requires-clause-sized
free_labels-requires-clause-sized g c = sized-on c.in-Ok.ensures.pass c.requires.sized

pub returns-in-Ok-clause-destroyed : goal.returns-in-Ok-clause-destroyed
returns-in-Ok-clause-destroyed g c =
    on_ok c.free_labels.result (freed-state c.args.platform.now c.requires.sound c.args.sets.now c.recover_ready.new.sets c.requires.platform c.args.region.now c.requires.known c.args.space.now c.requires.change
    c.in-Ok.ensures.pass.regions c.in-Ok.ensures.recovered c.free_labels.new.sets) c.free_labels.ensures.gone

pub returns-in-Ok-clause-pass : goal.returns-in-Ok-clause-pass
returns-in-Ok-clause-pass g c =
    let recovers = c.in-Ok.ensures in
    pass-on (pass-as (λ N kept. inl kept) recovers.pass)
    (freed-fits c.args.platform.now c.requires.sound c.args.sets.now c.recover_ready.new.sets c.requires.platform c.args.region.now c.requires.known c.args.space.now c.requires.change recovers.pass.regions recovers.recovered) c.free_labels.ensures.pass

pub returns-in-Err-clause-pass : goal.returns-in-Err-clause-pass
returns-in-Err-clause-pass g c = pass-as (λ N kept. inl kept) c.in-Err.ensures.pass
