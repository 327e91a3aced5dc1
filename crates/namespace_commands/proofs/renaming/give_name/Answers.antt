use Rattle.std.proofs.Common.{inl, sym, ◌∙◌}
use Rattle.namespace_passes.proofs.HealFlips.{on_ok}
use Rattle.namespace_commands.proofs.ChangedSpaces.{can-heal, named-fits, named-state}
use Rattle.module_flips.proofs.Passes.{pass-as, pass-on, sized-on}
use Rattle.namespace_commands.proofs.renaming.give_name.Goals as goal

pub write_name-requires-clause-platform : goal.write_name-requires-clause-platform
write_name-requires-clause-platform g c = c.requires.platform ∙ sym c.in-Ok.ensures.pass.regions

pub write_name-requires-clause-heal : goal.write_name-requires-clause-heal
write_name-requires-clause-heal g c =
    can-heal c.args.platform.now c.requires.sound c.args.sets.now c.recover_ready.new.sets c.requires.platform c.args.region.now c.requires.known c.args.space.now c.requires.change c.in-Ok.ensures.pass.regions c.in-Ok.ensures.recovered

pub write_name-requires-clause-sized : goal.write_name-requires-clause-sized
write_name-requires-clause-sized g c = sized-on c.in-Ok.ensures.pass c.requires.sized

pub returns-in-Ok-clause-renamed : goal.returns-in-Ok-clause-renamed
returns-in-Ok-clause-renamed g c =
    on_ok c.write_name.result (named-state c.args.platform.now c.requires.sound c.args.sets.now c.recover_ready.new.sets c.requires.platform c.args.region.now c.requires.known c.args.space.now c.requires.change
    c.in-Ok.ensures.pass.regions c.in-Ok.ensures.recovered c.args.name.now c.write_name.new.sets) c.write_name.ensures.named

pub returns-in-Ok-clause-pass : goal.returns-in-Ok-clause-pass
returns-in-Ok-clause-pass g c =
    let recovers = c.in-Ok.ensures in
    pass-on (pass-as (λ N kept. inl kept) recovers.pass)
    (named-fits c.args.platform.now c.requires.sound c.args.sets.now c.recover_ready.new.sets c.requires.platform c.args.region.now c.requires.known c.args.space.now c.requires.change recovers.pass.regions recovers.recovered c.args.name.now) c.write_name.ensures.pass

pub returns-in-Err-clause-pass : goal.returns-in-Err-clause-pass
returns-in-Err-clause-pass g c = pass-as (λ N kept. inl kept) c.in-Err.ensures.pass
