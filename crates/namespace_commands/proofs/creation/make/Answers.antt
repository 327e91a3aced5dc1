use Rattle.std.proofs.Common.{ℕ, sym, ap, ◌∙◌}
use Rattle.view_types.specs.declared.reply.Reply.TheVariants.{Created}
use Rattle.label_table.specs.Spaces.{Space}
use Rattle.module_flips.proofs.Passes.{pass-as, pass-on, sized-on, still-ended, still-failed}
use Rattle.label_sets.specs.Sets.{labels_in, state_in}
use Rattle.table_steps.specs.Changes.{least_spare}
use Rattle.namespace_commands.proofs.AcceptedCreates.{has-free, healable}
use Rattle.namespace_commands.proofs.CreateEnds.{own-index}
use Rattle.namespace_commands.proofs.RecoveredSpaces.{before-fits, can-put, made-by, put-fits}
use Rattle.namespace_commands.proofs.creation.make.Goals as goal

pub recover_ready-requires-clause-platform : goal.recover_ready-requires-clause-platform
recover_ready-requires-clause-platform g c = sym c.requires.state.regions

pub recover_ready-requires-clause-known : goal.recover_ready-requires-clause-known
recover_ready-requires-clause-known g c = own-index c.args.platform.now c.args.asked.now.region c.args.region.now c.requires.known

pub recover_ready-requires-clause-ready : goal.recover_ready-requires-clause-ready
recover_ready-requires-clause-ready g c = (has-free c.args.platform.now (labels_in c.args.sets.now) c.args.asked.now c.args.region.now c.requires.known c.requires.unrefused).is.ready

pub recover_ready-requires-clause-healable : goal.recover_ready-requires-clause-healable
recover_ready-requires-clause-healable g c = healable c.args.platform.now (labels_in c.args.sets.now) c.args.asked.now c.args.region.now c.requires.known c.requires.unrefused

pub put_namespace-requires-clause-platform : goal.put_namespace-requires-clause-platform
put_namespace-requires-clause-platform g c = sym (c.in-Ok.ensures.pass.regions ∙ c.requires.state.regions)

pub put_namespace-requires-clause-known : goal.put_namespace-requires-clause-known
put_namespace-requires-clause-known g c = own-index c.args.platform.now c.args.asked.now.region c.args.region.now c.requires.known

pub put_namespace-requires-clause-put : goal.put_namespace-requires-clause-put
put_namespace-requires-clause-put g c =
    can-put c.args.platform.now c.requires.sound c.args.sets.now c.recover_ready.new.sets c.requires.state c.args.asked.now c.args.region.now c.requires.known c.requires.unrefused
    c.in-Ok.ensures.pass.regions c.in-Ok.ensures.recovered c.sweep_law.ensures.bounded c.sweep_law.ensures.swept c.args.space.now c.requires.space

pub put_namespace-requires-clause-room : goal.put_namespace-requires-clause-room
put_namespace-requires-clause-room g c = c.in-Ok.ensures.room ∙ c.requires.room

pub put_namespace-requires-clause-sized : goal.put_namespace-requires-clause-sized
put_namespace-requires-clause-sized g c = sized-on c.in-Ok.ensures.pass c.requires.sized

pub returns-in-Err-clause-pass : goal.returns-in-Err-clause-pass
returns-in-Err-clause-pass g c = still-failed (pass-as (before-fits c.args.platform.now c.args.sets.now c.requires.state.regions c.args.asked.now) c.in-Err.ensures.pass)

pub returns-in-Ok-put_namespace-clause-made : goal.returns-in-Ok-put_namespace-clause-made
returns-in-Ok-put_namespace-clause-made g c =
    let a = c.args.asked.now in
    let r = c.args.region.now in
    let s = c.args.space.now in
    let new = c.requires.space in
    let now = c.put_namespace.new.sets in
    made-by c.args.platform.now c.requires.sound c.args.sets.now c.recover_ready.new.sets c.requires.state a r c.requires.known c.requires.unrefused c.in-Ok.ensures.pass.regions c.in-Ok.ensures.recovered
    s new now c.in-Ok-put_namespace.ensures.put c.created.result
    (c.created.ensures ∙ ap (λ (n : ℕ). Created a.uuid a.region s.offset n a.size (least_spare (state_in now) r)) (ap (λ (t : Space). t.length) new.is_made))

pub returns-in-Ok-put_namespace-clause-pass : goal.returns-in-Ok-put_namespace-clause-pass
returns-in-Ok-put_namespace-clause-pass g c =
    let P = c.args.platform.now in
    let sets = c.args.sets.now in
    let mid = c.recover_ready.new.sets in
    let a = c.args.asked.now in
    let r = c.args.region.now in
    let s = c.args.space.now in
    still-ended (pass-on (pass-as (before-fits P sets c.requires.state.regions a) c.in-Ok.ensures.pass)
    (put-fits P c.requires.sound sets mid c.requires.state a r c.requires.known c.requires.unrefused c.in-Ok.ensures.pass.regions c.in-Ok.ensures.recovered s c.requires.space) c.in-Ok-put_namespace.ensures.pass)

pub returns-in-Err-put_namespace-clause-pass : goal.returns-in-Err-put_namespace-clause-pass
returns-in-Err-put_namespace-clause-pass g c =
    let P = c.args.platform.now in
    let sets = c.args.sets.now in
    let mid = c.recover_ready.new.sets in
    let a = c.args.asked.now in
    let r = c.args.region.now in
    let s = c.args.space.now in
    still-failed (pass-on (pass-as (before-fits P sets c.requires.state.regions a) c.in-Ok.ensures.pass)
    (put-fits P c.requires.sound sets mid c.requires.state a r c.requires.known c.requires.unrefused c.in-Ok.ensures.pass.regions c.in-Ok.ensures.recovered s c.requires.space) c.in-Err-put_namespace.ensures.pass)
