use Rattle.std.proofs.Common.{◌≡◌, ℕ, List, Some, Ok, Err, sym, ap, subst, ◌∙◌}
use Rattle.std.specs.Option.{option_copied}
use Rattle.view_types.specs.declared.reply.Reply.TheVariants.{Destroyed}
use Rattle.region_map.specs.Platforms.{region_at}
use Rattle.label_table.specs.Tables.{state}
use Rattle.module_flips.specs.Passes.{IsPass}
use Rattle.label_sets.specs.Sets.{kept_in, labels_in, state_in}
use Rattle.table_steps.specs.Destroy.{Destroys, IsDestroyed, destroy_refusals}
use Rattle.table_steps.specs.Refusals.{first_of}
use Rattle.table_steps.proofs.AcceptedChanges.{unrefused-destroy}
use Rattle.namespace_commands.specs.Commands.{IsTableOrWithout}
use Rattle.namespace_commands.specs.Create.{modules_of}
use Rattle.namespace_commands.specs.Keys.{IsRefusedBy}
use Rattle.namespace_commands.proofs.ChangeEnds.{destroy-fits, destroys, done-refused, modules-found}
use Rattle.namespace_commands.proofs.CreateEnds.{own-index}
use Rattle.namespace_commands.proofs.KeyedRefusals.{can-change, chosen-there}
use Rattle.namespace_commands.proofs.Passes.{done-change, failed-change, memory-change, refused-change}
use Rattle.namespace_commands.proofs.RecoveredSpaces.{state-there}
use Rattle.namespace_commands.proofs.destruction.destroy.Goals as goal

pub returns-in-Err-Refused : goal.returns-in-Err-Refused
returns-in-Err-Refused g c =
    let P = c.args.platform.now in
    let sets = c.args.sets.now in
    let L = labels_in sets in
    let index = c.args.region in
    let key = c.args.key.now in
    let first = first_of (destroy_refusals P L index key) in
    refused-change g.R.Shown (modules_of P index) P (Destroys P L index key) sets c.args.rig.now c.in-Err-Refused.refusal
    (done-refused first (state P L) (IsDestroyed P L index key) c.in-Err-Refused.refusal (state_in sets)
    (subst (IsRefusedBy first) c.in-Err-Refused.field-0-is c.in-Err-Refused.ensures.refused) (state-there P sets c.requires.state.regions L))

pub returns-in-Err-Memory : goal.returns-in-Err-Memory
returns-in-Err-Memory g c =
    let P = c.args.platform.now in
    let sets = c.args.sets.now in
    memory-change g.R.Shown (modules_of P c.args.region) P (Destroys P (labels_in sets) c.args.region c.args.key.now) sets c.args.rig.now

-- The region is there.
pub unreachable-requires : goal.unreachable-requires
unreachable-requires g c =
    chosen-there c.args.platform.now (labels_in c.args.sets.now) c.args.region c.args.key.now c.in-Ok.space c.in-Ok.ensures.chosen (sym c.region.ensures ∙ ap option_copied c.in_default.is)

pub take_away-requires-clause-platform : goal.take_away-requires-clause-platform
take_away-requires-clause-platform g c = sym c.requires.state.regions

pub take_away-requires-clause-known : goal.take_away-requires-clause-known
take_away-requires-clause-known g c = own-index c.args.platform.now c.args.region c.in-Some.found.now (sym c.region.ensures ∙ ap option_copied c.in-Some.is)

pub take_away-requires-clause-change : goal.take_away-requires-clause-change
take_away-requires-clause-change g c =
    let P = c.args.platform.now in
    let L = labels_in c.args.sets.now in
    let index = c.args.region in
    let key = c.args.key.now in
    let r = c.in-Some.found.now in
    let known : region_at P index ≡ Some r = sym c.region.ensures ∙ ap option_copied c.in-Some.is in
    can-change P L key c.in-Ok.space r (c.in-Ok.ensures.chosen.chosen r known) (unrefused-destroy P L index key r known c.in-Ok.ensures.unrefused).spares

-- It is taken away, or an area failed.
pub returns-in-Ok-take_away : goal.returns-in-Ok-take_away
returns-in-Ok-take_away g c =
    let P = c.args.platform.now in
    let sets = c.args.sets.now in
    let L = labels_in sets in
    let index = c.args.region in
    let key = c.args.key.now in
    let s = c.in-Ok.space in
    let r = c.in-Some.found.now in
    let now = c.take_away.new.sets in
    let F = IsTableOrWithout sets r s.uuid in
    let known : region_at P index ≡ Some r = sym c.region.ensures ∙ ap option_copied c.in-Some.is in
    let only = (c.in-Ok.ensures.chosen.chosen r known).fits.only in
    done-change g.R.Shown (modules_of P index) P (Destroys P L index key) sets c.args.rig.now c.take_away.new.rig F now
    (destroy-fits P sets c.requires.state.regions index key r known s only c.in-Ok.ensures.unrefused) tt (Destroyed s.uuid)
    (subst (λ (hs : List ℕ). IsPass hs F g.R.Shown (kept_in sets) c.args.rig.now (kept_in now) c.take_away.new.rig (Ok tt)) (modules-found P index r known) c.in-Ok-take_away.ensures.pass)
    (λ fact. tt)
    (destroys P sets c.requires.state.regions index key r known s only c.in-Ok.ensures.unrefused (state_in now) c.in-Ok-take_away.ensures.destroyed)

pub returns-in-Err : goal.returns-in-Err
returns-in-Err g c =
    let P = c.args.platform.now in
    let sets = c.args.sets.now in
    let L = labels_in sets in
    let index = c.args.region in
    let key = c.args.key.now in
    let s = c.in-Ok.space in
    let r = c.in-Some.found.now in
    let now = c.take_away.new.sets in
    let F = IsTableOrWithout sets r s.uuid in
    let known : region_at P index ≡ Some r = sym c.region.ensures ∙ ap option_copied c.in-Some.is in
    let only = (c.in-Ok.ensures.chosen.chosen r known).fits.only in
    failed-change g.R.Shown (modules_of P index) P (Destroys P L index key) sets c.args.rig.now c.take_away.new.rig F now
    (destroy-fits P sets c.requires.state.regions index key r known s only c.in-Ok.ensures.unrefused) c.in-Err.failed
    (subst (λ (hs : List ℕ). IsPass {T = Unit {0}} hs F g.R.Shown (kept_in sets) c.args.rig.now (kept_in now) c.take_away.new.rig (Err c.in-Err.failed)) (modules-found P index r known) c.in-Err.ensures.pass)
