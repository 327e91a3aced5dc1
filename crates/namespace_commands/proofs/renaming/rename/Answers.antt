use Rattle.std.proofs.Common.{◌≡◌, ℕ, List, Some, Ok, Err, sym, ap, subst, ◌∙◌}
use Rattle.std.specs.Option.{option_copied}
use Rattle.view_types.specs.declared.reply.Reply.TheVariants.{Renamed}
use Rattle.region_map.specs.Platforms.{region_at}
use Rattle.label_table.specs.Tables.{state}
use Rattle.module_flips.specs.Passes.{IsPass}
use Rattle.label_sets.specs.Sets.{kept_in, labels_in, state_in}
use Rattle.table_steps.specs.Rename.{IsRenamed, Renames, rename_refusals}
use Rattle.table_steps.specs.Refusals.{first_of}
use Rattle.table_steps.proofs.AcceptedChanges.{unrefused-rename}
use Rattle.namespace_commands.specs.Commands.{IsTableOrNamed}
use Rattle.namespace_commands.specs.Create.{modules_of}
use Rattle.namespace_commands.specs.Keys.{CanChange, IsRefusedBy}
use Rattle.namespace_commands.proofs.ChangeEnds.{done-refused, modules-found, rename-fits, renames}
use Rattle.namespace_commands.proofs.CreateEnds.{own-index}
use Rattle.namespace_commands.proofs.KeyedRefusals.{can-change, chosen-there}
use Rattle.namespace_commands.proofs.Passes.{done-change, failed-change, memory-change, refused-change}
use Rattle.namespace_commands.proofs.RecoveredSpaces.{state-there}
use Rattle.namespace_commands.proofs.renaming.rename.Goals as goal

pub returns-in-Err-Refused : goal.returns-in-Err-Refused
returns-in-Err-Refused g c =
    let P = c.args.platform.now in
    let sets = c.args.sets.now in
    let L = labels_in sets in
    let index = c.args.region in
    let key = c.args.key.now in
    let name = c.args.name.now in
    let first = first_of (rename_refusals P L index key name) in
    refused-change g.R.Shown (modules_of P index) P (Renames P L index key name) sets c.args.rig.now c.in-Err-Refused.refusal
    (done-refused first (state P L) (IsRenamed P L index key name) c.in-Err-Refused.refusal (state_in sets)
    (subst (IsRefusedBy first) c.in-Err-Refused.field-0-is c.in-Err-Refused.ensures.refused) (state-there P sets c.requires.state.regions L))

pub returns-in-Err-Memory : goal.returns-in-Err-Memory
returns-in-Err-Memory g c =
    let P = c.args.platform.now in
    let sets = c.args.sets.now in
    memory-change g.R.Shown (modules_of P c.args.region) P (Renames P (labels_in sets) c.args.region c.args.key.now c.args.name.now) sets c.args.rig.now

-- The region is there.
pub unreachable-requires : goal.unreachable-requires
unreachable-requires g c =
    chosen-there c.args.platform.now (labels_in c.args.sets.now) c.args.region c.args.key.now c.in-Ok.space c.in-Ok.ensures.chosen (sym c.region.ensures ∙ ap option_copied c.in_default.is)

pub give_name-requires-clause-platform : goal.give_name-requires-clause-platform
give_name-requires-clause-platform g c = sym c.requires.state.regions

pub give_name-requires-clause-known : goal.give_name-requires-clause-known
give_name-requires-clause-known g c = own-index c.args.platform.now c.args.region c.in-Some.found.now (sym c.region.ensures ∙ ap option_copied c.in-Some.is)

pub give_name-requires-clause-change : goal.give_name-requires-clause-change
give_name-requires-clause-change g c =
    let P = c.args.platform.now in
    let L = labels_in c.args.sets.now in
    let index = c.args.region in
    let key = c.args.key.now in
    let name = c.args.name.now in
    let r = c.in-Some.found.now in
    let known : region_at P index ≡ Some r = sym c.region.ensures ∙ ap option_copied c.in-Some.is in
    can-change P L key c.in-Ok.space r (c.in-Ok.ensures.chosen.chosen r known) (unrefused-rename P L index key name r known c.in-Ok.ensures.unrefused).change.spares

-- It has the name, or an area failed.
pub returns-in-Ok-give_name : goal.returns-in-Ok-give_name
returns-in-Ok-give_name g c =
    let P = c.args.platform.now in
    let sets = c.args.sets.now in
    let L = labels_in sets in
    let index = c.args.region in
    let key = c.args.key.now in
    let name = c.args.name.now in
    let s = c.in-Ok.space in
    let r = c.in-Some.found.now in
    let now = c.give_name.new.sets in
    let F = IsTableOrNamed sets r s.uuid name in
    let known : region_at P index ≡ Some r = sym c.region.ensures ∙ ap option_copied c.in-Some.is in
    let chosen = c.in-Ok.ensures.chosen.chosen r known in
    let only = chosen.fits.only in
    let can : CanChange P L s r = can-change P L key s r chosen (unrefused-rename P L index key name r known c.in-Ok.ensures.unrefused).change.spares in
    done-change g.R.Shown (modules_of P index) P (Renames P L index key name) sets c.args.rig.now c.give_name.new.rig F now
    (rename-fits P sets c.requires.state.regions index key r known s only name c.in-Ok.ensures.unrefused (own-index P index r known) can) tt (Renamed s.uuid name)
    (subst (λ (hs : List ℕ). IsPass hs F g.R.Shown (kept_in sets) c.args.rig.now (kept_in now) c.give_name.new.rig (Ok tt)) (modules-found P index r known) c.in-Ok-give_name.ensures.pass)
    (λ fact. tt)
    (renames P sets c.requires.state.regions index key r known s only name c.in-Ok.ensures.unrefused (state_in now) c.in-Ok-give_name.ensures.renamed)

pub returns-in-Err : goal.returns-in-Err
returns-in-Err g c =
    let P = c.args.platform.now in
    let sets = c.args.sets.now in
    let L = labels_in sets in
    let index = c.args.region in
    let key = c.args.key.now in
    let name = c.args.name.now in
    let s = c.in-Ok.space in
    let r = c.in-Some.found.now in
    let now = c.give_name.new.sets in
    let F = IsTableOrNamed sets r s.uuid name in
    let known : region_at P index ≡ Some r = sym c.region.ensures ∙ ap option_copied c.in-Some.is in
    let chosen = c.in-Ok.ensures.chosen.chosen r known in
    let only = chosen.fits.only in
    let can : CanChange P L s r = can-change P L key s r chosen (unrefused-rename P L index key name r known c.in-Ok.ensures.unrefused).change.spares in
    failed-change g.R.Shown (modules_of P index) P (Renames P L index key name) sets c.args.rig.now c.give_name.new.rig F now
    (rename-fits P sets c.requires.state.regions index key r known s only name c.in-Ok.ensures.unrefused (own-index P index r known) can) c.in-Err.failed
    (subst (λ (hs : List ℕ). IsPass {T = Unit {0}} hs F g.R.Shown (kept_in sets) c.args.rig.now (kept_in now) c.give_name.new.rig (Err c.in-Err.failed)) (modules-found P index r known) c.in-Err.ensures.pass)
