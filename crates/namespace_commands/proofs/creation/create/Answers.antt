use Rattle.std.proofs.Common.{◌≡◌, true, List, ℕ, Result, Ok, Err, Option, Some, None, sym, ap, subst, ◌∙◌}
use Rattle.std.specs.List.{All}
use Rattle.std.specs.Option.{option_copied}
use Rattle.view_types.specs.declared.reply.Reply.{Reply}
use Rattle.rig_trait.specs.declared.shown.Shown.{Ghosts}
use Rattle.region_map.specs.declared.platform.Platform.{Platform}
use Rattle.region_map.specs.Platforms.{region_at}
use Rattle.module_flips.specs.declared.flips.AreaFailed.{AreaFailed}
use Rattle.module_flips.specs.Flips.{IsSizedIn}
use Rattle.module_flips.specs.Passes.{IsPass}
use Rattle.label_sets.specs.Sets.{StoredSets, kept_in, labels_in, state_in}
use Rattle.table_steps.specs.declared.new_namespace.NewNamespace.{NewNamespace}
use Rattle.table_steps.specs.Create.{Creates, IsCreated}
use Rattle.view_types.specs.Replies.{WhereRefused}
use Rattle.namespace_commands.specs.declared.creation.ChangeFault.{ChangeFault}
use Rattle.namespace_commands.specs.Commands.{IsChange}
use Rattle.namespace_commands.specs.Create.{IsBeforeOrAfter, IsCreateRefusal, IsNewSpace, modules_of}
use Rattle.namespace_commands.specs.Lists.{IsStateOf}
use Rattle.namespace_commands.proofs.ChangeEnds.{modules-found}
use Rattle.namespace_commands.proofs.CreateEnds.{creates-accepted, creates-refused, region-there, unrefused-reply}
use Rattle.namespace_commands.proofs.Passes.{done-change, failed-change, memory-change, refused-change}
use Rattle.namespace_commands.proofs.RecoveredSpaces.{state-there}
use Rattle.namespace_commands.proofs.creation.create.Goals as goal

-- a create that left all as it was
unchanged : {R : Type 0} {m : Ghosts R} {rig : R} (P : Platform) (a : NewNamespace) (sets now : StoredSets) (result : Result Reply ChangeFault) → now ≡ sets
    → IsChange (modules_of P a.region) P (Creates P (labels_in sets) a) m sets rig sets rig result → IsChange (modules_of P a.region) P (Creates P (labels_in sets) a) m sets rig now rig result
unchanged {R} {m} {rig} P a sets now result same change = subst (λ (s : StoredSets). IsChange (modules_of P a.region) P (Creates P (labels_in sets) a) m sets rig s rig result) (sym same) change

pub returns-in-Ok-Some : goal.returns-in-Ok-Some
returns-in-Ok-Some g c =
    let P = c.args.platform.now in
    let sets = c.args.sets.now in
    let a = c.args.asked.now in
    unchanged P a sets c.create_refusal.new.sets _ c.create_refusal.ensures.same
    (refused-change g.R.Shown (modules_of P a.region) P (Creates P (labels_in sets) a) sets c.args.rig.now c.in-Ok-Some.refusal
    (creates-refused P (labels_in sets) a c.in-Ok-Some.refusal (state_in sets)
    (λ free are. c.in-Ok-Some.ensures.refusal free are ∙ c.in-Ok-Some.field-0-is) (state-there P sets c.requires.state.regions (labels_in sets))))

pub returns-in-Err : goal.returns-in-Err
returns-in-Err g c =
    let P = c.args.platform.now in
    let sets = c.args.sets.now in
    let a = c.args.asked.now in
    unchanged P a sets c.create_refusal.new.sets _ c.create_refusal.ensures.same (memory-change g.R.Shown (modules_of P a.region) P (Creates P (labels_in sets) a) sets c.args.rig.now)

pub returns-in_default-prepare : goal.returns-in_default-prepare
returns-in_default-prepare g c =
    let P = c.args.platform.now in
    let sets = c.args.sets.now in
    let a = c.args.asked.now in
    unchanged P a sets c.prepare.new.sets _ (c.in_default-prepare.ensures.kept ∙ c.create_refusal.ensures.same) (memory-change g.R.Shown (modules_of P a.region) P (Creates P (labels_in sets) a) sets c.args.rig.now)

-- The region is there.
pub unreachable-requires : goal.unreachable-requires
unreachable-requires g c =
    let P = c.args.platform.now in
    let none : region_at P c.args.asked.now.region ≡ None = sym c.region.ensures ∙ ap option_copied c.in_default.is in
    region-there P c.args.sets.now c.requires.state c.args.asked.now (λ free are. c.in-Ok-None.ensures.refusal free are ∙ c.in-Ok-None.field-0-is) none

-- Its place is found, and then it is made.
pub prepare-requires-clause-state : goal.prepare-requires-clause-state
prepare-requires-clause-state g c = subst (IsStateOf c.args.platform.now) (sym c.create_refusal.ensures.same) c.requires.state

pub prepare-requires-clause-known : goal.prepare-requires-clause-known
prepare-requires-clause-known g c = sym c.region.ensures ∙ ap option_copied c.in-Some.is

pub prepare-requires-clause-unrefused : goal.prepare-requires-clause-unrefused
prepare-requires-clause-unrefused g c =
    subst (λ (s : StoredSets). IsCreateRefusal c.args.platform.now (labels_in s) c.args.asked.now None) (sym c.create_refusal.ensures.same) (λ free are. c.in-Ok-None.ensures.refusal free are ∙ c.in-Ok-None.field-0-is)

pub make-requires-clause-space : goal.make-requires-clause-space
make-requires-clause-space g c =
    subst (λ (s : StoredSets). IsNewSpace c.args.platform.now (labels_in s) c.args.asked.now c.in-Some.region.now c.in-Ok.space) (sym c.in-Ok.ensures.room) c.in-Ok.ensures.space

pub make-requires-clause-state : goal.make-requires-clause-state
make-requires-clause-state g c =
    subst (IsStateOf c.args.platform.now) (sym (c.in-Ok.ensures.room ∙ ap (λ (s : StoredSets). record s { room = true }) c.create_refusal.ensures.same)) (record { regions = c.requires.state.regions; modules = c.requires.state.modules })

pub make-requires-clause-known : goal.make-requires-clause-known
make-requires-clause-known g c = sym c.region.ensures ∙ ap option_copied c.in-Some.is

pub make-requires-clause-unrefused : goal.make-requires-clause-unrefused
make-requires-clause-unrefused g c =
    subst (λ (s : StoredSets). IsCreateRefusal c.args.platform.now (labels_in s) c.args.asked.now None) (sym (c.in-Ok.ensures.room ∙ ap (λ (s : StoredSets). record s { room = true }) c.create_refusal.ensures.same)) (λ free are. c.in-Ok-None.ensures.refusal free are ∙ c.in-Ok-None.field-0-is)

pub make-requires-clause-room : goal.make-requires-clause-room
make-requires-clause-room g c = ap (λ (s : StoredSets). s.room) (c.in-Ok.ensures.room ∙ ap (λ (s : StoredSets). record s { room = true }) c.create_refusal.ensures.same)

pub make-requires-clause-sized : goal.make-requires-clause-sized
make-requires-clause-sized g c = λ told. subst (λ (s : StoredSets). All (IsSizedIn (g.R.Shown.areas c.args.rig.now)) s.modules) (sym (c.in-Ok.ensures.room ∙ ap (λ (s : StoredSets). record s { room = true }) c.create_refusal.ensures.same)) (c.requires.sized told)

-- what is made of the state with room is made of the state
without-room : {R T : Type 0} {m : Ghosts R} {old new : R} {result : Result T AreaFailed} (P : Platform) (a : NewNamespace) (hs : List ℕ) (sets with now : StoredSets) → hs ≡ modules_of P a.region → with ≡ record sets { room = true }
    → IsPass hs (IsBeforeOrAfter P (labels_in with) a) m (kept_in with) old (kept_in now) new result → IsPass (modules_of P a.region) (IsBeforeOrAfter P (labels_in sets) a) m (kept_in sets) old (kept_in now) new result
without-room {R} {T} {m} {old} {new} {result} P a hs sets with now same is pass =
    subst (λ (xs : List ℕ). IsPass xs (IsBeforeOrAfter P (labels_in sets) a) m (kept_in sets) old (kept_in now) new result) same
    (subst (λ (s : StoredSets). IsPass hs (IsBeforeOrAfter P (labels_in s) a) m (kept_in s) old (kept_in now) new result) is pass)

pub returns-in-Ok-make : goal.returns-in-Ok-make
returns-in-Ok-make g c =
    let P = c.args.platform.now in
    let sets = c.args.sets.now in
    let a = c.args.asked.now in
    let r = c.in-Some.region.now in
    let now = c.make.new.sets in
    let known : region_at P a.region ≡ Some r = sym c.region.ensures ∙ ap option_copied c.in-Some.is in
    let made = c.in-Ok-make.ensures.made in
    let does = creates-accepted P (labels_in sets) a r known (λ free are. c.in-Ok-None.ensures.refusal free are ∙ c.in-Ok-None.field-0-is) c.in-Ok-make.reply (state_in now)
    (subst (λ (s : StoredSets). IsCreated P (labels_in s) a c.in-Ok-make.reply (state_in now)) (c.in-Ok.ensures.room ∙ ap (λ (s : StoredSets). record s { room = true }) c.create_refusal.ensures.same) made) in
    done-change g.R.Shown (modules_of P a.region) P (Creates P (labels_in sets) a) sets c.args.rig.now c.make.new.rig (IsBeforeOrAfter P (labels_in sets) a) now (λ N fit. fit) c.in-Ok-make.reply c.in-Ok-make.reply
    (without-room P a _ sets c.prepare.new.sets now (modules-found P a.region r known) (c.in-Ok.ensures.room ∙ ap (λ (s : StoredSets). record s { room = true }) c.create_refusal.ensures.same) c.in-Ok-make.ensures.pass)
    (λ fact. unrefused-reply P (labels_in c.prepare.new.sets) a fact c.in-Ok-make.reply (state_in now) made) does

pub returns-in-Err-make : goal.returns-in-Err-make
returns-in-Err-make g c =
    let P = c.args.platform.now in
    let sets = c.args.sets.now in
    let a = c.args.asked.now in
    let r = c.in-Some.region.now in
    let known : region_at P a.region ≡ Some r = sym c.region.ensures ∙ ap option_copied c.in-Some.is in
    failed-change g.R.Shown (modules_of P a.region) P (Creates P (labels_in sets) a) sets c.args.rig.now c.make.new.rig (IsBeforeOrAfter P (labels_in sets) a) c.make.new.sets (λ N fit. fit) c.in-Err-make.failed
    (without-room P a _ sets c.prepare.new.sets c.make.new.sets (modules-found P a.region r known) (c.in-Ok.ensures.room ∙ ap (λ (s : StoredSets). record s { room = true }) c.create_refusal.ensures.same) c.in-Err-make.ensures.pass)
