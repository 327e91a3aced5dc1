use Rattle.std.proofs.Common.{◌≡◌, ◌≢◌, ◌<◌, List, length, get_or, map, Some, sym, ap, subst, ◌∙◌}
use Rattle.std.specs.Prelude.{vec_capacity}
use Rattle.std.specs.FinMap.{get}
use Rattle.std.specs.List.{All}
use Rattle.std.specs.Vec.{with_items}
use Rattle.std.proofs.lemmas.Bool.{false≢true}
use Rattle.std.proofs.lemmas.List.{with_items_is}
use Rattle.rig_trait.specs.Areas.{Areas}
use Rattle.rig_trait.specs.Frames.{LeavesOnly, Reads}
use Rattle.label_codec.specs.declared.kind.AreaKind.TheVariants as kind
use Rattle.label_codec.specs.ModuleLabels.{IsBounded, Labels}
use Rattle.label_area.specs.Modules.{area_kind}
use Rattle.label_area.specs.VacantAreas.{IsVacantArea, IsVacantOf}
use Rattle.label_table.specs.Belonging.{IsDisjoint}
use Rattle.label_table.specs.Settling.{IsInitialised}
use Rattle.label_table.specs.Tables.{state}
use Rattle.region_labels.specs.declared.modules.LoadedModule.{LoadedModule}
use Rattle.region_labels.specs.declared.modules.ModuleArea.TheVariants.{Uninit}
use Rattle.region_labels.specs.Fates.{platform_of}
use Rattle.region_labels.specs.Modules.{EachOnce, dimm_of, size_in}
use Rattle.region_labels.specs.Modules as modules
use Rattle.region_labels.specs.Regions.{IsOver}
use Rattle.module_flips.specs.Flips.{HasLabelsInUse, IsOwn}
use Rattle.module_flips.specs.Stored.{StandsIn}
use Rattle.label_codec.specs.ModuleChanges.{with_module}
use Rattle.module_flips.specs.Stops.{IsOneOf, LeftIn}
use Rattle.label_sets.specs.Init.{IsInitialisedTo, initialised_state, slots_at, state_at, vacant_module}
use Rattle.label_sets.specs.Kept.{AllFree, IsKnownFree, IsKnownReady}
use Rattle.label_sets.specs.Sets.{StoredSets, labels_in, platform_in, state_in}
use Rattle.module_flips.specs.Sweeps.{ChangesOnly, HasSlotsWithin}
use Rattle.label_sets.specs.Views.{area_state}
use Rattle.label_sets.proofs.InitialisedSets.{had-none, initialised-with, refused-so, settles, unfailed, slots-by, was-unready}
use Rattle.label_sets.proofs.InitSets.{init-state-left, initialised-same, none-left, reads-left, stands-here, state-here, uninit-at, uninit-is, uninit-slots, uninit-state}
use Rattle.module_flips.proofs.Sweeping.{all-bounded}
use Rattle.label_sets.proofs.sets.Sets.init.Goals as goal

pub returns-in_default-clause-refused : goal.returns-in_default-clause-refused
returns-in_default-clause-refused g c = λ told all.
    let sets = c.args.self.now in
    let ms_is : c.self.inside.modules.items ≡ sets.modules = ap (λ (s : StoredSets). s.modules) c.self.view_is in
    let seat = c.seat_in-seat.result in
    let once : EachOnce sets.modules = subst EachOnce ms_is c.self.invariant.once in
    let seen : c.deref.result.now ≡ sets.modules = c.deref.ensures.value ∙ ms_is in
    let lt : seat < length sets.modules = subst (λ (ms : List LoadedModule). seat < length ms) seen c.seat_in-seat.ensures.within in
    let named : (d : LoadedModule) → (get_or sets.modules seat d).dimm ≡ c.args.dimm = subst (λ ms. (d : LoadedModule) → (get_or ms seat d).dimm ≡ c.args.dimm) seen c.seat_in-seat.ensures.dimm in
    let x = c.index-in_default.result.now in
    let is : x ≡ get_or sets.modules seat x = subst (λ ms. x ≡ get_or ms seat x) ms_is c.index-in_default.ensures in
    let areas : Areas = g.R.Shown.areas c.args.rig.now in
    refused-so c.refusal.result (λ s. s ≡ area_state (platform_in sets) (labels_in sets) x) (λ s. state_at sets c.args.dimm ≡ Some s)
    (λ s e. state-here sets seat c.args.dimm x once lt named is ∙ ap Some (sym e))
    (c.refusal.ensures.refused told (stands-here sets seat c.args.dimm x once lt named is areas all))

pub returns-in_default-clause-any_moment : goal.returns-in_default-clause-any_moment
returns-in_default-clause-any_moment g c = λ told all.
    let sets = c.args.self.now in
    reads-left sets g.R.Shown c.args.rig.now c.refusal.new.rig (λ labels. state (platform_in sets) labels ≡ initialised_state (platform_in sets) c.args.dimm (slots_at sets c.args.dimm) (state_in sets)) all c.refusal.ensures.reads_only

pub returns-in-Err-clause-any_moment : goal.returns-in-Err-clause-any_moment
returns-in-Err-clause-any_moment g c = λ told all.
    let sets = c.args.self.now in
    none-left sets g.R.Shown c.args.rig.now c.args.rig.now (λ labels. state (platform_in sets) labels ≡ initialised_state (platform_in sets) c.args.dimm (slots_at sets c.args.dimm) (state_in sets)) all

pub init_at-requires-clause-in_use : goal.init_at-requires-clause-in_use
init_at-requires-clause-in_use g c =
    subst (All HasLabelsInUse) (sym c.deref_mut.ensures.value) c.self.invariant.in_use

pub init_at-requires-clause-over : goal.init_at-requires-clause-over
init_at-requires-clause-over g c =
    subst (λ rs. All (IsOver c.deref_mut.result.now) rs) (sym c.deref-2.ensures.value) (subst (λ ms. All (IsOver ms) c.self.inside.regions.items) (sym c.deref_mut.ensures.value) c.self.invariant.over)

pub invariant_of-self : goal.invariant_of-self
invariant_of-self g c =
    let new : List LoadedModule = c.init_at.new.modules in
    let kept = c.self.invariant in
    let to : IsInitialisedTo c.deref_mut.result.now new c.deref-2.result.now c.in-Some-found.vacant.dimm c.in-Some-found.vacant.geometry.slots = c.in-Ok-init_at.ensures.initialised in
    let m : new ≡ (with_items c.self.inside.modules new).items = sym (with_items_is c.self.inside.modules new (to.others.each ∙ ap length c.deref_mut.ensures.value ∙ sym c.self.inside.modules.ok.0)) in
    record {
      once = subst EachOnce m to.once;
      own = subst (All IsOwn) m to.own;
      in_use = subst (All HasLabelsInUse) m to.in_use;
      disjoint = kept.disjoint;
      over = subst (λ ms. All (IsOver ms) c.self.inside.regions.items) m (subst (All (IsOver new)) c.deref-2.ensures.value to.over);
      free = subst (IsKnownFree (with_items c.self.inside.modules new).items c.self.inside.regions.items) (sym c.known.ensures)
          (subst (λ ms. AllFree ms c.self.inside.regions.items c.in-Ok-init_at.lists.free.items) m (subst (λ rs. AllFree new rs c.in-Ok-init_at.lists.free.items) c.deref-2.ensures.value c.in-Ok-init_at.ensures.free));
      ready = tt;
      few = kept.few;
      slots = subst (All (HasSlotsWithin (vec_capacity c.in-Ok-init_at.lists.slots))) m c.in-Ok-init_at.ensures.slots;
      lost = subst (All (HasSlotsWithin (vec_capacity c.in-Ok-init_at.lists.lost))) m c.in-Ok-init_at.ensures.lost;
      room = λ e. absurd (false≢true e);
    }

pub invariant_of-self-in-Err-init_at : goal.invariant_of-self-in-Err-init_at
invariant_of-self-in-Err-init_at g c =
    let kept = c.self.invariant in
    let new : List LoadedModule = c.init_at.new.modules in
    let e : new ≡ c.self.inside.modules.items = c.in-Err-init_at.ensures.kept ∙ c.deref_mut.ensures.value in
    let m : c.self.inside.modules.items ≡ (with_items c.self.inside.modules new).items = sym (with_items_is c.self.inside.modules new (ap length e ∙ sym c.self.inside.modules.ok.0) ∙ e) in
    record {
      once = subst EachOnce m kept.once;
      own = subst (All IsOwn) m kept.own;
      in_use = subst (All HasLabelsInUse) m kept.in_use;
      disjoint = kept.disjoint;
      over = subst (λ ms. All (IsOver ms) c.self.inside.regions.items) m kept.over;
      free = subst (λ ms. IsKnownFree ms c.self.inside.regions.items c.self.inside.free) m kept.free;
      ready = subst (λ ms. IsKnownReady ms c.self.inside.regions.items c.self.inside.ready) m kept.ready;
      few = kept.few;
      slots = subst (All (HasSlotsWithin (vec_capacity c.self.inside.slots))) m kept.slots;
      lost = subst (All (HasSlotsWithin (vec_capacity c.self.inside.lost))) m kept.lost;
      room = kept.room;
    }

pub returns-in-Ok-init_at-clause-slots : goal.returns-in-Ok-init_at-clause-slots
returns-in-Ok-init_at-clause-slots g c =
    let vacant_is : IsVacantArea c.args.dimm c.in-Some.size c.in-Some-found.vacant = subst (IsVacantOf c.args.dimm c.in-Some.size) c.in-Some-found.is c.in-Ok.ensures.vacant in
    let sets = c.args.self.now in
    let ms_is : c.self.inside.modules.items ≡ sets.modules = ap (λ (s : StoredSets). s.modules) c.self.view_is in
    let seat = c.seat_in-seat.result in
    let once : EachOnce sets.modules = subst EachOnce ms_is c.self.invariant.once in
    let seen : c.deref.result.now ≡ sets.modules = c.deref.ensures.value ∙ ms_is in
    let lt : seat < length sets.modules = subst (λ (ms : List LoadedModule). seat < length ms) seen c.seat_in-seat.ensures.within in
    let named : (d : LoadedModule) → (get_or sets.modules seat d).dimm ≡ c.args.dimm = subst (λ ms. (d : LoadedModule) → (get_or ms seat d).dimm ≡ c.args.dimm) seen c.seat_in-seat.ensures.dimm in
    let x = c.index.result.now in
    let is : x ≡ get_or sets.modules seat x = subst (λ ms. x ≡ get_or ms seat x) ms_is c.index.ensures in
    let uninit : x.area ≡ Uninit c.in-Some.size = uninit-is x.area c.in-Some.size c.in-Some.ensures in
    let count : c.in-Some-found.vacant.geometry.slots ≡ slots_at sets c.args.dimm =
    slots-by c.in-Some.size c.in-Some-found.vacant.geometry vacant_is.geometry_is ∙ sym (uninit-slots sets seat c.args.dimm x once lt named is c.in-Some.size uninit) in
    c.slots-slots.ensures ∙ count

pub returns-in-Ok-init_at-clause-uninit : goal.returns-in-Ok-init_at-clause-uninit
returns-in-Ok-init_at-clause-uninit g c =
    let sets = c.args.self.now in
    let ms_is : c.self.inside.modules.items ≡ sets.modules = ap (λ (s : StoredSets). s.modules) c.self.view_is in
    let seat = c.seat_in-seat.result in
    let once : EachOnce sets.modules = subst EachOnce ms_is c.self.invariant.once in
    let seen : c.deref.result.now ≡ sets.modules = c.deref.ensures.value ∙ ms_is in
    let lt : seat < length sets.modules = subst (λ (ms : List LoadedModule). seat < length ms) seen c.seat_in-seat.ensures.within in
    let named : (d : LoadedModule) → (get_or sets.modules seat d).dimm ≡ c.args.dimm = subst (λ ms. (d : LoadedModule) → (get_or ms seat d).dimm ≡ c.args.dimm) seen c.seat_in-seat.ensures.dimm in
    let x = c.index.result.now in
    let is : x ≡ get_or sets.modules seat x = subst (λ ms. x ≡ get_or ms seat x) ms_is c.index.ensures in
    let uninit : x.area ≡ Uninit c.in-Some.size = uninit-is x.area c.in-Some.size c.in-Some.ensures in
    uninit-state sets seat c.args.dimm x once lt named is c.in-Some.size uninit

pub returns-in-Ok-init_at-clause-initialised : goal.returns-in-Ok-init_at-clause-initialised
returns-in-Ok-init_at-clause-initialised g c =
    let vacant_is : IsVacantArea c.args.dimm c.in-Some.size c.in-Some-found.vacant = subst (IsVacantOf c.args.dimm c.in-Some.size) c.in-Some-found.is c.in-Ok.ensures.vacant in
    let sets = c.args.self.now in
    let ms_is : c.self.inside.modules.items ≡ sets.modules = ap (λ (s : StoredSets). s.modules) c.self.view_is in
    let seat = c.seat_in-seat.result in
    let once : EachOnce sets.modules = subst EachOnce ms_is c.self.invariant.once in
    let seen : c.deref.result.now ≡ sets.modules = c.deref.ensures.value ∙ ms_is in
    let lt : seat < length sets.modules = subst (λ (ms : List LoadedModule). seat < length ms) seen c.seat_in-seat.ensures.within in
    let named : (d : LoadedModule) → (get_or sets.modules seat d).dimm ≡ c.args.dimm = subst (λ ms. (d : LoadedModule) → (get_or ms seat d).dimm ≡ c.args.dimm) seen c.seat_in-seat.ensures.dimm in
    let x = c.index.result.now in
    let is : x ≡ get_or sets.modules seat x = subst (λ ms. x ≡ get_or ms seat x) ms_is c.index.ensures in
    let uninit : x.area ≡ Uninit c.in-Some.size = uninit-is x.area c.in-Some.size c.in-Some.ensures in
    let count : c.in-Some-found.vacant.geometry.slots ≡ slots_at sets c.args.dimm =
    slots-by c.in-Some.size c.in-Some-found.vacant.geometry vacant_is.geometry_is ∙ sym (uninit-slots sets seat c.args.dimm x once lt named is c.in-Some.size uninit) in
    let new : List LoadedModule = c.init_at.new.modules in
    let to : IsInitialisedTo c.deref_mut.result.now new c.deref-2.result.now c.in-Some-found.vacant.dimm c.in-Some-found.vacant.geometry.slots = c.in-Ok-init_at.ensures.initialised in
    let was_is : c.deref_mut.result.now ≡ sets.modules = c.deref_mut.ensures.value ∙ ms_is in
    let now_is : new ≡ (with_items c.self.inside.modules new).items = sym (with_items_is c.self.inside.modules new (to.others.each ∙ ap length c.deref_mut.ensures.value ∙ sym c.self.inside.modules.ok.0)) in
    let handle : c.in-Some-found.vacant.dimm ≡ c.args.dimm = vacant_is.dimm_is in
    initialised-same c.in-Some-found.vacant.dimm c.args.dimm c.in-Some-found.vacant.geometry.slots (slots_at sets c.args.dimm) (modules.labels_in c.deref_mut.result.now) (labels_in sets) (modules.labels_in new) (modules.labels_in (with_items c.self.inside.modules new).items)
    handle count (ap modules.labels_in was_is) (ap modules.labels_in now_is) to.labels

pub returns-in-Ok-init_at-clause-state : goal.returns-in-Ok-init_at-clause-state
returns-in-Ok-init_at-clause-state g c =
    let vacant_is : IsVacantArea c.args.dimm c.in-Some.size c.in-Some-found.vacant = subst (IsVacantOf c.args.dimm c.in-Some.size) c.in-Some-found.is c.in-Ok.ensures.vacant in
    let sets = c.args.self.now in
    let ms_is : c.self.inside.modules.items ≡ sets.modules = ap (λ (s : StoredSets). s.modules) c.self.view_is in
    let seat = c.seat_in-seat.result in
    let once : EachOnce sets.modules = subst EachOnce ms_is c.self.invariant.once in
    let seen : c.deref.result.now ≡ sets.modules = c.deref.ensures.value ∙ ms_is in
    let lt : seat < length sets.modules = subst (λ (ms : List LoadedModule). seat < length ms) seen c.seat_in-seat.ensures.within in
    let named : (d : LoadedModule) → (get_or sets.modules seat d).dimm ≡ c.args.dimm = subst (λ ms. (d : LoadedModule) → (get_or ms seat d).dimm ≡ c.args.dimm) seen c.seat_in-seat.ensures.dimm in
    let x = c.index.result.now in
    let is : x ≡ get_or sets.modules seat x = subst (λ ms. x ≡ get_or ms seat x) ms_is c.index.ensures in
    let uninit : x.area ≡ Uninit c.in-Some.size = uninit-is x.area c.in-Some.size c.in-Some.ensures in
    let count : c.in-Some-found.vacant.geometry.slots ≡ slots_at sets c.args.dimm =
    slots-by c.in-Some.size c.in-Some-found.vacant.geometry vacant_is.geometry_is ∙ sym (uninit-slots sets seat c.args.dimm x once lt named is c.in-Some.size uninit) in
    let new : List LoadedModule = c.init_at.new.modules in
    let to : IsInitialisedTo c.deref_mut.result.now new c.deref-2.result.now c.in-Some-found.vacant.dimm c.in-Some-found.vacant.geometry.slots = c.in-Ok-init_at.ensures.initialised in
    let was_is : c.deref_mut.result.now ≡ sets.modules = c.deref_mut.ensures.value ∙ ms_is in
    let now_is : new ≡ (with_items c.self.inside.modules new).items = sym (with_items_is c.self.inside.modules new (to.others.each ∙ ap length c.deref_mut.ensures.value ∙ sym c.self.inside.modules.ok.0)) in
    let handle : c.in-Some-found.vacant.dimm ≡ c.args.dimm = vacant_is.dimm_is in
    let disjoint : IsDisjoint (platform_in sets) = subst (λ (s : StoredSets). IsDisjoint (platform_in s)) c.self.view_is c.self.invariant.disjoint in
    let bounded : IsBounded (labels_in sets) = all-bounded sets.modules (subst (All HasLabelsInUse) ms_is c.self.invariant.in_use) in
    let now : Labels = modules.labels_in (with_items c.self.inside.modules new).items in
    let init : IsInitialised c.args.dimm (slots_at sets c.args.dimm) (labels_in sets) now =
    initialised-same c.in-Some-found.vacant.dimm c.args.dimm c.in-Some-found.vacant.geometry.slots (slots_at sets c.args.dimm) (modules.labels_in c.deref_mut.result.now) (labels_in sets) (modules.labels_in new) now
    handle count (ap modules.labels_in was_is) (ap modules.labels_in now_is) to.labels in
    let platform : platform_of c.self.inside.regions.items ≡ platform_in sets = ap platform_in c.self.view_is in
    ap (λ P. state P now) platform ∙ settles c.args.dimm (slots_at sets c.args.dimm) (labels_in sets) now init (platform_in sets) disjoint bounded

pub returns-in-Ok-init_at-clause-others : goal.returns-in-Ok-init_at-clause-others
returns-in-Ok-init_at-clause-others g c =
    let vacant_is : IsVacantArea c.args.dimm c.in-Some.size c.in-Some-found.vacant = subst (IsVacantOf c.args.dimm c.in-Some.size) c.in-Some-found.is c.in-Ok.ensures.vacant in
    let ms_is : c.self.inside.modules.items ≡ c.args.self.now.modules = ap (λ (s : StoredSets). s.modules) c.self.view_is in
    let sets = c.args.self.now in
    let new : List LoadedModule = c.init_at.new.modules in
    let to : IsInitialisedTo c.deref_mut.result.now new c.deref-2.result.now c.in-Some-found.vacant.dimm c.in-Some-found.vacant.geometry.slots = c.in-Ok-init_at.ensures.initialised in
    let was_is : c.deref_mut.result.now ≡ sets.modules = c.deref_mut.ensures.value ∙ ms_is in
    let now_is : new ≡ (with_items c.self.inside.modules new).items = sym (with_items_is c.self.inside.modules new (to.others.each ∙ ap length c.deref_mut.ensures.value ∙ sym c.self.inside.modules.ok.0)) in
    let handle : c.in-Some-found.vacant.dimm ≡ c.args.dimm = vacant_is.dimm_is in
    subst (λ ms. ChangesOnly c.args.dimm sets.modules ms) now_is (subst (λ ms. ChangesOnly c.args.dimm ms new) was_is (subst (λ h. ChangesOnly h c.deref_mut.result.now new) handle to.others))

pub returns-in-Ok-init_at-clause-stands : goal.returns-in-Ok-init_at-clause-stands
returns-in-Ok-init_at-clause-stands g c = λ told all unfailed_is.
    let vacant_is : IsVacantArea c.args.dimm c.in-Some.size c.in-Some-found.vacant = subst (IsVacantOf c.args.dimm c.in-Some.size) c.in-Some-found.is c.in-Ok.ensures.vacant in
    let ms_is : c.self.inside.modules.items ≡ c.args.self.now.modules = ap (λ (s : StoredSets). s.modules) c.self.view_is in
    let sets = c.args.self.now in
    let new : List LoadedModule = c.init_at.new.modules in
    let to : IsInitialisedTo c.deref_mut.result.now new c.deref-2.result.now c.in-Some-found.vacant.dimm c.in-Some-found.vacant.geometry.slots = c.in-Ok-init_at.ensures.initialised in
    let was_is : c.deref_mut.result.now ≡ sets.modules = c.deref_mut.ensures.value ∙ ms_is in
    let now_is : new ≡ (with_items c.self.inside.modules new).items = sym (with_items_is c.self.inside.modules new (to.others.each ∙ ap length c.deref_mut.ensures.value ∙ sym c.self.inside.modules.ok.0)) in
    let handle : c.in-Some-found.vacant.dimm ≡ c.args.dimm = vacant_is.dimm_is in
    subst (All (StandsIn (g.R.Shown.areas c.init_at.new.rig))) now_is
    (c.in-Ok-init_at.ensures.stands told (subst (All (StandsIn (g.R.Shown.areas c.args.rig.now))) (sym was_is) all))

pub returns-in-Ok-init_at-clause-any_moment : goal.returns-in-Ok-init_at-clause-any_moment
returns-in-Ok-init_at-clause-any_moment g c = λ told all.
    let vacant_is : IsVacantArea c.args.dimm c.in-Some.size c.in-Some-found.vacant = subst (IsVacantOf c.args.dimm c.in-Some.size) c.in-Some-found.is c.in-Ok.ensures.vacant in
    let sets = c.args.self.now in
    let ms_is : c.self.inside.modules.items ≡ sets.modules = ap (λ (s : StoredSets). s.modules) c.self.view_is in
    let seat = c.seat_in-seat.result in
    let once : EachOnce sets.modules = subst EachOnce ms_is c.self.invariant.once in
    let seen : c.deref.result.now ≡ sets.modules = c.deref.ensures.value ∙ ms_is in
    let lt : seat < length sets.modules = subst (λ (ms : List LoadedModule). seat < length ms) seen c.seat_in-seat.ensures.within in
    let named : (d : LoadedModule) → (get_or sets.modules seat d).dimm ≡ c.args.dimm = subst (λ ms. (d : LoadedModule) → (get_or ms seat d).dimm ≡ c.args.dimm) seen c.seat_in-seat.ensures.dimm in
    let x = c.index.result.now in
    let is : x ≡ get_or sets.modules seat x = subst (λ ms. x ≡ get_or ms seat x) ms_is c.index.ensures in
    let uninit : x.area ≡ Uninit c.in-Some.size = uninit-is x.area c.in-Some.size c.in-Some.ensures in
    let count : c.in-Some-found.vacant.geometry.slots ≡ slots_at sets c.args.dimm =
    slots-by c.in-Some.size c.in-Some-found.vacant.geometry vacant_is.geometry_is ∙ sym (uninit-slots sets seat c.args.dimm x once lt named is c.in-Some.size uninit) in
    let was_is : c.deref_mut.result.now ≡ sets.modules = c.deref_mut.ensures.value ∙ ms_is in
    let handle : c.in-Some-found.vacant.dimm ≡ c.args.dimm = vacant_is.dimm_is in
    let disjoint : IsDisjoint (platform_in sets) = subst (λ (s : StoredSets). IsDisjoint (platform_in s)) c.self.view_is c.self.invariant.disjoint in
    let bounded : IsBounded (labels_in sets) = all-bounded sets.modules (subst (All HasLabelsInUse) ms_is c.self.invariant.in_use) in
    let area = c.in-Some-found.vacant in
    let at = uninit-at sets seat c.args.dimm x once lt named is c.in-Some.size uninit in
    let init : IsInitialised c.args.dimm (slots_at sets c.args.dimm) (labels_in sets) (with_module c.args.dimm (vacant_module (slots_at sets c.args.dimm)) (labels_in sets)) =
    initialised-with c.args.dimm (slots_at sets c.args.dimm) (labels_in sets)
    (was-unready sets.modules seat c.args.dimm c.in-Some.size area lt named at vacant_is once)
    (had-none sets.modules seat c.args.dimm c.in-Some.size area lt named at vacant_is once) in
    let m = g.R.Shown in
    let old = c.args.rig.now in
    let later = c.init_at.new.rig in
    let turn : LeavesOnly m old later (LeftIn (map dimm_of c.deref_mut.result.now) (m.said old) (IsOneOf (modules.labels_in c.deref_mut.result.now) (with_module c.args.dimm (vacant_module (slots_at sets c.args.dimm)) (modules.labels_in c.deref_mut.result.now)))) =
    subst (λ n. LeavesOnly m old later (LeftIn (map dimm_of c.deref_mut.result.now) (m.said old) (IsOneOf (modules.labels_in c.deref_mut.result.now) (with_module c.args.dimm (vacant_module n) (modules.labels_in c.deref_mut.result.now))))) count
    (subst (λ h. LeavesOnly m old later (LeftIn (map dimm_of c.deref_mut.result.now) (m.said old) (IsOneOf (modules.labels_in c.deref_mut.result.now) (with_module h (vacant_module area.geometry.slots) (modules.labels_in c.deref_mut.result.now))))) handle
    (c.init_at.ensures.any_moment told (subst (All (StandsIn (m.areas old))) (sym was_is) all))) in
    init-state-left sets m old later c.args.dimm (slots_at sets c.args.dimm) (map dimm_of c.deref_mut.result.now) (modules.labels_in c.deref_mut.result.now) (ap (map dimm_of) was_is) (ap modules.labels_in was_is)
    (ap (λ (L : Labels). state (platform_in sets) (with_module c.args.dimm (vacant_module (slots_at sets c.args.dimm)) L)) (ap modules.labels_in was_is)
    ∙ settles c.args.dimm (slots_at sets c.args.dimm) (labels_in sets) (with_module c.args.dimm (vacant_module (slots_at sets c.args.dimm)) (labels_in sets)) init (platform_in sets) disjoint bounded) turn

pub returns-in-Ok-init_at-clause-unwritten : goal.returns-in-Ok-init_at-clause-unwritten
returns-in-Ok-init_at-clause-unwritten g c = λ told other.
    let vacant_is : IsVacantArea c.args.dimm c.in-Some.size c.in-Some-found.vacant = subst (IsVacantOf c.args.dimm c.in-Some.size) c.in-Some-found.is c.in-Ok.ensures.vacant in
    let areas : Areas = g.R.Shown.areas c.args.rig.now in
    c.init_at.ensures.unwritten told (subst (λ h. area_kind (get areas h) ≢ kind.Uninit) (sym vacant_is.dimm_is) other)

pub returns-in-Err-init_at-clause-refused : goal.returns-in-Err-init_at-clause-refused
returns-in-Err-init_at-clause-refused g c = λ told all.
    let sets = c.args.self.now in
    let was_is : c.deref_mut.result.now ≡ sets.modules = c.deref_mut.ensures.value ∙ ap (λ (s : StoredSets). s.modules) c.self.view_is in
    refused-so c.in-Err-init_at.fault (λ s. ⊥) (λ s. state_at sets c.args.dimm ≡ Some s) (λ s never. absurd never)
    (c.in-Err-init_at.ensures.told told (subst (All (StandsIn (g.R.Shown.areas c.args.rig.now))) (sym was_is) all))

pub returns-in-Err-init_at-clause-stands : goal.returns-in-Err-init_at-clause-stands
returns-in-Err-init_at-clause-stands g c = λ told all not_failed.
    let sets = c.args.self.now in
    let new : List LoadedModule = c.init_at.new.modules in
    let e : new ≡ c.self.inside.modules.items = c.in-Err-init_at.ensures.kept ∙ c.deref_mut.ensures.value in
    let m : c.self.inside.modules.items ≡ (with_items c.self.inside.modules new).items = sym (with_items_is c.self.inside.modules new (ap length e ∙ sym c.self.inside.modules.ok.0) ∙ e) in
    let read : Reads g.R.Shown c.args.rig.now c.init_at.new.rig = unfailed c.in-Err-init_at.fault (Reads g.R.Shown c.args.rig.now c.init_at.new.rig) c.in-Err-init_at.ensures.reads_only not_failed in
    subst (All (StandsIn (g.R.Shown.areas c.init_at.new.rig))) (sym (ap (λ (s : StoredSets). s.modules) c.self.view_is) ∙ m)
    (subst (λ (now : Areas). All (StandsIn now) sets.modules) (sym read.areas) all)

pub returns-in-Err-init_at-clause-any_moment : goal.returns-in-Err-init_at-clause-any_moment
returns-in-Err-init_at-clause-any_moment g c = λ told all.
    let vacant_is : IsVacantArea c.args.dimm c.in-Some.size c.in-Some-found.vacant = subst (IsVacantOf c.args.dimm c.in-Some.size) c.in-Some-found.is c.in-Ok.ensures.vacant in
    let sets = c.args.self.now in
    let ms_is : c.self.inside.modules.items ≡ sets.modules = ap (λ (s : StoredSets). s.modules) c.self.view_is in
    let seat = c.seat_in-seat.result in
    let once : EachOnce sets.modules = subst EachOnce ms_is c.self.invariant.once in
    let seen : c.deref.result.now ≡ sets.modules = c.deref.ensures.value ∙ ms_is in
    let lt : seat < length sets.modules = subst (λ (ms : List LoadedModule). seat < length ms) seen c.seat_in-seat.ensures.within in
    let named : (d : LoadedModule) → (get_or sets.modules seat d).dimm ≡ c.args.dimm = subst (λ ms. (d : LoadedModule) → (get_or ms seat d).dimm ≡ c.args.dimm) seen c.seat_in-seat.ensures.dimm in
    let x = c.index.result.now in
    let is : x ≡ get_or sets.modules seat x = subst (λ ms. x ≡ get_or ms seat x) ms_is c.index.ensures in
    let uninit : x.area ≡ Uninit c.in-Some.size = uninit-is x.area c.in-Some.size c.in-Some.ensures in
    let count : c.in-Some-found.vacant.geometry.slots ≡ slots_at sets c.args.dimm =
    slots-by c.in-Some.size c.in-Some-found.vacant.geometry vacant_is.geometry_is ∙ sym (uninit-slots sets seat c.args.dimm x once lt named is c.in-Some.size uninit) in
    let was_is : c.deref_mut.result.now ≡ sets.modules = c.deref_mut.ensures.value ∙ ms_is in
    let handle : c.in-Some-found.vacant.dimm ≡ c.args.dimm = vacant_is.dimm_is in
    let disjoint : IsDisjoint (platform_in sets) = subst (λ (s : StoredSets). IsDisjoint (platform_in s)) c.self.view_is c.self.invariant.disjoint in
    let bounded : IsBounded (labels_in sets) = all-bounded sets.modules (subst (All HasLabelsInUse) ms_is c.self.invariant.in_use) in
    let area = c.in-Some-found.vacant in
    let at = uninit-at sets seat c.args.dimm x once lt named is c.in-Some.size uninit in
    let init : IsInitialised c.args.dimm (slots_at sets c.args.dimm) (labels_in sets) (with_module c.args.dimm (vacant_module (slots_at sets c.args.dimm)) (labels_in sets)) =
    initialised-with c.args.dimm (slots_at sets c.args.dimm) (labels_in sets)
    (was-unready sets.modules seat c.args.dimm c.in-Some.size area lt named at vacant_is once)
    (had-none sets.modules seat c.args.dimm c.in-Some.size area lt named at vacant_is once) in
    let m = g.R.Shown in
    let old = c.args.rig.now in
    let later = c.init_at.new.rig in
    let turn : LeavesOnly m old later (LeftIn (map dimm_of c.deref_mut.result.now) (m.said old) (IsOneOf (modules.labels_in c.deref_mut.result.now) (with_module c.args.dimm (vacant_module (slots_at sets c.args.dimm)) (modules.labels_in c.deref_mut.result.now)))) =
    subst (λ n. LeavesOnly m old later (LeftIn (map dimm_of c.deref_mut.result.now) (m.said old) (IsOneOf (modules.labels_in c.deref_mut.result.now) (with_module c.args.dimm (vacant_module n) (modules.labels_in c.deref_mut.result.now))))) count
    (subst (λ h. LeavesOnly m old later (LeftIn (map dimm_of c.deref_mut.result.now) (m.said old) (IsOneOf (modules.labels_in c.deref_mut.result.now) (with_module h (vacant_module area.geometry.slots) (modules.labels_in c.deref_mut.result.now))))) handle
    (c.init_at.ensures.any_moment told (subst (All (StandsIn (m.areas old))) (sym was_is) all))) in
    init-state-left sets m old later c.args.dimm (slots_at sets c.args.dimm) (map dimm_of c.deref_mut.result.now) (modules.labels_in c.deref_mut.result.now) (ap (map dimm_of) was_is) (ap modules.labels_in was_is)
    (ap (λ (L : Labels). state (platform_in sets) (with_module c.args.dimm (vacant_module (slots_at sets c.args.dimm)) L)) (ap modules.labels_in was_is)
    ∙ settles c.args.dimm (slots_at sets c.args.dimm) (labels_in sets) (with_module c.args.dimm (vacant_module (slots_at sets c.args.dimm)) (labels_in sets)) init (platform_in sets) disjoint bounded) turn

pub returns-in-Err-init_at-clause-unwritten : goal.returns-in-Err-init_at-clause-unwritten
returns-in-Err-init_at-clause-unwritten g c = λ told other.
    let vacant_is : IsVacantArea c.args.dimm c.in-Some.size c.in-Some-found.vacant = subst (IsVacantOf c.args.dimm c.in-Some.size) c.in-Some-found.is c.in-Ok.ensures.vacant in
    let areas : Areas = g.R.Shown.areas c.args.rig.now in
    c.init_at.ensures.unwritten told (subst (λ h. area_kind (get areas h) ≢ kind.Uninit) (sym vacant_is.dimm_is) other)
