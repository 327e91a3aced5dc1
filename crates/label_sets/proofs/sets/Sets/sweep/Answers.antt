use Rattle.std.proofs.Common.{◌≡◌, ◌<◌, ℕ, List, [], ◌∷◌, Ok, Err, length, get_or, map, refl, sym, ap, subst, ◌∙◌}
use Rattle.std.specs.Vec.{with_items}
use Rattle.region_map.specs.declared.platform.Region.{Region}
use Rattle.label_table.specs.Tables.{State, state, table}
use Rattle.region_labels.specs.declared.modules.LoadedModule.{LoadedModule}
use Rattle.region_labels.specs.declared.region.RegionLabels.{RegionLabels}
use Rattle.region_labels.specs.Fates.{platform_of, region_in, with_regions}
use Rattle.region_labels.specs.Modules.{labels_in}
use Rattle.region_labels.specs.Changes.{dimm_at}
use Rattle.module_flips.specs.Passes.{IsPass, kept_of}
use Rattle.module_flips.specs.Sweeps.{ChangesOnly, IsSwept, IsSweptTo}
use Rattle.module_flips.proofs.Passes.{still-ended}
use Rattle.label_sets.specs.declared.sets.Sets.TheInside.{Inside}
use Rattle.label_sets.specs.Kept.{shown}
use Rattle.label_sets.specs.Sets.{StoredSets, platform_in, state_in}
use Rattle.label_sets.specs.Sweeps.{IsSweptAt}
use Rattle.label_sets.proofs.FreeAfter.{known-kept}
use Rattle.label_sets.proofs.Passes.{pass-seen}
use Rattle.label_sets.proofs.KnownReady.{ready-kept}
use Rattle.label_sets.proofs.SpareSlots.{spare-there}
use Rattle.label_sets.proofs.SweptSets.{kept-still, kept-unchanged, room-left, seat-named, swept-named, written-back}
use Rattle.label_sets.proofs.Written.{back-is}
use Rattle.label_sets.proofs.sets.Sets.sweep.Goals as goal

pub invariant_of-self : goal.invariant_of-self
invariant_of-self g c =
    let ms = c.self.inside.modules in
    let rs = c.self.inside.regions in
    let did = c.in-Err.ensures in
    kept-unchanged c.self.inside _ c.self.invariant (back-is ms c.sweep_labels.new.modules c.deref_mut.result.now c.deref_mut.ensures.value (ap length did.kept) ∙ did.kept ∙ c.deref_mut.ensures.value)
    (back-is rs c.sweep_labels.new.regions c.deref_mut-2.result.now c.deref_mut-2.ensures.value (ap length did.kept_regions) ∙ did.kept_regions ∙ c.deref_mut-2.ensures.value) refl refl c.sweep_labels.ensures.slots
    c.sweep_labels.ensures.lost refl

pub returns-in-Err-clause-pass : goal.returns-in-Err-clause-pass
returns-in-Err-clause-pass g c =
    let ms = c.deref_mut.result.now in
    let rs = c.deref_mut-2.result.now in
    pass-seen c.self.inside c.args.self.now c.self.view_is ms rs c.deref_mut.ensures.value c.deref_mut-2.ensures.value c.sweep_labels.new.modules c.sweep_labels.new.regions
    (λ sets. λ labels. state (platform_in sets) labels ≡ state_in sets)
    (subst (λ d. IsPass (d ∷ []) (λ labels. state (platform_of rs) labels ≡ state (platform_of rs) (labels_in ms)) g.R.Shown (kept_of ms rs) c.args.rig.now (kept_of c.sweep_labels.new.modules c.sweep_labels.new.regions) c.sweep_labels.new.rig (Err c.in-Err.failed))
    (seat-named c.deref_mut.result.now c.deref.result.now c.seat_of-seat.result c.args.dimm (c.deref.ensures.value ∙ sym c.deref_mut.ensures.value) c.seat_of-seat.ensures.within c.seat_of-seat.ensures.dimm)
    c.in-Err.ensures.pass)

pub invariant_of-self-2 : goal.invariant_of-self-2
invariant_of-self-2 g c =
    let seat = c.seat_of-seat.result in
    let kept = c.self.invariant in
    let ms = c.self.inside.modules.items in
    let rs = c.self.inside.regions.items in
    let now = (with_items c.self.inside.modules c.sweep_labels.new.modules).items in
    let regions = (with_items c.self.inside.regions c.sweep_labels.new.regions).items in
    let to : IsSweptTo ms rs now regions seat =
    written-back (λ ms rs now regions. IsSweptTo ms rs now regions seat) c.self.inside.modules c.self.inside.regions c.deref_mut.result.now c.deref_mut-2.result.now c.sweep_labels.new.modules c.sweep_labels.new.regions c.deref_mut.ensures.value
    c.deref_mut-2.ensures.value c.in_default.ensures.swept.together c.in_default.ensures.swept in
    let same_table : table (platform_of rs) (labels_in now) ≡ table (platform_of rs) (labels_in ms) =
    subst (λ (qs : List Region). table (with_regions qs) (labels_in now) ≡ table (platform_of rs) (labels_in ms)) to.together.same_regions (ap (λ (s : State). s.table) to.same_state) in
    kept-still c.self.inside _ kept to.together (known-kept ms rs kept.disjoint now regions to.together.same_regions c.self.inside.free kept.free same_table)
    (ready-kept ms rs kept.disjoint now regions to.together.same_regions c.self.inside.ready kept.ready same_table) c.sweep_labels.ensures.slots c.sweep_labels.ensures.lost
    (λ has. room-left rs regions c.self.inside.free to.together.same_regions to.entries (kept.room has))

pub returns-clause-swept : goal.returns-clause-swept
returns-clause-swept g c = λ place d lt is.
    let seat = c.seat_of-seat.result in
    let ms = c.self.inside.modules.items in
    let now = (with_items c.self.inside.modules c.sweep_labels.new.modules).items in
    let regions = (with_items c.self.inside.regions c.sweep_labels.new.regions).items in
    let to : IsSweptTo ms c.self.inside.regions.items now regions seat =
    written-back (λ ms rs now regions. IsSweptTo ms rs now regions seat) c.self.inside.modules c.self.inside.regions c.deref_mut.result.now c.deref_mut-2.result.now c.sweep_labels.new.modules c.sweep_labels.new.regions c.deref_mut.ensures.value
    c.deref_mut-2.ensures.value c.in_default.ensures.swept.together c.in_default.ensures.swept in
    swept-named (platform_of regions) ms now seat c.args.dimm to.together.dimms to.together.together.once to.swept (subst (λ (xs : List LoadedModule). seat < length xs) c.deref.ensures.value c.seat_of-seat.ensures.within)
    (seat-named ms c.deref.result.now seat c.args.dimm c.deref.ensures.value c.seat_of-seat.ensures.within c.seat_of-seat.ensures.dimm) place d lt is

pub returns-clause-spare : goal.returns-clause-spare
returns-clause-spare g c = λ place d lt is.
    let seat = c.seat_of-seat.result in
    let ms = c.self.inside.modules.items in
    let now = (with_items c.self.inside.modules c.sweep_labels.new.modules).items in
    let regions = (with_items c.self.inside.regions c.sweep_labels.new.regions).items in
    let to : IsSweptTo ms c.self.inside.regions.items now regions seat =
    written-back (λ ms rs now regions. IsSweptTo ms rs now regions seat) c.self.inside.modules c.self.inside.regions c.deref_mut.result.now c.deref_mut-2.result.now c.sweep_labels.new.modules c.sweep_labels.new.regions c.deref_mut.ensures.value
    c.deref_mut-2.ensures.value c.in_default.ensures.swept.together c.in_default.ensures.swept in
    (swept-named (platform_of regions) ms now seat c.args.dimm to.together.dimms to.together.together.once to.swept (subst (λ (xs : List LoadedModule). seat < length xs) c.deref.ensures.value c.seat_of-seat.ensures.within)
    (seat-named ms c.deref.result.now seat c.args.dimm c.deref.ensures.value c.seat_of-seat.ensures.within c.seat_of-seat.ensures.dimm) place d lt is).free
    ∙ spare-there (platform_of regions) now to.together.together.once place d lt c.args.dimm is

pub returns-clause-others : goal.returns-clause-others
returns-clause-others g c =
    let seat = c.seat_of-seat.result in
    let ms = c.self.inside.modules.items in
    let now = (with_items c.self.inside.modules c.sweep_labels.new.modules).items in
    let others : ChangesOnly (dimm_at ms seat) ms now = written-back (λ ms rs now regions. ChangesOnly (dimm_at ms seat) ms now) c.self.inside.modules c.self.inside.regions c.deref_mut.result.now c.deref_mut-2.result.now c.sweep_labels.new.modules c.sweep_labels.new.regions
    c.deref_mut.ensures.value c.deref_mut-2.ensures.value c.in_default.ensures.swept.together c.in_default.ensures.swept.others in
    subst (λ (xs : List LoadedModule). ChangesOnly c.args.dimm xs now) (ap (λ (s : StoredSets). s.modules) c.self.view_is)
    (subst (λ d. ChangesOnly d ms now) (seat-named ms c.deref.result.now seat c.args.dimm c.deref.ensures.value c.seat_of-seat.ensures.within c.seat_of-seat.ensures.dimm) others)

pub returns-clause-pass : goal.returns-clause-pass
returns-clause-pass g c =
    let ms = c.deref_mut.result.now in
    let rs = c.deref_mut-2.result.now in
    pass-seen c.self.inside c.args.self.now c.self.view_is ms rs c.deref_mut.ensures.value c.deref_mut-2.ensures.value c.sweep_labels.new.modules c.sweep_labels.new.regions
    (λ sets. λ labels. state (platform_in sets) labels ≡ state_in sets)
    (subst (λ d. IsPass (d ∷ []) (λ labels. state (platform_of rs) labels ≡ state (platform_of rs) (labels_in ms)) g.R.Shown (kept_of ms rs) c.args.rig.now (kept_of c.sweep_labels.new.modules c.sweep_labels.new.regions) c.sweep_labels.new.rig (Ok tt))
    (seat-named c.deref_mut.result.now c.deref.result.now c.seat_of-seat.result c.args.dimm (c.deref.ensures.value ∙ sym c.deref_mut.ensures.value) c.seat_of-seat.ensures.within c.seat_of-seat.ensures.dimm)
    (still-ended c.in_default.ensures.pass))

-- a module that is swept is not flipped
idle-at : {R : Type 0} {old new : R} (inside : Inside) (sets : StoredSets) → shown inside ≡ sets → (ms : List LoadedModule) (rs : List RegionLabels) → ms ≡ inside.modules.items → rs ≡ inside.regions.items → (seat dimm : ℕ) → seat < length ms
    → ((d : LoadedModule) → (get_or ms seat d).dimm ≡ dimm) → (((d : LoadedModule) → IsSwept (platform_of rs) (labels_in ms) (get_or ms seat d)) → new ≡ old) → IsSweptAt sets dimm → new ≡ old
idle-at inside sets view ms rs same same_regions seat dimm lt named idle clean =
    let before : ◌≡◌ {A = StoredSets} (record { regions = map region_in rs; modules = ms; room = inside.room }) sets = (λ i. record { regions = map region_in (same_regions i); modules = same i; room = inside.room }) ∙ view in
    idle (λ d. subst (λ (s : StoredSets). IsSweptAt s dimm) (sym before) clean seat d lt (named d))

pub returns-clause-idle : goal.returns-clause-idle
returns-clause-idle g c = idle-at c.self.inside c.args.self.now c.self.view_is c.deref_mut.result.now c.deref_mut-2.result.now c.deref_mut.ensures.value c.deref_mut-2.ensures.value c.seat_of-seat.result c.args.dimm
    (subst (λ (xs : List LoadedModule). c.seat_of-seat.result < length xs) (c.deref.ensures.value ∙ sym c.deref_mut.ensures.value) c.seat_of-seat.ensures.within)
    (subst (λ (xs : List LoadedModule). (d : LoadedModule) → (get_or xs c.seat_of-seat.result d).dimm ≡ c.args.dimm) (c.deref.ensures.value ∙ sym c.deref_mut.ensures.value) c.seat_of-seat.ensures.dimm)
    c.sweep_labels.ensures.idle

pub returns-in-Err-clause-idle : goal.returns-in-Err-clause-idle
returns-in-Err-clause-idle g c = idle-at c.self.inside c.args.self.now c.self.view_is c.deref_mut.result.now c.deref_mut-2.result.now c.deref_mut.ensures.value c.deref_mut-2.ensures.value c.seat_of-seat.result c.args.dimm
    (subst (λ (xs : List LoadedModule). c.seat_of-seat.result < length xs) (c.deref.ensures.value ∙ sym c.deref_mut.ensures.value) c.seat_of-seat.ensures.within)
    (subst (λ (xs : List LoadedModule). (d : LoadedModule) → (get_or xs c.seat_of-seat.result d).dimm ≡ c.args.dimm) (c.deref.ensures.value ∙ sym c.deref_mut.ensures.value) c.seat_of-seat.ensures.dimm)
    c.sweep_labels.ensures.idle
