use Rattle.std.proofs.Common.{◌≡◌, ◌<◌, false, true, List, [], ◌∷◌, Ok, Err, length, refl, sym, ap, subst, ◌∙◌}
use Rattle.std.specs.Vec.{with_items}
use Rattle.label_codec.specs.ModuleLabels.{has}
use Rattle.label_table.specs.Fates.{held_count}
use Rattle.label_table.specs.Tables.{state}
use Rattle.region_labels.specs.declared.modules.LoadedModule.{LoadedModule}
use Rattle.region_labels.specs.declared.region.RegionLabels.{RegionLabels}
use Rattle.region_labels.specs.Fates.{platform_of}
use Rattle.region_labels.specs.Modules.{labels_in}
use Rattle.region_labels.specs.Changes.{dimm_at}
use Rattle.module_flips.specs.Passes.{IsPass, kept_of}
use Rattle.module_flips.specs.Releases.{IsBeforeOrReleased, IsReleasedTo, released_state}
use Rattle.module_flips.specs.Sweeps.{ChangesOnly}
use Rattle.label_sets.specs.Kept.{IsKnownFree}
use Rattle.label_sets.specs.Sets.{StoredSets, platform_in, state_in}
use Rattle.label_sets.specs.Sets as stored
use Rattle.label_sets.proofs.Passes.{pass-seen}
use Rattle.label_sets.proofs.SpareSlots.{spare-there}
use Rattle.label_sets.proofs.SweptSets.{kept-still, kept-unchanged, seat-named, swept-named, written-back}
use Rattle.label_sets.proofs.Written.{back-is}
use Rattle.label_sets.proofs.sets.Sets.release.Goals as goal

pub release_labels-requires-clause-held : goal.release_labels-requires-clause-held
release_labels-requires-clause-held g c =
    let u = c.args.uuid.now in
    let dimm = c.args.dimm in
    let ms = c.deref_mut.result.now in
    let rs = c.deref_mut-2.result.now in
    subst (λ h. 0 < held_count (platform_of rs) (labels_in ms) h (has u))
    (sym (seat-named ms c.deref.result.now c.seat_of-seat.result dimm (c.deref.ensures.value ∙ sym c.deref_mut.ensures.value) c.seat_of-seat.ensures.within c.seat_of-seat.ensures.dimm))
    (subst (λ (xs : List LoadedModule). 0 < held_count (platform_of rs) (labels_in xs) dimm (has u)) (sym c.deref_mut.ensures.value)
    (subst (λ (ys : List RegionLabels). 0 < held_count (platform_of ys) (labels_in c.self.inside.modules.items) dimm (has u)) (sym c.deref_mut-2.ensures.value)
    (subst (λ (s : StoredSets). 0 < held_count (platform_in s) (stored.labels_in s) dimm (has u)) (sym c.self.view_is) c.requires.release.held)))

apart : {A : Type 0} → false ≡ true → A
apart e = absurd cc

pub invariant_of-self : goal.invariant_of-self
invariant_of-self g c =
    let seat = c.seat_of-seat.result in
    let to = written-back (λ ms rs now regions. IsReleasedTo ms rs now regions seat c.args.uuid.now) c.self.inside.modules c.self.inside.regions c.deref_mut.result.now c.deref_mut-2.result.now c.release_labels.new.modules c.release_labels.new.regions
    c.deref_mut.ensures.value c.deref_mut-2.ensures.value c.in-Ok.ensures.released.together c.in-Ok.ensures.released in
    kept-still c.self.inside _ c.self.invariant to.together
    (subst (IsKnownFree (with_items c.self.inside.modules c.release_labels.new.modules).items (with_items c.self.inside.regions c.release_labels.new.regions).items) (sym c.forget.ensures) tt)
    tt c.release_labels.ensures.slots c.release_labels.ensures.lost (λ has. apart has)

pub invariant_of-self-in-Err : goal.invariant_of-self-in-Err
invariant_of-self-in-Err g c =
    let ms = c.self.inside.modules in
    let rs = c.self.inside.regions in
    let did = c.in-Err.ensures in
    kept-unchanged c.self.inside _ c.self.invariant (back-is ms c.release_labels.new.modules c.deref_mut.result.now c.deref_mut.ensures.value (ap length did.kept) ∙ did.kept ∙ c.deref_mut.ensures.value)
    (back-is rs c.release_labels.new.regions c.deref_mut-2.result.now c.deref_mut-2.ensures.value (ap length did.kept_regions) ∙ did.kept_regions ∙ c.deref_mut-2.ensures.value) refl refl
    c.release_labels.ensures.slots c.release_labels.ensures.lost refl

pub returns-in-Ok-clause-count : goal.returns-in-Ok-clause-count
returns-in-Ok-clause-count g c =
    let u = c.args.uuid.now in
    let dimm = c.args.dimm in
    let ms = c.deref_mut.result.now in
    let rs = c.deref_mut-2.result.now in
    c.in-Ok.ensures.count
    ∙ ap (λ h. held_count (platform_of rs) (labels_in ms) h (has u)) (seat-named ms c.deref.result.now c.seat_of-seat.result dimm (c.deref.ensures.value ∙ sym c.deref_mut.ensures.value) c.seat_of-seat.ensures.within c.seat_of-seat.ensures.dimm)
    ∙ (λ i. held_count (platform_of (c.deref_mut-2.ensures.value i)) (labels_in (c.deref_mut.ensures.value i)) dimm (has u)) ∙ ap (λ (s : StoredSets). held_count (platform_in s) (stored.labels_in s) dimm (has u)) c.self.view_is

pub returns-in-Ok-clause-released : goal.returns-in-Ok-clause-released
returns-in-Ok-clause-released g c =
    let seat = c.seat_of-seat.result in
    let u = c.args.uuid.now in
    let now = (with_items c.self.inside.modules c.release_labels.new.modules).items in
    let regions = (with_items c.self.inside.regions c.release_labels.new.regions).items in
    let P = platform_of c.self.inside.regions.items in
    let to : IsReleasedTo c.self.inside.modules.items c.self.inside.regions.items now regions seat u =
    written-back (λ ms rs now regions. IsReleasedTo ms rs now regions seat u) c.self.inside.modules c.self.inside.regions c.deref_mut.result.now c.deref_mut-2.result.now c.release_labels.new.modules c.release_labels.new.regions
    c.deref_mut.ensures.value c.deref_mut-2.ensures.value c.in-Ok.ensures.released.together c.in-Ok.ensures.released in
    subst (λ (s : StoredSets). state (platform_of regions) (labels_in now) ≡ released_state (platform_in s) c.args.dimm u (state_in s)) c.self.view_is
    (to.state_is
    ∙ ap (λ h. released_state P h u (state P (labels_in c.self.inside.modules.items)))
    (seat-named c.self.inside.modules.items c.deref.result.now seat c.args.dimm c.deref.ensures.value c.seat_of-seat.ensures.within c.seat_of-seat.ensures.dimm))

pub returns-in-Ok-clause-swept : goal.returns-in-Ok-clause-swept
returns-in-Ok-clause-swept g c = λ place d lt is.
    let seat = c.seat_of-seat.result in
    let u = c.args.uuid.now in
    let ms = c.self.inside.modules.items in
    let now = (with_items c.self.inside.modules c.release_labels.new.modules).items in
    let regions = (with_items c.self.inside.regions c.release_labels.new.regions).items in
    let to : IsReleasedTo ms c.self.inside.regions.items now regions seat u =
    written-back (λ ms rs now regions. IsReleasedTo ms rs now regions seat u) c.self.inside.modules c.self.inside.regions c.deref_mut.result.now c.deref_mut-2.result.now c.release_labels.new.modules c.release_labels.new.regions
    c.deref_mut.ensures.value c.deref_mut-2.ensures.value c.in-Ok.ensures.released.together c.in-Ok.ensures.released in
    swept-named (platform_of regions) ms now seat c.args.dimm to.together.dimms to.together.together.once to.swept (subst (λ (xs : List LoadedModule). seat < length xs) c.deref.ensures.value c.seat_of-seat.ensures.within)
    (seat-named ms c.deref.result.now seat c.args.dimm c.deref.ensures.value c.seat_of-seat.ensures.within c.seat_of-seat.ensures.dimm) place d lt is

pub returns-in-Ok-clause-spare : goal.returns-in-Ok-clause-spare
returns-in-Ok-clause-spare g c = λ place d lt is.
    let seat = c.seat_of-seat.result in
    let u = c.args.uuid.now in
    let ms = c.self.inside.modules.items in
    let now = (with_items c.self.inside.modules c.release_labels.new.modules).items in
    let regions = (with_items c.self.inside.regions c.release_labels.new.regions).items in
    let to : IsReleasedTo ms c.self.inside.regions.items now regions seat u =
    written-back (λ ms rs now regions. IsReleasedTo ms rs now regions seat u) c.self.inside.modules c.self.inside.regions c.deref_mut.result.now c.deref_mut-2.result.now c.release_labels.new.modules c.release_labels.new.regions
    c.deref_mut.ensures.value c.deref_mut-2.ensures.value c.in-Ok.ensures.released.together c.in-Ok.ensures.released in
    (swept-named (platform_of regions) ms now seat c.args.dimm to.together.dimms to.together.together.once to.swept (subst (λ (xs : List LoadedModule). seat < length xs) c.deref.ensures.value c.seat_of-seat.ensures.within)
    (seat-named ms c.deref.result.now seat c.args.dimm c.deref.ensures.value c.seat_of-seat.ensures.within c.seat_of-seat.ensures.dimm) place d lt is).free
    ∙ spare-there (platform_of regions) now to.together.together.once place d lt c.args.dimm is

pub returns-in-Ok-clause-others : goal.returns-in-Ok-clause-others
returns-in-Ok-clause-others g c =
    let seat = c.seat_of-seat.result in
    let ms = c.self.inside.modules.items in
    let now = (with_items c.self.inside.modules c.release_labels.new.modules).items in
    let others : ChangesOnly (dimm_at ms seat) ms now = written-back (λ ms rs now regions. ChangesOnly (dimm_at ms seat) ms now) c.self.inside.modules c.self.inside.regions c.deref_mut.result.now c.deref_mut-2.result.now c.release_labels.new.modules c.release_labels.new.regions
    c.deref_mut.ensures.value c.deref_mut-2.ensures.value c.in-Ok.ensures.released.together c.in-Ok.ensures.released.others in
    subst (λ (xs : List LoadedModule). ChangesOnly c.args.dimm xs now) (ap (λ (s : StoredSets). s.modules) c.self.view_is)
    (subst (λ d. ChangesOnly d ms now) (seat-named ms c.deref.result.now seat c.args.dimm c.deref.ensures.value c.seat_of-seat.ensures.within c.seat_of-seat.ensures.dimm) others)

pub returns-in-Ok-clause-pass : goal.returns-in-Ok-clause-pass
returns-in-Ok-clause-pass g c =
    let ms = c.deref_mut.result.now in
    let rs = c.deref_mut-2.result.now in
    pass-seen c.self.inside c.args.self.now c.self.view_is ms rs c.deref_mut.ensures.value c.deref_mut-2.ensures.value c.release_labels.new.modules c.release_labels.new.regions
    (λ sets. IsBeforeOrReleased (platform_in sets) c.args.dimm c.args.uuid.now (stored.labels_in sets))
    (subst (λ d. IsPass (d ∷ []) (IsBeforeOrReleased (platform_of rs) d c.args.uuid.now (labels_in ms)) g.R.Shown (kept_of ms rs) c.args.rig.now (kept_of c.release_labels.new.modules c.release_labels.new.regions) c.release_labels.new.rig (Ok c.in-Ok.count))
    (seat-named c.deref_mut.result.now c.deref.result.now c.seat_of-seat.result c.args.dimm (c.deref.ensures.value ∙ sym c.deref_mut.ensures.value) c.seat_of-seat.ensures.within c.seat_of-seat.ensures.dimm)
    c.in-Ok.ensures.pass)

pub returns-in-Err-clause-pass : goal.returns-in-Err-clause-pass
returns-in-Err-clause-pass g c =
    let ms = c.deref_mut.result.now in
    let rs = c.deref_mut-2.result.now in
    pass-seen c.self.inside c.args.self.now c.self.view_is ms rs c.deref_mut.ensures.value c.deref_mut-2.ensures.value c.release_labels.new.modules c.release_labels.new.regions
    (λ sets. IsBeforeOrReleased (platform_in sets) c.args.dimm c.args.uuid.now (stored.labels_in sets))
    (subst (λ d. IsPass (d ∷ []) (IsBeforeOrReleased (platform_of rs) d c.args.uuid.now (labels_in ms)) g.R.Shown (kept_of ms rs) c.args.rig.now (kept_of c.release_labels.new.modules c.release_labels.new.regions) c.release_labels.new.rig (Err c.in-Err.failed))
    (seat-named c.deref_mut.result.now c.deref.result.now c.seat_of-seat.result c.args.dimm (c.deref.ensures.value ∙ sym c.deref_mut.ensures.value) c.seat_of-seat.ensures.within c.seat_of-seat.ensures.dimm)
    c.in-Err.ensures.pass)
