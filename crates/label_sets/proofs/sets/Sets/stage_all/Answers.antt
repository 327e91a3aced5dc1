use Rattle.std.proofs.Common.{◌≡◌, List, map, Some, sym, ap, subst, ◌∙◌}
use Rattle.std.specs.Option.{option_copied}
use Rattle.std.specs.Result.{OnOk}
use Rattle.std.proofs.lemmas.Option.{same_Some}
use Rattle.std.specs.Vec.{with_items}
use Rattle.region_map.specs.declared.platform.Region.{Region}
use Rattle.region_map.specs.Platforms.{region_at}
use Rattle.region_labels.specs.declared.modules.LoadedModule.{LoadedModule}
use Rattle.region_labels.specs.Fates.{platform_of, region_in, with_regions}
use Rattle.region_labels.specs.Modules.{dimm_of, labels_in}
use Rattle.module_flips.specs.Together.{IsTogether}
use Rattle.region_labels.specs.Regions.{handles}
use Rattle.module_flips.specs.Passes.{IsPass, kept_of}
use Rattle.namespace_passes.specs.Staged.{IsBeforeOrWith, new_space}
use Rattle.namespace_passes.specs.Staging.{AreStaged}
use Rattle.label_sets.specs.Kept.{IsKnownFree, shown}
use Rattle.label_sets.specs.Sets.{StoredSets, platform_in}
use Rattle.label_sets.specs.Sets as stored
use Rattle.label_sets.specs.Staging.{CanStageAt, CanStageIn}
use Rattle.label_sets.specs.Views.{IsPlaceOf}
use Rattle.label_sets.proofs.Passes.{found-there, pass-seen}
use Rattle.label_sets.proofs.Stageable.{can-stage}
use Rattle.label_sets.proofs.Written.{back-is, few-still, same-count, slots-still}
use Rattle.label_sets.proofs.sets.Sets.stage_all.Goals as goal

pub stage_in-requires-clause-stage : goal.stage_in-requires-clause-stage
stage_in-requires-clause-stage g c =
    let kept = c.self.invariant in
    let ms = c.self.inside.modules.items in
    let rs = c.self.inside.regions.items in
    let fs = c.self.inside.free in
    let r = c.in-Some-Some.found.now in
    let same : c.args.platform.now.regions ≡ map region_in rs = c.requires.platform ∙ sym (ap (λ (s : StoredSets). s.regions) c.self.view_is) in
    let there : region_at c.args.platform.now c.args.region ≡ Some r = sym c.region.ensures ∙ ap option_copied c.in-Some-Some.is-0 in
    let found : region_at (platform_of rs) c.args.region ≡ Some r = ap (λ (regions : List Region). region_at (with_regions regions) c.args.region) (sym same) ∙ there in
    let is_place : IsPlaceOf (map region_in rs) c.args.region (Some c.in-Some-Some.place) =
    subst (λ xs. IsPlaceOf (map region_in xs) c.args.region (Some c.in-Some-Some.place)) c.deref.ensures.value (subst (IsPlaceOf (map region_in c.deref.result.now) c.args.region) c.in-Some-Some.is-1 c.place_of.ensures) in
    let can : CanStageIn (shown c.self.inside) c.args.space.now r =
    subst (λ (s : StoredSets). CanStageIn s c.args.space.now r) (sym c.self.view_is)
    (c.requires.stage r (ap (λ (s : StoredSets). region_at (platform_in s) c.args.region) (sym c.self.view_is) ∙ found)) in
    let together : IsTogether ms rs = record { once = kept.once; own = kept.own; in_use = kept.in_use; disjoint = kept.disjoint; over = kept.over } in
    let stage : CanStageAt ms rs fs c.in-Some-Some.place r c.args.space.now =
    can-stage c.args.platform.now c.requires.sound ms rs same c.args.region c.in-Some-Some.place r found is_place fs c.args.space.now together kept.free (kept.room (ap (λ (s : StoredSets). s.room) c.self.view_is ∙ c.requires.room))
    can.ready can.fresh can.free can.is_open can.long in
    subst (λ xs. CanStageAt xs c.deref_mut-2.result.now fs c.in-Some-Some.place r c.args.space.now) (sym c.deref_mut.ensures.value)
    (subst (λ ys. CanStageAt ms ys fs c.in-Some-Some.place r c.args.space.now) (sym c.deref_mut-2.ensures.value) stage)

pub invariant_of-self : goal.invariant_of-self
invariant_of-self g c =
    let kept = c.self.invariant in
    let ms = c.self.inside.modules in
    let rs = c.self.inside.regions in
    let fs = c.self.inside.free in
    let together = c.stage_in.ensures.together in
    let m : c.stage_in.new.modules ≡ (with_items ms c.stage_in.new.modules).items = sym (back-is ms c.stage_in.new.modules c.deref_mut.result.now c.deref_mut.ensures.value (same-count dimm_of _ _ together.dimms)) in
    let r : c.stage_in.new.regions ≡ (with_items rs c.stage_in.new.regions).items = sym (back-is rs c.stage_in.new.regions c.deref_mut-2.result.now c.deref_mut-2.ensures.value (same-count region_in _ _ together.same_regions)) in
    let all : IsTogether (with_items ms c.stage_in.new.modules).items (with_items rs c.stage_in.new.regions).items = subst (λ xs. IsTogether xs (with_items rs c.stage_in.new.regions).items) m (subst (IsTogether c.stage_in.new.modules) r together.together) in
    record {
      once = all.once;
      own = all.own;
      in_use = all.in_use;
      disjoint = all.disjoint;
      over = all.over;
      free = subst (λ xs. IsKnownFree xs (with_items rs c.stage_in.new.regions).items c.stage_in.new.free) m
          (subst (λ ys. IsKnownFree c.stage_in.new.modules ys c.stage_in.new.free) r c.stage_in.ensures.free);
      ready = tt;
      few = few-still _ rs.items (ap (map region_in) (sym r) ∙ together.same_regions ∙ ap (map region_in) c.deref_mut-2.ensures.value) kept.few;
      slots = slots-still _ _ ms.items (ap (map _) (sym m) ∙ together.slots ∙ ap (map _) c.deref_mut.ensures.value) kept.slots;
      lost = slots-still _ _ ms.items (ap (map _) (sym m) ∙ together.slots ∙ ap (map _) c.deref_mut.ensures.value) kept.lost;
      room = λ has. absurd cc;
    }

pub returns-clause-pass : goal.returns-clause-pass
returns-clause-pass g c = λ region found.
    let inside = c.self.inside in
    let ms = c.deref_mut.result.now in
    let rs = c.deref_mut-2.result.now in
    let now = c.stage_in.new.modules in
    let regions = c.stage_in.new.regions in
    let r = c.in-Some-Some.found.now in
    let there : region_at (platform_in c.args.self.now) c.args.region ≡ Some r =
    found-there c.args.platform.now inside c.self.invariant c.args.self.now c.self.view_is c.requires.platform c.args.region r (sym c.region.ensures ∙ ap option_copied c.in-Some-Some.is-0)
    ms rs c.deref_mut.ensures.value c.deref_mut-2.ensures.value in
    let same : r ≡ region = same_Some r region (sym there ∙ found) in
    pass-seen inside c.args.self.now c.self.view_is ms rs c.deref_mut.ensures.value c.deref_mut-2.ensures.value now regions
    (λ sets. IsBeforeOrWith (platform_in sets) region (new_space c.args.space.now) (stored.labels_in sets))
    (subst (λ (q : Region). IsPass (handles q) (IsBeforeOrWith (platform_of rs) q (new_space c.args.space.now) (labels_in ms)) g.R.Shown (kept_of ms rs) c.args.rig.now (kept_of now regions) c.stage_in.new.rig c.stage_in.result) same c.stage_in.ensures.pass)

pub returns-clause-labels : goal.returns-clause-labels
returns-clause-labels g c = λ region found.
    let inside = c.self.inside in
    let ms = c.deref_mut.result.now in
    let rs = c.deref_mut-2.result.now in
    let r = c.in-Some-Some.found.now in
    let there : region_at (platform_in c.args.self.now) c.args.region ≡ Some r =
    found-there c.args.platform.now inside c.self.invariant c.args.self.now c.self.view_is c.requires.platform c.args.region r (sym c.region.ensures ∙ ap option_copied c.in-Some-Some.is-0)
    ms rs c.deref_mut.ensures.value c.deref_mut-2.ensures.value in
    let same : r ≡ region = same_Some r region (sym there ∙ found) in
    let back = back-is inside.modules c.stage_in.new.modules ms c.deref_mut.ensures.value (same-count dimm_of _ _ c.stage_in.ensures.together.dimms) in
    subst (λ (xs : List LoadedModule). OnOk c.stage_in.result (AreStaged region c.args.space.now (labels_in xs))) (sym back)
    (subst (λ (q : Region). OnOk c.stage_in.result (AreStaged q c.args.space.now (labels_in c.stage_in.new.modules))) same c.stage_in.ensures.labels)
