use Rattle.std.proofs.Common.{◌≡◌, List, map, Some, false, refl, sym, ap, subst, ◌∙◌}
use Rattle.std.specs.Option.{option_copied}
use Rattle.std.specs.Result.{OnOk}
use Rattle.std.proofs.lemmas.Bool.{false≢true}
use Rattle.std.proofs.lemmas.Option.{same_Some}
use Rattle.std.proofs.lemmas.Result.{on_ok_weaker}
use Rattle.region_map.specs.declared.platform.Region.{Region}
use Rattle.region_map.specs.Platforms.{region_at}
use Rattle.region_labels.specs.Fates.{platform_of, region_in, with_regions}
use Rattle.region_labels.specs.Modules.{labels_in}
use Rattle.region_labels.specs.Regions.{handles}
use Rattle.module_flips.specs.Passes.{IsPass, kept_of}
use Rattle.namespace_passes.specs.Dropping.{IsBeforeOrWithout, IsDropped}
use Rattle.label_sets.specs.Dropping.{CanDropAt, GainsSlots, HasNoneIn}
use Rattle.label_sets.specs.Sets.{StoredSets, platform_in}
use Rattle.label_sets.specs.Sets as stored
use Rattle.label_sets.specs.Views.{IsPlaceOf}
use Rattle.label_sets.proofs.Passes.{can-drop, found-there, pass-seen, ready-after-drop, seen, still-kept}
use Rattle.label_sets.proofs.Stageable.{place-is, place-ordered, place-within}
use Rattle.label_sets.proofs.sets.Sets.drop_all.Goals as goal

pub drop_in-requires-clause-drop : goal.drop_in-requires-clause-drop
drop_in-requires-clause-drop g c =
    let inside = c.self.inside in
    let kept = c.self.invariant in
    let P = c.args.platform.now in
    let rs = inside.regions.items in
    let r = c.in-Some-Some.found.now in
    let place = c.in-Some-Some.place in
    let same : P.regions ≡ map region_in rs = c.requires.platform ∙ sym (ap (λ (s : StoredSets). s.regions) c.self.view_is) in
    let there : region_at P c.args.region ≡ Some r = sym c.region.ensures ∙ ap option_copied c.in-Some-Some.is-0 in
    let found : region_at (platform_of rs) c.args.region ≡ Some r = ap (λ (regions : List Region). region_at (with_regions regions) c.args.region) (sym same) ∙ there in
    let is_place : IsPlaceOf (map region_in rs) c.args.region (Some place) =
    subst (λ xs. IsPlaceOf (map region_in xs) c.args.region (Some place)) c.deref.ensures.value (subst (IsPlaceOf (map region_in c.deref.result.now) c.args.region) c.in-Some-Some.is-1 c.place_of.ensures) in
    let sound = c.requires.sound in
    let at : CanDropAt inside.modules.items rs inside.free inside.ready place r c.args.uuid.now = record {
      within = place-within P sound inside.modules.items rs same c.args.region place r found is_place;
      is = place-is P sound inside.modules.items rs same c.args.region place r found is_place;
      can = can-drop P inside kept c.args.self.now c.self.view_is c.requires.platform c.args.region r there inside.modules.items rs refl refl c.args.uuid.now c.requires.drop;
      ordered = place-ordered P sound inside.modules.items rs same c.args.region place r found is_place;
      all_free = kept.free;
      known_ready = kept.ready;
    } in
    subst (λ xs. CanDropAt xs c.deref_mut-2.result.now inside.free inside.ready place r c.args.uuid.now) (sym c.deref_mut.ensures.value)
    (subst (λ ys. CanDropAt inside.modules.items ys inside.free inside.ready place r c.args.uuid.now) (sym c.deref_mut-2.ensures.value) at)

pub invariant_of-self : goal.invariant_of-self
invariant_of-self g c =
    let inside = c.self.inside in
    let kept = c.self.invariant in
    let ms = c.deref_mut.result.now in
    let rs = c.deref_mut-2.result.now in
    let m = c.deref_mut.ensures.value in
    let n = c.deref_mut-2.ensures.value in
    let r = c.in-Some-Some.found.now in
    let did = c.drop_in.ensures in
    let now = c.drop_in.new.modules in
    let regions = c.drop_in.new.regions in
    let can = can-drop c.args.platform.now inside kept c.args.self.now c.self.view_is c.requires.platform c.args.region r (sym c.region.ensures ∙ ap option_copied c.in-Some-Some.is-0) ms rs m n c.args.uuid.now c.requires.drop in
    still-kept inside kept ms rs m n now regions did.together c.drop_in.new.free inside.ready false did.free
    (ready-after-drop inside kept ms rs m n now regions did.together r can.region_in c.args.uuid.now did.pass.labels)
    (λ e. absurd (false≢true e))

pub returns-clause-pass : goal.returns-clause-pass
returns-clause-pass g c = λ region found.
    let inside = c.self.inside in
    let ms = c.deref_mut.result.now in
    let rs = c.deref_mut-2.result.now in
    let now = c.drop_in.new.modules in
    let regions = c.drop_in.new.regions in
    let r = c.in-Some-Some.found.now in
    let there : region_at (platform_in c.args.self.now) c.args.region ≡ Some r =
    found-there c.args.platform.now inside c.self.invariant c.args.self.now c.self.view_is c.requires.platform c.args.region r (sym c.region.ensures ∙ ap option_copied c.in-Some-Some.is-0)
    ms rs c.deref_mut.ensures.value c.deref_mut-2.ensures.value in
    let same : r ≡ region = same_Some r region (sym there ∙ found) in
    pass-seen inside c.args.self.now c.self.view_is ms rs c.deref_mut.ensures.value c.deref_mut-2.ensures.value now regions
    (λ sets. IsBeforeOrWithout (platform_in sets) region c.args.uuid.now (stored.labels_in sets))
    (subst (λ (q : Region). IsPass (handles q) (IsBeforeOrWithout (platform_of rs) q c.args.uuid.now (labels_in ms)) g.R.Shown (kept_of ms rs) c.args.rig.now (kept_of now regions) c.drop_in.new.rig c.drop_in.result) same c.drop_in.ensures.pass)

pub returns-clause-none : goal.returns-clause-none
returns-clause-none g c = λ region found.
    let inside = c.self.inside in
    let ms = c.deref_mut.result.now in
    let rs = c.deref_mut-2.result.now in
    let did = c.drop_in.ensures in
    let now = c.drop_in.new.modules in
    let r = c.in-Some-Some.found.now in
    let there : region_at (platform_in c.args.self.now) c.args.region ≡ Some r =
    found-there c.args.platform.now inside c.self.invariant c.args.self.now c.self.view_is c.requires.platform c.args.region r (sym c.region.ensures ∙ ap option_copied c.in-Some-Some.is-0)
    ms rs c.deref_mut.ensures.value c.deref_mut-2.ensures.value in
    let same : r ≡ region = same_Some r region (sym there ∙ found) in
    seen inside c.self.invariant ms rs c.deref_mut.ensures.value c.deref_mut-2.ensures.value now c.drop_in.new.regions did.together c.args.self.now c.self.view_is
    (λ before after. OnOk c.drop_in.result (HasNoneIn after c.args.uuid.now region)) false
    (on_ok_weaker c.drop_in.result (λ dropped. dropped.none) (subst (λ (q : Region). OnOk c.drop_in.result (IsDropped ms rs q c.args.uuid.now now)) same did.dropped))

pub returns-clause-slots : goal.returns-clause-slots
returns-clause-slots g c = λ region found.
    let inside = c.self.inside in
    let ms = c.deref_mut.result.now in
    let rs = c.deref_mut-2.result.now in
    let did = c.drop_in.ensures in
    let now = c.drop_in.new.modules in
    let r = c.in-Some-Some.found.now in
    let there : region_at (platform_in c.args.self.now) c.args.region ≡ Some r =
    found-there c.args.platform.now inside c.self.invariant c.args.self.now c.self.view_is c.requires.platform c.args.region r (sym c.region.ensures ∙ ap option_copied c.in-Some-Some.is-0)
    ms rs c.deref_mut.ensures.value c.deref_mut-2.ensures.value in
    let same : r ≡ region = same_Some r region (sym there ∙ found) in
    seen inside c.self.invariant ms rs c.deref_mut.ensures.value c.deref_mut-2.ensures.value now c.drop_in.new.regions did.together c.args.self.now c.self.view_is
    (λ before after. OnOk c.drop_in.result (GainsSlots before after region)) false
    (on_ok_weaker c.drop_in.result (λ dropped. dropped.free) (subst (λ (q : Region). OnOk c.drop_in.result (IsDropped ms rs q c.args.uuid.now now)) same did.dropped))
