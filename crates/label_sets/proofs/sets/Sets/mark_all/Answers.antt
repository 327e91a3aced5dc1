use Rattle.std.proofs.Common.{◌≡◌, List, Some, map, sym, ap, subst, ◌∙◌}
use Rattle.std.specs.Option.{option_copied}
use Rattle.std.specs.Result.{OnOk}
use Rattle.std.proofs.lemmas.Option.{same_Some}
use Rattle.std.proofs.lemmas.Result.{on_ok_weaker}
use Rattle.region_map.specs.declared.platform.Region.{Region}
use Rattle.region_map.specs.Platforms.{region_at}
use Rattle.region_labels.specs.declared.region.RegionLabels.{RegionLabels}
use Rattle.region_labels.specs.Fates.{region_in}
use Rattle.region_labels.specs.Modules.{labels_in}
use Rattle.region_labels.specs.Regions.{handles}
use Rattle.module_flips.specs.Passes.{IsPass, kept_of}
use Rattle.namespace_passes.specs.Marking.{AreUpdating, IsMarked}
use Rattle.namespace_passes.specs.Passes.{HasTableOf}
use Rattle.label_sets.specs.Healing.{CanHealIn}
use Rattle.label_sets.specs.Kept.{IsKnownReady, shown}
use Rattle.label_sets.specs.Marking.{IsMarkedIn}
use Rattle.label_sets.specs.Sets.{IsTableOf, StoredSets, platform_in}
use Rattle.label_sets.specs.Staging.{OfRegion}
use Rattle.label_sets.specs.Views.{IsPlaceOf}
use Rattle.label_sets.proofs.KnownReady.{ready-healed}
use Rattle.label_sets.proofs.Passes.{can-heal, found-there, free-after, pass-seen, ready-after, room-after, seen, still-kept}
use Rattle.label_sets.proofs.sets.Sets.mark_all.Goals as goal

pub mark_labels-requires-clause-can : goal.mark_labels-requires-clause-can
mark_labels-requires-clause-can g c =
    can-heal c.args.platform.now c.self.inside c.self.invariant c.args.self.now c.self.view_is c.requires.platform c.args.region c.in-Some.found.now (sym c.region.ensures ∙ ap option_copied c.in-Some.is)
    c.deref_mut.result.now c.deref_mut-in-Some.result.now c.deref_mut.ensures.value c.deref_mut-in-Some.ensures.value c.requires.sound c.args.uuid.now c.requires.mark

pub invariant_of-self : goal.invariant_of-self
invariant_of-self g c =
    let inside = c.self.inside in
    let kept = c.self.invariant in
    let ms = c.deref_mut.result.now in
    let rs = c.deref_mut-in-Some.result.now in
    let m = c.deref_mut.ensures.value in
    let n = c.deref_mut-in-Some.ensures.value in
    let did = c.mark_labels.ensures in
    let now = c.mark_labels.new.modules in
    let regions = c.mark_labels.new.regions in
    let place = c.place_of-self-inside.result in
    let known : IsKnownReady inside.modules.items inside.regions.items place =
    ready-healed (shown inside) c.args.region c.args.uuid.now place
    (subst (λ (ys : List RegionLabels). IsPlaceOf (map region_in ys) c.args.region place) c.deref.ensures.value c.place_of-self-inside.ensures)
    (subst (λ (s : StoredSets). OfRegion s c.args.region (CanHealIn s c.args.uuid.now)) (sym c.self.view_is) c.requires.mark) in
    still-kept inside kept ms rs m n now regions did.still.together inside.free place inside.room
    (free-after inside kept ms rs m n now regions did.still.together did.pass.labels)
    (ready-after inside kept ms rs m n now regions did.still.together place known did.pass.labels)
    (room-after inside kept ms rs m n now regions did.still.together did.still.rooms did.still.same_counts)

pub returns-clause-pass : goal.returns-clause-pass
returns-clause-pass g c = λ region found.
    let inside = c.self.inside in
    let ms = c.deref_mut.result.now in
    let rs = c.deref_mut-in-Some.result.now in
    let now = c.mark_labels.new.modules in
    let regions = c.mark_labels.new.regions in
    let r = c.in-Some.found.now in
    let there : region_at (platform_in c.args.self.now) c.args.region ≡ Some r =
    found-there c.args.platform.now inside c.self.invariant c.args.self.now c.self.view_is c.requires.platform c.args.region r (sym c.region.ensures ∙ ap option_copied c.in-Some.is)
    ms rs c.deref_mut.ensures.value c.deref_mut-in-Some.ensures.value in
    let same : r ≡ region = same_Some r region (sym there ∙ found) in
    pass-seen inside c.args.self.now c.self.view_is ms rs c.deref_mut.ensures.value c.deref_mut-in-Some.ensures.value now regions
    (λ sets. IsTableOf sets)
    (subst (λ (q : Region). IsPass (handles q) (HasTableOf ms rs) g.R.Shown (kept_of ms rs) c.args.rig.now (kept_of now regions) c.mark_labels.new.rig c.mark_labels.result) same c.mark_labels.ensures.pass)

pub returns-clause-marked : goal.returns-clause-marked
returns-clause-marked g c = λ region found.
    let inside = c.self.inside in
    let ms = c.deref_mut.result.now in
    let rs = c.deref_mut-in-Some.result.now in
    let did = c.mark_labels.ensures in
    let now = c.mark_labels.new.modules in
    let r = c.in-Some.found.now in
    let there : region_at (platform_in c.args.self.now) c.args.region ≡ Some r =
    found-there c.args.platform.now inside c.self.invariant c.args.self.now c.self.view_is c.requires.platform c.args.region r (sym c.region.ensures ∙ ap option_copied c.in-Some.is)
    ms rs c.deref_mut.ensures.value c.deref_mut-in-Some.ensures.value in
    let same : r ≡ region = same_Some r region (sym there ∙ found) in
    seen inside c.self.invariant ms rs c.deref_mut.ensures.value c.deref_mut-in-Some.ensures.value now c.mark_labels.new.regions did.still.together c.args.self.now c.self.view_is
    (λ before after. OnOk c.mark_labels.result (IsMarkedIn before after c.args.uuid.now region)) inside.room
    (on_ok_weaker c.mark_labels.result (λ marked. record {
      same_table = marked.same_table;
      marks = marked.marks;
      can_drop = record { whole = marked.stands.whole; stale = marked.stale };
      mark = marked.mark;
      others = marked.others;
      elsewhere = marked.elsewhere;
      same_free = marked.same_free;
    }) (subst (λ (q : Region). OnOk c.mark_labels.result (IsMarked ms rs q c.args.uuid.now now)) same did.marked))

pub returns-clause-idle : goal.returns-clause-idle
returns-clause-idle g c = λ region found updating.
    let inside = c.self.inside in
    let ms = c.deref_mut.result.now in
    let rs = c.deref_mut-in-Some.result.now in
    let r = c.in-Some.found.now in
    let there : region_at (platform_in c.args.self.now) c.args.region ≡ Some r =
    found-there c.args.platform.now inside c.self.invariant c.args.self.now c.self.view_is c.requires.platform c.args.region r (sym c.region.ensures ∙ ap option_copied c.in-Some.is)
    ms rs c.deref_mut.ensures.value c.deref_mut-in-Some.ensures.value in
    let same : r ≡ region = same_Some r region (sym there ∙ found) in
    let modules : c.args.self.now.modules ≡ ms = sym (c.deref_mut.ensures.value ∙ ap (λ (s : StoredSets). s.modules) c.self.view_is) in
    c.mark_labels.ensures.idle (subst (λ (q : Region). AreUpdating (labels_in ms) q c.args.uuid.now) (sym same) (subst (λ xs. AreUpdating (labels_in xs) region c.args.uuid.now) modules updating))
