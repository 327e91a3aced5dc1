use Rattle.std.proofs.Common.{◌≡◌, List, None, Some, sym, ap, subst, ◌∙◌}
use Rattle.std.specs.Option.{option_copied}
use Rattle.std.specs.Result.{OnOk}
use Rattle.std.proofs.lemmas.Option.{same_Some}
use Rattle.std.proofs.lemmas.Result.{on_ok_weaker}
use Rattle.region_map.specs.declared.platform.Region.{Region}
use Rattle.region_map.specs.Platforms.{region_at}
use Rattle.label_table.specs.Statuses.{RegionReady, status}
use Rattle.region_labels.specs.declared.modules.LoadedModule.{LoadedModule}
use Rattle.region_labels.specs.declared.region.RegionLabels.{RegionLabels}
use Rattle.region_labels.specs.Fates.{platform_of}
use Rattle.region_labels.specs.Modules.{labels_in}
use Rattle.region_labels.specs.Regions.{handles}
use Rattle.module_flips.specs.Passes.{IsPass, kept_of}
use Rattle.namespace_passes.specs.Healing.{CanHeal}
use Rattle.namespace_passes.specs.Renaming.{IsBeforeOrRenamed, IsRenamed}
use Rattle.label_sets.specs.Kept.{IsKnownFree}
use Rattle.label_sets.specs.Renaming.{IsRenamedIn}
use Rattle.label_sets.specs.Sets.{StoredSets, platform_in}
use Rattle.label_sets.specs.Sets as stored
use Rattle.label_sets.proofs.Passes.{can-heal, found-there, pass-seen, room-after, seen, still-kept}
use Rattle.label_sets.proofs.Renamed.{known-renamed, renamed-in}
use Rattle.label_sets.proofs.sets.Sets.change_first.Goals as goal

pub change_first-requires-clause-can : goal.change_first-requires-clause-can
change_first-requires-clause-can g c =
    can-heal c.args.platform.now c.self.inside c.self.invariant c.args.self.now c.self.view_is c.requires.platform c.args.region c.in-Some.found.now (sym c.region.ensures ∙ ap option_copied c.in-Some.is)
    c.deref_mut.result.now c.deref_mut-in-Some.result.now c.deref_mut.ensures.value c.deref_mut-in-Some.ensures.value c.requires.sound c.args.uuid.now c.requires.rename

pub invariant_of-self : goal.invariant_of-self
invariant_of-self g c =
    let inside = c.self.inside in
    let kept = c.self.invariant in
    let ms = c.deref_mut.result.now in
    let rs = c.deref_mut-in-Some.result.now in
    let m = c.deref_mut.ensures.value in
    let n = c.deref_mut-in-Some.ensures.value in
    let r = c.in-Some.found.now in
    let did = c.change_first.ensures in
    let now = c.change_first.new.modules in
    let regions = c.change_first.new.regions in
    let can : CanHeal ms rs r c.args.uuid.now =
    can-heal c.args.platform.now inside kept c.args.self.now c.self.view_is c.requires.platform c.args.region r (sym c.region.ensures ∙ ap option_copied c.in-Some.is) ms rs m n c.requires.sound c.args.uuid.now c.requires.rename in
    let known : IsKnownFree ms rs inside.free =
    subst (λ (xs : List LoadedModule). IsKnownFree xs rs inside.free) (sym m) (subst (λ (ys : List RegionLabels). IsKnownFree inside.modules.items ys inside.free) (sym n) kept.free) in
    still-kept inside kept ms rs m n now regions did.still.together inside.free None inside.room
    (known-renamed ms rs r c.args.uuid.now c.args.name.now can now regions did.still.together.same_regions inside.free known c.change_first.result did.renamed did.kept)
    tt
    (room-after inside kept ms rs m n now regions did.still.together did.still.rooms did.still.same_counts)

pub returns-clause-renamed : goal.returns-clause-renamed
returns-clause-renamed g c = λ region found.
    let inside = c.self.inside in
    let kept = c.self.invariant in
    let sets = c.args.self.now in
    let ms = c.deref_mut.result.now in
    let rs = c.deref_mut-in-Some.result.now in
    let m = c.deref_mut.ensures.value in
    let n = c.deref_mut-in-Some.ensures.value in
    let did = c.change_first.ensures in
    let now = c.change_first.new.modules in
    let regions = c.change_first.new.regions in
    let r = c.in-Some.found.now in
    let known : region_at c.args.platform.now c.args.region ≡ Some r = sym c.region.ensures ∙ ap option_copied c.in-Some.is in
    let there : region_at (platform_in sets) c.args.region ≡ Some r = found-there c.args.platform.now inside kept sets c.self.view_is c.requires.platform c.args.region r known ms rs m n in
    let same : r ≡ region = same_Some r region (sym there ∙ found) in
    let can : CanHeal ms rs region c.args.uuid.now =
    subst (λ (q : Region). CanHeal ms rs q c.args.uuid.now) same (can-heal c.args.platform.now inside kept sets c.self.view_is c.requires.platform c.args.region r known ms rs m n c.requires.sound c.args.uuid.now c.requires.rename) in
    let modules_are : sets.modules ≡ ms = sym (m ∙ ap (λ (s : StoredSets). s.modules) c.self.view_is) in
    let ready : status (labels_in ms) region ≡ RegionReady = subst (λ (xs : List LoadedModule). status (labels_in xs) region ≡ RegionReady) modules_are (c.requires.rename region found).ready in
    seen inside kept ms rs m n now regions did.still.together sets c.self.view_is (λ before after. OnOk c.change_first.result (IsRenamedIn before after c.args.uuid.now c.args.name.now region)) inside.room
    (on_ok_weaker c.change_first.result (λ renamed. renamed-in ms rs region c.args.uuid.now c.args.name.now can now renamed regions did.still.together inside.room ready)
    (subst (λ (q : Region). OnOk c.change_first.result (IsRenamed ms rs q c.args.uuid.now c.args.name.now now)) same did.renamed))

pub returns-clause-pass : goal.returns-clause-pass
returns-clause-pass g c = λ region found.
    let inside = c.self.inside in
    let ms = c.deref_mut.result.now in
    let rs = c.deref_mut-in-Some.result.now in
    let now = c.change_first.new.modules in
    let regions = c.change_first.new.regions in
    let r = c.in-Some.found.now in
    let there : region_at (platform_in c.args.self.now) c.args.region ≡ Some r =
    found-there c.args.platform.now inside c.self.invariant c.args.self.now c.self.view_is c.requires.platform c.args.region r (sym c.region.ensures ∙ ap option_copied c.in-Some.is)
    ms rs c.deref_mut.ensures.value c.deref_mut-in-Some.ensures.value in
    let same : r ≡ region = same_Some r region (sym there ∙ found) in
    pass-seen inside c.args.self.now c.self.view_is ms rs c.deref_mut.ensures.value c.deref_mut-in-Some.ensures.value now regions
    (λ sets. IsBeforeOrRenamed (platform_in sets) region c.args.uuid.now c.args.name.now (stored.labels_in sets))
    (subst (λ (q : Region). IsPass (handles q) (IsBeforeOrRenamed (platform_of rs) q c.args.uuid.now c.args.name.now (labels_in ms)) g.R.Shown (kept_of ms rs) c.args.rig.now (kept_of now regions) c.change_first.new.rig c.change_first.result) same c.change_first.ensures.pass)
