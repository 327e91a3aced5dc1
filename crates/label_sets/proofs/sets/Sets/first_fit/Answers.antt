use Rattle.std.proofs.Common.{◌<◌, List, Some, length, map, sym, subst, arith}
use Rattle.std.proofs.lemmas.List.{length-map}
use Rattle.region_labels.specs.declared.modules.LoadedModule.{LoadedModule}
use Rattle.region_labels.specs.declared.region.RegionLabels.{RegionLabels}
use Rattle.region_labels.specs.Fates.{region_in}
use Rattle.label_sets.specs.Kept.{IsFree, IsKnownFree}
use Rattle.label_sets.specs.Views.{IsPlaceOf}
use Rattle.label_sets.proofs.FreeRoom.{element, fit_by, fits_first, known-free}
use Rattle.label_sets.proofs.sets.Sets.first_fit.Goals as goal

pub returns-clause-fit : goal.returns-clause-fit
returns-clause-fit c =
    let inside = c.self.inside in
    let modules = inside.modules.items in
    let regions = inside.regions.items in
    let place = c.in-Some.place in
    let found : IsPlaceOf (map region_in regions) c.args.region (Some place) =
    subst (λ (ks : List RegionLabels). IsPlaceOf (map region_in ks) c.args.region (Some place)) c.deref.ensures.value c.in-Some.ensures in
    let lt : place < length regions = let len = length-map regions region_in in let below = found.0 in omega (arith, len, below) in
    let free = c.in-Some-at.free.now in
    let kept = element regions place lt in
    let known : IsKnownFree modules regions c.build.new.self =
    subst (λ (ms : List LoadedModule). IsKnownFree ms regions c.build.new.self) c.deref-2.ensures.value
    (subst (λ (rs : List RegionLabels). IsKnownFree c.deref-2.result.now rs c.build.new.self) c.deref-3.ensures.value
    (c.build.ensures.free (subst (λ (rs : List RegionLabels). IsKnownFree c.deref-2.result.now rs inside.free) (sym c.deref-3.ensures.value)
    (subst (λ (ms : List LoadedModule). IsKnownFree ms regions inside.free) (sym c.deref-2.ensures.value) c.self.invariant.free)))) in
    let is : IsFree modules regions kept.0 free = known-free modules regions c.build.new.self place kept.0 free known lt kept.1 (sym c.in-Some-at.ensures) in
    fits_first inside c.args.self.now c.self.view_is c.args.region place kept.0 free lt kept.1 is found c.args.len c.first_fit.result
    (fit_by free.extents c.args.len c.first_fit.result c.first_fit.ensures.found c.first_fit.ensures.none)
