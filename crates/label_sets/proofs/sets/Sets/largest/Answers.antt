use Rattle.std.proofs.Common.{◌<◌, ◌-◌, ◌*◌, ◌^◌, List, Some, length, min, map, sym, subst, ◌∙◌, arith}
use Rattle.std.proofs.lemmas.List.{length-map}
use Rattle.region_labels.specs.declared.modules.LoadedModule.{LoadedModule}
use Rattle.region_labels.specs.declared.region.RegionLabels.{RegionLabels}
use Rattle.region_labels.specs.Fates.{region_in}
use Rattle.label_sets.specs.Kept.{IsFree, IsKnownFree}
use Rattle.label_sets.specs.Views.{IsPlaceOf}
use Rattle.label_sets.proofs.FreeRoom.{known-free, tells_largest}
use Rattle.label_sets.proofs.sets.Sets.largest.Goals as goal

pub returns-clause-most : goal.returns-clause-most
returns-clause-most c =
    let inside = c.self.inside in
    let modules = inside.modules.items in
    let regions = inside.regions.items in
    let place = c.in-Some.place in
    let found : IsPlaceOf (map region_in regions) c.args.index (Some place) =
    subst (λ (ks : List RegionLabels). IsPlaceOf (map region_in ks) c.args.index (Some place)) c.deref.ensures.value c.in-Some.ensures in
    let lt : place < length regions = let len = length-map regions region_in in let below = found.0 in omega (arith, len, below) in
    let free = c.in-Some-at.free.now in
    let kept = c.index.result.now in
    let known : IsKnownFree modules regions c.build.new.self =
    subst (λ (ms : List LoadedModule). IsKnownFree ms regions c.build.new.self) c.deref-2.ensures.value
    (subst (λ (rs : List RegionLabels). IsKnownFree c.deref-2.result.now rs c.build.new.self) c.deref-3.ensures.value
    (c.build.ensures.free (subst (λ (rs : List RegionLabels). IsKnownFree c.deref-2.result.now rs inside.free) (sym c.deref-3.ensures.value)
    (subst (λ (ms : List LoadedModule). IsKnownFree ms regions inside.free) (sym c.deref-2.ensures.value) c.self.invariant.free)))) in
    let is : IsFree modules regions kept free = known-free modules regions c.build.new.self place kept free known lt c.index.ensures (sym c.in-Some-at.ensures) in
    tells_largest inside c.args.self.now c.self.view_is c.args.index place kept free lt c.index.ensures is found c.saturating_mul.result
    (c.saturating_mul.ensures ∙ (λ i. min (c.len-ways.ensures i * c.largest.ensures i) (2 ^ 64 - 1)))
