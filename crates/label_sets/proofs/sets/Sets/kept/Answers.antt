use Rattle.std.proofs.Common.{◌<◌, List, Some, length, map, subst, arith}
use Rattle.std.proofs.lemmas.List.{length-map}
use Rattle.region_labels.specs.declared.region.RegionLabels.{RegionLabels}
use Rattle.region_labels.specs.Fates.{region_in}
use Rattle.label_sets.specs.Views.{IsPlaceOf}
use Rattle.label_sets.proofs.FreeRoom.{kept_region}
use Rattle.label_sets.proofs.sets.Sets.kept.Goals as goal

pub returns : goal.returns
returns c =
    let inside = c.self.inside in
    let regions = inside.regions.items in
    let place = c.in-Some.place in
    let found : IsPlaceOf (map region_in regions) c.args.index (Some place) =
    subst (λ (ks : List RegionLabels). IsPlaceOf (map region_in ks) c.args.index (Some place)) c.deref.ensures.value c.in-Some.ensures in
    let lt : place < length regions = let len = length-map regions region_in in let below = found.0 in omega (arith, len, below) in
    kept_region inside c.args.self.now c.self.view_is c.args.index place c.index.result.now c.self.invariant lt c.index.ensures found
