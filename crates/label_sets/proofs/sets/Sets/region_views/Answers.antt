use Rattle.std.proofs.Common.{◌≡◌, ◌<◌, length, map, subst, arith}
use Rattle.std.proofs.lemmas.List.{length-map}
use Rattle.region_map.proofs.Zips.{zip_more}
use Rattle.region_labels.specs.Fates.{region_in}
use Rattle.label_sets.specs.Sets.{StoredSets, labels_in, platform_in}
use Rattle.label_sets.specs.Views.{IsRegionView}
use Rattle.label_sets.proofs.Viewed.{no_region}
use Rattle.label_sets.proofs.sets.Sets.region_views.Goals as goal

pub loop-place-preserved : goal.loop-place-preserved
loop-place-preserved c =
    let sets = c.args.self.now in
    let place = c.loop-place.place in
    let len : length (map region_in c.self.inside.regions.items) ≡ length c.self.inside.regions.items = length-map c.self.inside.regions.items region_in in
    let lt : place < length sets.regions = subst (λ (s : StoredSets). place < length s.regions) c.self.view_is (omega arith) in
    rw c.in_ok-push.ensures.ok
    (zip_more (IsRegionView (platform_in sets) (labels_in sets)) sets.regions c.loop-place.views place no_region _ lt c.loop-place.invariant (c.in_ok-view_at.ensures no_region))
