use Rattle.std.proofs.Common.{◌<◌, List, Some, length, map, subst, ◌∙◌, arith}
use Rattle.std.specs.Prelude.{IfSome}
use Rattle.std.proofs.lemmas.List.{length-map}
use Rattle.label_table.specs.Statuses.{status}
use Rattle.region_labels.specs.declared.region.RegionLabels.{RegionLabels}
use Rattle.region_labels.specs.Fates.{region_in}
use Rattle.region_labels.specs.Modules.{labels_in}
use Rattle.region_labels.specs.Statuses.{shown_status}
use Rattle.label_sets.specs.Views.{IsPlaceOf}
use Rattle.label_sets.specs.Kept.{IsReadyIn}
use Rattle.label_sets.proofs.FreeRoom.{tells_status}
use Rattle.label_sets.proofs.KnownReady.{told-known}
use Rattle.label_sets.proofs.sets.Sets.status.Goals as goal

-- It is the place that is known to be Ready.
pub returns-then-ready-place : goal.returns-then-ready-place
returns-then-ready-place c =
    let inside = c.self.inside in
    let regions = map region_in inside.regions.items in
    let place = c.in-Some.place in
    let found : IsPlaceOf regions c.args.index (Some place) =
    subst (λ (ks : List RegionLabels). IsPlaceOf (map region_in ks) c.args.index (Some place)) c.deref.ensures.value c.in-Some.ensures in
    let ready : IsReadyIn (labels_in inside.modules.items) regions place =
    subst (IsReadyIn (labels_in inside.modules.items) regions) c.if-ready-place.true (subst (λ o. IfSome o (IsReadyIn (labels_in inside.modules.items) regions)) c.in-Some-ready.is c.self.invariant.ready) in
    told-known inside c.args.self.now c.self.view_is c.args.index place found ready

pub returns : goal.returns
returns c =
    let inside = c.self.inside in
    let regions = inside.regions.items in
    let place = c.in-Some.place in
    let found : IsPlaceOf (map region_in regions) c.args.index (Some place) =
    subst (λ (ks : List RegionLabels). IsPlaceOf (map region_in ks) c.args.index (Some place)) c.deref.ensures.value c.in-Some.ensures in
    let lt : place < length regions = let len = length-map regions region_in in let below = found.0 in omega (arith, len, below) in
    tells_status inside c.args.self.now c.self.view_is c.args.index place c.index.result.now lt c.index.ensures found c.in_ok-status.status
    (c.in_ok-status.ensures ∙ (λ i. shown_status (status (labels_in (c.deref-2.ensures.value i)) c.index.result.now.region)))
