use Rattle.std.proofs.Common.{◌≡◌, List, Option, Some, map, sym, subst, ap, ◌∙◌}
use Rattle.region_map.specs.declared.platform.Region.{Region}
use Rattle.region_labels.specs.Fates.{region_in}
use Rattle.label_sets.specs.Sets.{StoredSets, labels_in, platform_in}
use Rattle.label_sets.specs.Views.{IsPlaceOf, IsViewOf}
use Rattle.label_sets.proofs.Viewed.{no_region}
use Rattle.label_sets.proofs.sets.Sets.region_view.Goals as goal

pub returns-in_ok-view_at-in-Some : goal.returns-in_ok-view_at-in-Some
returns-in_ok-view_at-in-Some c =
    let sets = c.args.self.now in
    let view = c.in_ok-view_at-in-Some.field-0 in
    let regions : map region_in c.deref.result.now ≡ sets.regions = ap (map region_in) c.deref.ensures.value ∙ ap (λ (s : StoredSets). s.regions) c.self.view_is in
    let place : IsPlaceOf sets.regions c.args.index (Some c.in-Some.place) = subst (λ (rs : List Region). IsPlaceOf rs c.args.index (Some c.in-Some.place)) regions c.in-Some.ensures in
    subst (λ (o : Option Region). IsViewOf (platform_in sets) (labels_in sets) o (Some view)) (sym (place.1 no_region)) (c.in_ok-view_at-in-Some.ensures no_region)
