use Rattle.std.proofs.Common.{◌<◌, ◌++◌, ◌∷◌, ◌^◌, [], List, length, map, sym, ap, subst, ◌∙◌}
use Rattle.std.specs.List.{All, Contains}
use Rattle.std.specs.List.Sorted.{IsStrictlyIncreasing}
use Rattle.std.proofs.lemmas.List.{map-append, take_more}
use Rattle.std.proofs.lemmas.List.Elements.{All-push}
use Rattle.region_map.specs.declared.platform.Member.{Member}
use Rattle.region_map.specs.declared.platform.Region.{Region}
use Rattle.region_labels.specs.Fates.{region_in}
use Rattle.region_labels.specs.Regions.{IsOver}
use Rattle.label_sets.specs.Kept.{HasFewMembers}
use Rattle.label_sets.proofs.Platforms.{each-once, few-members, known-members}
use Rattle.label_sets.proofs.read.regions_over.Goals as goal

pub of-requires-clause-once : goal.of-requires-clause-once
of-requires-clause-once c = each-once c.args.modules.now (subst IsStrictlyIncreasing (sym c.requires.modules) c.requires.sound.platform_of.modules.order)

pub of-requires-clause-known : goal.of-requires-clause-known
of-requires-clause-known c =
    let P = c.args.platform.now in
    let region = c.region-item.result in
    let in_P : Contains P.regions region = subst (λ (rs : List Region). Contains rs region) c.as_slice-region-items.ensures (c.loop-region.region-index, c.loop-region-test.true, sym c.region-item.is) in
    subst (λ hs. All (λ (m : Member). Contains hs m.handle) region.members) (sym c.requires.modules) (known-members P c.requires.sound region in_P)

pub loop-region-preserved : goal.loop-region-preserved
loop-region-preserved c =
    let P = c.args.platform.now in
    let region = c.region-item.result in
    let before = c.loop-region.invariant in
    let old = c.loop-region.regions.items in
    let kept = c.in_ok-of.field-0 in
    let items = c.in_ok-push.ensures.items in
    let all = c.as_slice-region-items.result.now in
    let in_P : Contains P.regions region = subst (λ (rs : List Region). Contains rs region) c.as_slice-region-items.ensures (c.loop-region.region-index, c.loop-region-test.true, sym c.region-item.is) in
    let few : HasFewMembers kept = subst (λ (r : Region). length r.members < 2 ^ 16) (sym c.in_ok-of.ensures.region) (few-members P c.requires.sound region in_P) in
    record {
      over = subst (All (IsOver c.args.modules.now)) (sym items) (All-push (IsOver c.args.modules.now) old kept before.over c.in_ok-of.ensures.over);
      regions =
          ap (map region_in) items ∙ map-append region_in old (kept ∷ []) ∙ (λ i. before.regions i ++ (c.in_ok-of.ensures.region ∙ c.region-item.is) i ∷ [])
          ∙ sym (take_more all c.loop-region.region-index region c.loop-region-test.true);
      few = subst (All HasFewMembers) (sym items) (All-push HasFewMembers old kept before.few few);
    }
