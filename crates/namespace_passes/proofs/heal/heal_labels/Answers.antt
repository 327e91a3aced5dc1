use Rattle.std.proofs.Common.{◌<◌, ℕ, List, Some, length, arith, ◌≡◌, false, refl, sym, ap, subst, ◌∙◌}
use Rattle.label_codec.specs.declared.label.Label.{Label}
use Rattle.label_codec.specs.ModuleLabels.{Labels, first, of_uuid}
use Rattle.label_table.specs.Belonging.{member_at}
use Rattle.label_table.specs.Flips.{EachLabel}
use Rattle.label_table.specs.Wholes.{labels_with, leading_label}
use Rattle.label_table.proofs.ListTests.{some_is}
use Rattle.region_map.specs.declared.platform.Platform.{Platform}
use Rattle.region_map.specs.declared.platform.Region.{Region}
use Rattle.region_labels.specs.declared.modules.LoadedModule.{LoadedModule}
use Rattle.region_labels.specs.Fates.{platform_of, with_regions}
use Rattle.region_labels.specs.Modules.{labels_in}
use Rattle.namespace_passes.specs.Labels.{needs_healing}
use Rattle.namespace_passes.specs.Namespaces.{HasHeal, IsAlikeAt, IsTurned, IsWellFrom}
use Rattle.namespace_passes.proofs.Bounded.{all-bounded}
use Rattle.namespace_passes.proofs.HealEnds.{all-alike, all-elsewhere, all-heal, all-marks, all-others, all-table, some-members}
use Rattle.namespace_passes.proofs.HealFlips.{on_ok}
use Rattle.module_flips.proofs.Passes.{pass-on, sized-on}
use Rattle.namespace_passes.proofs.Passing.{can-turn, still-on, table-still}
use Rattle.namespace_passes.proofs.Leading.{leading-first}
use Rattle.namespace_passes.proofs.heal.heal_labels.Goals as goal

-- the label that was found at position 0 is the leading one
same-leading : (L : Labels) (region : Region) (u : List ℕ) (found leading : Label) → 0 < length region.members → first (of_uuid u (L (member_at region 0).handle)) ≡ Some found → leading_label region (labels_with u L) ≡ Some leading
    → found ≡ leading
same-leading L region u found leading some is leads = some_is (sym is ∙ sym (leading-first region (labels_with u L) some) ∙ leads)

pub heal_at-requires-clause-turn : goal.heal_at-requires-clause-turn
heal_at-requires-clause-turn g c =
    can-turn c.args.modules.now c.args.regions.now c.heal_others.new.modules c.heal_others.new.regions c.args.region.now c.args.uuid.now c.place_at.result.label
    0 _ c.requires.heal c.in-Ok.ensures.still (platform_of c.args.regions.now) (labels_in c.args.modules.now) c.in-Ok.ensures.healed (λ first. refl)

pub heal_at-requires-clause-sized : goal.heal_at-requires-clause-sized
heal_at-requires-clause-sized g c =
    sized-on c.in-Ok.ensures.pass c.requires.sized

pub returns-in-Ok-clause-healed : goal.returns-in-Ok-clause-healed
returns-in-Ok-clause-healed g c =
    let ms = c.args.modules.now in
    let rs = c.args.regions.now in
    let region = c.args.region.now in
    let u = c.args.uuid.now in
    let lead = c.place_at.result.label in
    let P = platform_of rs in
    let L = labels_in c.heal_others.new.modules in
    let M = labels_in c.heal_at.new.modules in
    let can = c.requires.heal in
    let first = c.in-Ok.ensures in
    let last = c.heal_at.ensures.still in
    let bounded = all-bounded c.heal_at.new.modules last.together.together.in_use in
    let some = some-members region u (labels_in ms) can.whole in
    on_ok c.heal_at.result (λ turned_there.
    let turned : IsTurned P region u lead 0 L M = subst (λ (Q : Platform). IsTurned Q region u lead 0 L M) (ap with_regions first.still.together.same_regions) turned_there in
    record {
      same_table = all-table P can.together.disjoint region can.region_in u lead (labels_in ms) L M bounded _ refl some first.healed turned;
      marks = all-marks P can.together.disjoint region can.region_in u lead (labels_in ms) L M bounded _ refl some first.healed turned;
      alike = λ leading leads.
          subst (λ (l : Label). EachLabel region u M (λ member label. needs_healing l label ≡ false))
          (same-leading (labels_in ms) region u lead leading some c.place_at.ensures.only.first_is leads)
          (all-alike P can.together.disjoint region can.region_in u lead (labels_in ms) L M bounded _ refl some first.healed turned);
      heal = λ leading leads.
          subst (λ (l : Label). (position : ℕ) → position < length region.members → HasHeal region u l position (labels_in ms) M)
          (same-leading (labels_in ms) region u lead leading some c.place_at.ensures.only.first_is leads)
          (all-heal P can.together.disjoint region can.region_in u lead (labels_in ms) L M bounded _ refl some first.healed turned);
      others = all-others P can.together.disjoint region can.region_in u lead (labels_in ms) L M bounded _ refl some first.healed turned;
      elsewhere = all-elsewhere P can.together.disjoint region can.region_in u lead (labels_in ms) L M bounded _ refl some first.healed turned;
      same_free = last.same_free ∙ first.still.same_free;
    })
    c.heal_at.ensures.turned

pub returns-in-Ok-clause-still : goal.returns-in-Ok-clause-still
returns-in-Ok-clause-still g c = still-on c.in-Ok.ensures.still c.heal_at.ensures.still

pub returns-in-Ok-clause-pass : goal.returns-in-Ok-clause-pass
returns-in-Ok-clause-pass g c =
    let first = c.in-Ok.ensures in
    pass-on first.pass (table-still c.args.modules.now c.args.regions.now c.heal_others.new.modules c.heal_others.new.regions first.still.together first.pass.labels) c.heal_at.ensures.pass

-- where all labels are well as to the leading one, so they are as to the label that was found
well-found : (L : Labels) (region : Region) (u : List ℕ) (found leading : Label) → 0 < length region.members → first (of_uuid u (L (member_at region 0).handle)) ≡ Some found → leading_label region (labels_with u L) ≡ Some leading
    → IsWellFrom 0 L region u leading → (k : ℕ) → k < length region.members → IsAlikeAt L region u found k
well-found L region u found leading some is leads well k lt = subst (λ (l : Label). IsAlikeAt L region u l k) (sym (same-leading L region u found leading some is leads)) (well k (omega arith) lt)

pub returns-in-Ok-clause-idle : goal.returns-in-Ok-clause-idle
returns-in-Ok-clause-idle g c = λ leading leads well.
    let ms = c.args.modules.now in
    let region = c.args.region.now in
    let u = c.args.uuid.now in
    let found = c.place_at.result.label in
    let some = some-members region u (labels_in ms) c.requires.heal.whole in
    let each = well-found (labels_in ms) region u found leading some c.place_at.ensures.only.first_is leads well in
    let before = c.in-Ok.ensures.idle (λ k behind lt. each k lt) in
    let here : IsAlikeAt (labels_in c.heal_others.new.modules) region u found 0 = subst (λ (xs : List LoadedModule). IsAlikeAt (labels_in xs) region u found 0) (sym before.1) (each 0 some) in
    (c.heal_at.ensures.idle here).0 ∙ before.0

pub returns-in-Err-clause-idle : goal.returns-in-Err-clause-idle
returns-in-Err-clause-idle g c = λ leading leads well.
    let ms = c.args.modules.now in
    let region = c.args.region.now in
    let u = c.args.uuid.now in
    let some = some-members region u (labels_in ms) c.requires.heal.whole in
    let each = well-found (labels_in ms) region u c.place_at.result.label leading some c.place_at.ensures.only.first_is leads well in
    (c.heal_others.ensures.idle (λ k behind lt. each k lt)).0
