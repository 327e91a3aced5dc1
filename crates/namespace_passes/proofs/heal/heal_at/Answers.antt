use Rattle.std.proofs.Common.{◌≡◌, ◌∙◌, inl, false, true, refl, sym, ap, subst}
use Rattle.region_labels.specs.Fates.{platform_of}
use Rattle.region_labels.specs.Modules.{labels_in}
use Rattle.region_labels.specs.Regions.{handles}
use Rattle.label_table.proofs.ListTests.{some_is}
use Rattle.namespace_passes.specs.Labels.{needs_healing}
use Rattle.namespace_passes.specs.Namespaces.{IsTurned}
use Rattle.module_flips.specs.Passes.{kept_of}
use Rattle.module_flips.proofs.Passes.{no-pass}
use Rattle.namespace_passes.specs.Passes.{HasTableOf}
use Rattle.namespace_passes.proofs.HealFlips.{flip-pass, flip-still, free-there, no_module, on_ok, replaced-there}
use Rattle.namespace_passes.proofs.Healed.{flip-turn}
use Rattle.namespace_passes.proofs.Passing.{still-kept}
use Rattle.namespace_passes.proofs.heal.heal_at.Goals as goal

apart : true ≡ false → ⊥
apart e = cc

pub returns-then-not-needs_healing-clause-pass : goal.returns-then-not-needs_healing-clause-pass
returns-then-not-needs_healing-clause-pass g c = no-pass (handles c.args.region.now) (HasTableOf c.args.modules.now c.args.regions.now) (kept_of c.args.modules.now c.args.regions.now) c.args.rig.now tt refl

pub returns-then-not-needs_healing-clause-still : goal.returns-then-not-needs_healing-clause-still
returns-then-not-needs_healing-clause-still g c = still-kept c.args.modules.now c.args.regions.now c.args.modules.now c.args.regions.now c.requires.turn.can.together refl refl

pub returns-then-not-needs_healing-clause-turned : goal.returns-then-not-needs_healing-clause-turned
returns-then-not-needs_healing-clause-turned g c = record {
  same_table = refl;
  same_marks = refl;
  stands = record { whole = c.requires.turn.can.whole; writable = c.requires.turn.can.writable };
  alike = λ l at. ap (needs_healing c.args.leading.now) (some_is (sym at ∙ c.place_at-own.ensures.only.first_is)) ∙ sym c.if-not-needs_healing.ensures;
  heal = inl refl;
  confined = record { others = λ other differ. refl; rest = refl };
}

pub put_at-requires-clause-free : goal.put_at-requires-clause-free
put_at-requires-clause-free g c =
    free-there c.args.modules.now c.args.regions.now c.args.region.now c.args.uuid.now c.args.position c.requires.within c.requires.turn.can c.place_at-own.result c.place_at-own.ensures

pub put_at-requires-clause-replaces : goal.put_at-requires-clause-replaces
put_at-requires-clause-replaces g c =
    replaced-there c.args.modules.now c.args.regions.now c.args.region.now c.args.uuid.now c.args.position c.requires.within c.requires.turn.can c.place_at-own.result c.place_at-own.ensures

pub returns-clause-turned : goal.returns-clause-turned
returns-clause-turned g c =
    on_ok c.put_at.result (λ same. subst (λ labels. IsTurned (platform_of c.args.regions.now) c.args.region.now c.args.uuid.now c.args.leading.now c.args.position (labels_in c.args.modules.now) labels) (sym same)
    (flip-turn c.args.modules.now c.args.regions.now c.args.region.now c.args.uuid.now c.args.leading.now c.args.position c.requires.within c.requires.turn c.place_at-own.result c.place_at-own.ensures
    c.healed_label-healed.result c.healed_label-healed.ensures c.put_at.ensures.slot_within c.put_at.ensures.slot_free no_module))
    (c.put_at.ensures.labels no_module)

pub returns-clause-still : goal.returns-clause-still
returns-clause-still g c =
    let did = c.put_at.ensures in
    flip-still c.args.modules.now c.args.regions.now c.args.region.now c.args.uuid.now c.args.position c.requires.within c.requires.turn.can c.place_at-own.result c.place_at-own.ensures c.healed_label-healed.result did.slot_within did.slot_free
    c.put_at.result c.put_at.new.modules c.put_at.new.regions did.put did.together did.free_slots (did.regions no_module) did.kept did.kept_regions

pub returns-clause-pass : goal.returns-clause-pass
returns-clause-pass g c =
    let ms = c.args.modules.now in
    let rs = c.args.regions.now in
    let label = c.healed_label-healed.result in
    let did = c.put_at.ensures in
    let turned = flip-turn ms rs c.args.region.now c.args.uuid.now c.args.leading.now c.args.position c.requires.within c.requires.turn c.place_at-own.result c.place_at-own.ensures
    label c.healed_label-healed.ensures did.slot_within did.slot_free no_module in
    flip-pass ms rs c.args.region.now c.args.uuid.now c.args.position c.requires.within c.requires.turn.can c.place_at-own.result c.place_at-own.ensures label did.slot_within did.slot_free
    (HasTableOf ms rs) refl turned.same_table (did.pass no_module)

pub returns-clause-idle : goal.returns-clause-idle
returns-clause-idle g c = λ well.
    let clash : true ≡ false = c.if-not-needs_healing.ensures ∙ well c.place_at-own.result.label c.place_at-own.ensures.only.first_is in
    absurd (apart clash)
