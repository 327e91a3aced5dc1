use Rattle.std.proofs.Common.{◌≡◌, ◌<◌, ◌≤◌, ℕ, List, length, refl, sym, ap, subst, ◌∙◌, arith}
use Rattle.label_codec.specs.declared.label.Label.{Label}
use Rattle.region_map.specs.declared.platform.Platform.{Platform}
use Rattle.region_map.specs.declared.platform.Region.{Region}
use Rattle.region_labels.specs.declared.modules.LoadedModule.{LoadedModule}
use Rattle.region_labels.specs.Fates.{platform_of, with_regions}
use Rattle.region_labels.specs.Modules.{labels_in}
use Rattle.region_labels.specs.Regions.{handles}
use Rattle.namespace_passes.specs.Namespaces.{IsAlikeAt, IsTurned, IsWellFrom}
use Rattle.namespace_passes.proofs.HealEnds.{healed-all, healed-more, healed-start}
use Rattle.module_flips.specs.Passes.{kept_of}
use Rattle.module_flips.proofs.Passes.{no-pass, pass-on, sized-on}
use Rattle.namespace_passes.specs.Passes.{HasTableOf}
use Rattle.namespace_passes.proofs.Passing.{can-turn, still-kept, still-on, table-still}
use Rattle.namespace_passes.proofs.heal.heal_others.Goals as goal

pub loop-position-init : goal.loop-position-init
loop-position-init g c = record {
  still = still-kept c.args.modules.now c.args.regions.now c.args.modules.now c.args.regions.now c.requires.heal.together refl refl;
  pass = no-pass (handles c.args.region.now) (HasTableOf c.args.modules.now c.args.regions.now) (kept_of c.args.modules.now c.args.regions.now) c.args.rig.now tt refl;
  healed = healed-start (platform_of c.args.regions.now) c.args.region.now c.args.uuid.now c.args.leading.now (labels_in c.args.modules.now) (record { whole = c.requires.heal.whole; writable = c.requires.heal.writable }) c.requires.leads;
  idle = λ well. (refl, refl);
}

pub heal_at-requires-clause-turn : goal.heal_at-requires-clause-turn
heal_at-requires-clause-turn g c =
    let before = c.loop-position.invariant in
    can-turn c.args.modules.now c.args.regions.now c.loop-position.modules c.loop-position.regions c.args.region.now c.args.uuid.now c.args.leading.now
    c.loop-position.position c.loop-position.position c.requires.heal before.still (platform_of c.args.regions.now) (labels_in c.args.modules.now) before.healed (λ first. absurd (omega (arith, first, c.loop-position.auto.position)))

pub heal_at-requires-clause-sized : goal.heal_at-requires-clause-sized
heal_at-requires-clause-sized g c =
    sized-on c.loop-position.invariant.pass c.requires.sized

-- no turn flips a label that is well
idle-on : {R : Type 0} {old mid new : R} {was between now : List LoadedModule} (region : Region) (u : List ℕ) (lead : Label) (position : ℕ) → 1 ≤ position → position < length region.members
    → (IsWellFrom 1 (labels_in was) region u lead → (mid ≡ old) × (between ≡ was)) → (IsAlikeAt (labels_in between) region u lead position → (new ≡ mid) × (now ≡ between))
    → IsWellFrom 1 (labels_in was) region u lead → (new ≡ old) × (now ≡ was)
idle-on {R} {old} {mid} {new} {was} {between} {now} region u lead position some lt first second well =
    let before = first well in
    let here : IsAlikeAt (labels_in between) region u lead position = subst (λ (ms : List LoadedModule). IsAlikeAt (labels_in ms) region u lead position) (sym before.1) (well position some lt) in
    let behind = second here in
    (behind.0 ∙ before.0, behind.1 ∙ before.1)

pub returns-in-Err-clause-idle : goal.returns-in-Err-clause-idle
returns-in-Err-clause-idle g c =
    let len : c.len-position-end.result ≡ length c.args.region.now.members = c.len-position-end.ensures in
    let lt : c.loop-position.position < length c.args.region.now.members = omega (arith, len, c.loop-position-test.true) in
    idle-on c.args.region.now c.args.uuid.now c.args.leading.now c.loop-position.position c.loop-position.auto.position lt c.loop-position.invariant.idle c.heal_at.ensures.idle

pub returns-in-Err-clause-still : goal.returns-in-Err-clause-still
returns-in-Err-clause-still g c = still-on c.loop-position.invariant.still c.heal_at.ensures.still

pub returns-in-Err-clause-pass : goal.returns-in-Err-clause-pass
returns-in-Err-clause-pass g c =
    let before = c.loop-position.invariant in
    pass-on before.pass (table-still c.args.modules.now c.args.regions.now c.loop-position.modules c.loop-position.regions before.still.together before.pass.labels) c.in-Err.ensures.pass

pub loop-position-preserved : goal.loop-position-preserved
loop-position-preserved g c =
    let before = c.loop-position.invariant in
    let turn = c.in-Ok.ensures in
    let L = labels_in c.loop-position.modules in
    let M = labels_in c.heal_at.new.modules in
    let some : 0 < c.loop-position.position = omega (arith, c.loop-position.auto.position) in
    let len : c.len-position-end.result ≡ length c.args.region.now.members = c.len-position-end.ensures in
    let lt : c.loop-position.position < length c.args.region.now.members = omega (arith, len, c.loop-position-test.true) in
    let turned : IsTurned (platform_of c.args.regions.now) c.args.region.now c.args.uuid.now c.args.leading.now c.loop-position.position L M =
    subst (λ (P : Platform). IsTurned P c.args.region.now c.args.uuid.now c.args.leading.now c.loop-position.position L M) (ap with_regions before.still.together.same_regions) turn.turned in
    record {
      still = still-on before.still turn.still;
      pass = pass-on before.pass (table-still c.args.modules.now c.args.regions.now c.loop-position.modules c.loop-position.regions before.still.together before.pass.labels) turn.pass;
      healed = healed-more (platform_of c.args.regions.now) c.requires.heal.together.disjoint c.args.region.now c.requires.heal.region_in c.args.uuid.now c.args.leading.now (labels_in c.args.modules.now) L M
          c.loop-position.position some lt before.healed turned;
      idle = idle-on c.args.region.now c.args.uuid.now c.args.leading.now c.loop-position.position c.loop-position.auto.position lt before.idle turn.idle;
    }

pub returns-clause-healed : goal.returns-clause-healed
returns-clause-healed g c =
    healed-all (platform_of c.args.regions.now) c.args.region.now c.args.uuid.now c.args.leading.now c.loop-position.position (labels_in c.args.modules.now) (labels_in c.loop-position.modules)
    (omega (arith, c.loop-position-test.false)) c.loop-position.invariant.healed
