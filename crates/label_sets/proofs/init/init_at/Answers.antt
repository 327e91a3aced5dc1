use Rattle.std.proofs.Common.{◌≡◌, ◌≢◌, set, sym, subst, ◌∙◌}
use Rattle.std.specs.FinMap.{get}
use Rattle.std.specs.List.{All}
use Rattle.rig_trait.specs.Areas.{Areas, OthersKept}
use Rattle.rig_trait.specs.Frames.{LeavesOnly}
use Rattle.label_codec.specs.declared.kind.AreaKind.TheVariants as kind
use Rattle.label_area.specs.Inits.{LeftByInit, initialised}
use Rattle.label_area.specs.Modules.{area_kind}
use Rattle.region_labels.specs.declared.modules.LoadedModule.{LoadedModule}
use Rattle.region_labels.specs.declared.modules.ModuleArea.TheVariants.{Ready, Uninit}
use Rattle.region_labels.specs.Regions.{IsOver}
use Rattle.module_flips.specs.Stored.{StandsIn}
use Rattle.label_sets.specs.Init.{IsInitialisedTo}
use Rattle.label_sets.proofs.InitialisedSets.{init-left, initialised-to, over-now, refused-so, restored, stands-now, was-uninit}
use Rattle.label_sets.proofs.init.init_at.Goals as goal

pub init_over-requires : goal.init_over-requires
init_over-requires g c =
    let q = c.requires in
    subst (λ h. All (IsOver (set c.args.modules.now c.args.seat (record { dimm = h; area = Ready c.args.vacant }))) c.args.regions.now) (sym c.dimm-dimm.ensures)
    (over-now c.args.modules.now c.args.seat c.args.vacant.dimm c.args.size c.args.vacant q.within q.dimm q.uninit q.vacant q.once c.args.regions.now q.over)

pub returns-in-Ok-clause-initialised : goal.returns-in-Ok-clause-initialised
returns-in-Ok-clause-initialised g c =
    let q = c.requires in
    let area = c.args.vacant in
    subst (λ h. IsInitialisedTo c.args.modules.now (set c.args.modules.now c.args.seat (record { dimm = h; area = Ready area })) c.args.regions.now area.dimm area.geometry.slots) (sym c.dimm-dimm.ensures)
    (initialised-to c.args.modules.now c.args.seat area.dimm c.args.size area q.within q.dimm q.uninit q.vacant q.once c.args.regions.now q.own q.in_use q.over)

pub returns-in-Ok-clause-stands : goal.returns-in-Ok-clause-stands
returns-in-Ok-clause-stands g c = λ told all.
    let q = c.requires in
    let area = c.args.vacant in
    let areas : Areas = g.R.Shown.areas c.args.rig.now in
    let later : Areas = g.R.Shown.areas c.init_over.new.rig in
    let same = c.dimm-dimm.ensures in
    let written : later ≡ initialised area.dimm areas = subst (λ h. later ≡ initialised h areas) same (c.in-Ok.ensures.written told) in
    let others : OthersKept area.dimm areas later = subst (λ h. OthersKept h areas later) same (c.init_over.ensures.writes_only.others told) in
    let stand : All (StandsIn later) (set c.args.modules.now c.args.seat (record { dimm = area.dimm; area = Ready area })) =
    subst (λ now. All (StandsIn now) (set c.args.modules.now c.args.seat (record { dimm = area.dimm; area = Ready area }))) (sym written)
    (stands-now c.args.modules.now c.args.seat area.dimm c.args.size area q.within q.dimm q.uninit q.vacant q.once areas all
    (subst (λ now. OthersKept area.dimm areas now) written others)) in
    subst (λ h. All (StandsIn later) (set c.args.modules.now c.args.seat (record { dimm = h; area = Ready area }))) (sym same) stand

pub returns-in-Ok-clause-any_moment : goal.returns-in-Ok-clause-any_moment
returns-in-Ok-clause-any_moment g c = λ told all.
    let q = c.requires in
    let area = c.args.vacant in
    let m = g.R.Shown in
    init-left c.args.modules.now c.args.seat area.dimm c.args.size area q.within q.dimm q.uninit q.vacant q.once m c.args.rig.now c.init_over.new.rig all
    (subst (λ h. LeavesOnly m c.args.rig.now c.init_over.new.rig (LeftByInit (m.areas c.args.rig.now) (m.said c.args.rig.now) h)) c.dimm-dimm.ensures (c.init_over.ensures.any_moment told))

pub returns-in-Err-clause-kept : goal.returns-in-Err-clause-kept
returns-in-Err-clause-kept g c =
    let q = c.requires in
    let back : LoadedModule = record { dimm = c.dimm-dimm.result; area = Uninit c.args.size } in
    restored c.args.modules.now c.args.seat (record { dimm = c.dimm-dimm.result; area = Ready c.args.vacant }) back q.within
    (λ d i. record { dimm = (q.dimm d ∙ sym c.dimm-dimm.ensures) i; area = q.uninit d i })

pub returns-in-Err-clause-told : goal.returns-in-Err-clause-told
returns-in-Err-clause-told g c = λ told all.
    let q = c.requires in
    let area = c.args.vacant in
    let areas : Areas = g.R.Shown.areas c.args.rig.now in
    let uninit : area_kind (get areas c.dimm-dimm.result) ≡ kind.Uninit = subst (λ h. area_kind (get areas h) ≡ kind.Uninit) (sym c.dimm-dimm.ensures)
    (was-uninit c.args.modules.now c.args.seat area.dimm c.args.size area q.within q.dimm q.uninit q.vacant q.once areas all) in
    let no : area_kind (get areas c.dimm-dimm.result) ≢ kind.Uninit → ⊥ = λ differ. differ uninit in
    refused-so c.in-Err.fault (λ s. area_kind (get areas c.dimm-dimm.result) ≢ kind.Uninit) (λ s. ⊥) (λ s differ. no differ) (c.in-Err.ensures.told told)

pub returns-in-Err-clause-any_moment : goal.returns-in-Err-clause-any_moment
returns-in-Err-clause-any_moment g c = λ told all.
    let q = c.requires in
    let area = c.args.vacant in
    let m = g.R.Shown in
    init-left c.args.modules.now c.args.seat area.dimm c.args.size area q.within q.dimm q.uninit q.vacant q.once m c.args.rig.now c.init_over.new.rig all
    (subst (λ h. LeavesOnly m c.args.rig.now c.init_over.new.rig (LeftByInit (m.areas c.args.rig.now) (m.said c.args.rig.now) h)) c.dimm-dimm.ensures (c.init_over.ensures.any_moment told))
