use Rattle.std.proofs.Common.{◌<◌, ◌≤◌, length, subst, arith}
use Rattle.region_labels.specs.Fates.{platform_of}
use Rattle.region_labels.specs.Modules.{labels_in}
use Rattle.region_labels.specs.Regions.{handles}
use Rattle.module_flips.specs.Passes.{kept_of}
use Rattle.module_flips.proofs.Passes.{no-pass, pass-on, sized-on}
use Rattle.namespace_passes.specs.Staged.{IsBeforeOrWith, new_space}
use Rattle.namespace_passes.proofs.StagedFlips.{all-staged, can-stage-at, none-below}
use Rattle.namespace_passes.proofs.Steps.{fits-staged}
use Rattle.namespace_passes.proofs.staging.stage_labels.Goals as goal

pub loop-position-init : goal.loop-position-init
loop-position-init g c =
    let ms = c.args.modules.now in
    let rs = c.args.regions.now in
    let r = c.args.region.now in
    let s = c.args.space.now in
    let none = none-below ms rs r s c.requires.stage in
    record {
      below = none;
      pass = no-pass (handles r) (IsBeforeOrWith (platform_of rs) r (new_space s) (labels_in ms)) (kept_of ms rs) c.args.rig.now tt (fits-staged (platform_of rs) r s (labels_in ms) 0 (labels_in ms) none.labels);
    }

pub stage_at-requires-clause-stage : goal.stage_at-requires-clause-stage
stage_at-requires-clause-stage g c =
    can-stage-at c.args.modules.now c.args.regions.now c.args.region.now c.args.space.now c.requires.stage c.loop-position.position c.loop-position.modules c.loop-position.regions c.loop-position.invariant.below
    (subst (λ n. c.loop-position.position < n) c.len-position-end.ensures c.loop-position-test.true)

pub stage_at-requires-clause-sized : goal.stage_at-requires-clause-sized
stage_at-requires-clause-sized g c = sized-on c.loop-position.invariant.pass c.requires.sized

pub returns-in-Err-clause-pass : goal.returns-in-Err-clause-pass
returns-in-Err-clause-pass g c =
    let before = c.loop-position.invariant in
    pass-on before.pass (λ labels fit. fit) (c.in-Err.ensures.pass c.args.modules.now c.args.regions.now c.requires.stage before.below)

pub loop-position-preserved : goal.loop-position-preserved
loop-position-preserved g c =
    let before = c.loop-position.invariant in
    let turn = c.in-Ok.ensures in
    let ms = c.args.modules.now in
    let rs = c.args.regions.now in
    record {
      below = turn.staged ms rs c.requires.stage before.below;
      pass = pass-on before.pass (λ labels fit. fit) (turn.pass ms rs c.requires.stage before.below);
    }

pub returns-clause-staged : goal.returns-clause-staged
returns-clause-staged g c =
    let all : length c.args.region.now.members ≤ c.loop-position.position = omega (arith, c.loop-position-test.false, c.len-position-end.ensures) in
    all-staged c.args.modules.now c.args.regions.now c.args.region.now c.args.space.now c.requires.stage c.loop-position.position c.loop-position.modules c.loop-position.regions c.loop-position.invariant.below all

pub returns-clause-labels : goal.returns-clause-labels
returns-clause-labels g c = λ position slot label lt at has. (c.loop-position.invariant.below.labels.are position slot label lt at has).is
