use Rattle.std.proofs.Common.{Ok}
use Rattle.region_labels.specs.Fates.{platform_of}
use Rattle.region_labels.specs.Modules.{labels_in}
use Rattle.region_labels.specs.Regions.{handles}
use Rattle.module_flips.specs.Passes.{IsPass, kept_of}
use Rattle.namespace_passes.specs.Staged.{IsBeforeOrWith, new_space}
use Rattle.namespace_passes.specs.Staging.{StagedBelow}
use Rattle.namespace_passes.proofs.staging.stage_labels.Given as goal

abbrev pub invariant-loop-position : goal.invariant-loop-position
invariant-loop-position g l = record {
  below : StagedBelow l.fn.modules l.fn.regions l.region l.space l.position l.modules l.regions;
  pass : IsPass (handles l.region) (IsBeforeOrWith (platform_of l.fn.regions) l.region (new_space l.space) (labels_in l.fn.modules)) g.R.Shown (kept_of l.fn.modules l.fn.regions) l.fn.rig (kept_of l.modules l.regions) l.rig (Ok (tt {0}));
}
