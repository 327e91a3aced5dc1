use Rattle.std.proofs.Common.{◌≡◌, ◌+◌, ◌*◌, ◌≤◌, false, take}
use Rattle.std.specs.Prelude.{map}
use Rattle.std.specs.List.{All}
use Rattle.rig_trait.specs.Frames.{IsTold, Reads, FailsAt}
use Rattle.region_labels.specs.Modules.{dimm_of}
use Rattle.module_flips.specs.Flips.{HasLabelsInUse, IsOwn}
use Rattle.module_flips.specs.Stored.{StandsIn}
use Rattle.label_sets.proofs.load.load_modules.Given as goal

abbrev pub invariant-loop-dimm : goal.invariant-loop-dimm
invariant-loop-dimm g l = record {
  reads_only : Reads g.R.Shown l.fn.rig l.rig;
  cause : FailsAt 0 g.R.Shown l.fn.rig l.rig false;
  stands : IsTold g.R.Shown l.fn.rig → All (StandsIn (g.R.Shown.areas l.fn.rig)) l.modules.items;
  own : All IsOwn l.modules.items;
  in_use : All HasLabelsInUse l.modules.items;
  handles : map dimm_of l.modules.items ≡ take l.dimm-index l.handles;
  reads : g.R.Shown.reads l.rig ≤ g.R.Shown.reads l.fn.rig + 2 * l.dimm-index;
}
