use Rattle.std.proofs.Common.{◌≡◌, ℕ, ◌<◌, length, get_or}
use Rattle.extent_alloc.specs.Free.{FreeSpace}
use Rattle.region_labels.specs.declared.region.RegionLabels.{RegionLabels}
use Rattle.label_sets.specs.Kept.{IsFree}
use Rattle.label_sets.proofs.free.free_in.Given as goal

abbrev pub invariant-loop-kept : goal.invariant-loop-kept
invariant-loop-kept l = record {
  each : length l.free.items ≡ l.kept-index;
  is : (place : ℕ) (d : RegionLabels) (e : FreeSpace) → place < l.kept-index → IsFree l.modules l.regions (get_or l.regions place d) (get_or l.free.items place e);
}
