use Rattle.std.proofs.Common.{drop, map}
use Rattle.std.specs.List.{Contains}
use Rattle.region_labels.specs.Fates.{region_in}
use Rattle.namespace_passes.proofs.places.kept_of.Given as goal

abbrev pub invariant-loop-kept : goal.invariant-loop-kept
invariant-loop-kept l = Contains (map region_in (drop l.kept-index l.regions)) l.region
