use Rattle.std.proofs.Common.{◌≡◌, length}
use Rattle.extent_alloc.specs.Chains.{extents_of}
use Rattle.extent_alloc.specs.Gaps.{AreFoundFrom}
use Rattle.extent_alloc.proofs.extents.Extents.outside.Given as goal

abbrev pub invariant-loop-range : goal.invariant-loop-range
invariant-loop-range l = record {
  found : AreFoundFrom l.end l.whole l.fn.ranges.items l.ranges.items (extents_of l.chain.links);
  spare : l.chain.spare ≡ 0;
}

abbrev pub decreases-loop-range : goal.decreases-loop-range
decreases-loop-range l = length l.ranges.items
