use Rattle.std.proofs.Common.{◌≡◌, ◌<◌, ◌^◌, max}
use Rattle.view_types.specs.Intervals.{Ascend, greatest_aligned}
use Rattle.extent_alloc.proofs.extents.Extents.largest.Given as goal

abbrev pub invariant-loop-extent : goal.invariant-loop-extent
invariant-loop-extent l = record {
  ascend : Ascend 0 l.fn.self.whole l.extent-iterator;
  bound : l.fn.self.whole < 2 ^ 64;
  greatest : greatest_aligned l.align l.fn.self.extents ≡ max (greatest_aligned l.align l.extent-iterator) l.largest;
}
