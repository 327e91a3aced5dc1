use Rattle.std.proofs.Common.{◌≡◌, ℕ, ◌<◌, get_or, map}
use Rattle.extent_alloc.specs.Free.{FreeSpace}
use Rattle.region_labels.specs.declared.region.RegionLabels.{RegionLabels}
use Rattle.label_sets.specs.Room.{HasExtentRoom, without_spare}
use Rattle.label_sets.proofs.room.reserve_extents.Given as goal

abbrev pub invariant-loop-at : goal.invariant-loop-at
invariant-loop-at l = record {
  same : map without_spare l.free ≡ map without_spare l.fn.free;
  room : (place : ℕ) (d : RegionLabels) (e : FreeSpace) → place < l.at → HasExtentRoom (get_or l.regions place d) (get_or l.free place e);
}
