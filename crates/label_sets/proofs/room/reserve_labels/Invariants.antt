use Rattle.std.proofs.Common.{◌≡◌, map, take}
use Rattle.std.specs.List.{All}
use Rattle.label_sets.specs.Room.{HasLabelRoom, without_room}
use Rattle.label_sets.proofs.room.reserve_labels.Given as goal

abbrev pub invariant-loop-at : goal.invariant-loop-at
invariant-loop-at l = record {
  same : map without_room l.regions ≡ map without_room l.fn.regions;
  room : All HasLabelRoom (take l.at l.regions);
}
