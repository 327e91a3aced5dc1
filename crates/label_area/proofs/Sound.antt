-- What is seen of an area follows from what it keeps.
use Rattle.std.proofs.Common.{IsSome, subst}
use Rattle.label_area.specs.declared.area.Area.TheInside.{Inside}
use Rattle.label_area.specs.Kept.{IsKept, seen}
use Rattle.label_area.specs.LoadedAreas.{IsSound}
use Rattle.label_area.proofs.LabelsBySlot.{get-live_of}

pub sound : (area : Inside) → IsKept area → IsSound (seen area)
sound area kept = record {
  geometry = kept.geometry;
  label = kept.label;
  seq = kept.seq;
  bits = kept.bits;
  live_in_use = λ slot some. kept.in_use slot (subst IsSome (get-live_of slot area.labels.items) some);
}
