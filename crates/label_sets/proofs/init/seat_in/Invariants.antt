use Rattle.std.proofs.Common.{drop}
use Rattle.std.specs.Prelude.{IsSome, find}
use Rattle.region_labels.specs.Modules.{is_of}
use Rattle.label_sets.proofs.init.seat_in.Given as goal

abbrev pub invariant-loop-seat : goal.invariant-loop-seat
invariant-loop-seat l = IsSome (find (is_of l.dimm) (drop l.seat l.modules))
