use Rattle.std.proofs.Common.{◌≡◌, drop, true}
use Rattle.label_codec.specs.ModuleLabels.{is_ready}
use Rattle.region_labels.specs.Modules.{labels_in}
use Rattle.label_sets.proofs.sweep.seat_of.Given as goal

abbrev pub invariant-loop-seat : goal.invariant-loop-seat
invariant-loop-seat l = is_ready (labels_in (drop l.seat l.modules) l.dimm).kind ≡ true
