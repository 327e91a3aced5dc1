use Rattle.std.proofs.Common.{◌≡◌}
use Rattle.label_codec.specs.Flags.{is_updating}
use Rattle.label_codec.specs.ModuleLabels.{count}
use Rattle.region_labels.specs.Modules.{module_in}
use Rattle.region_labels.proofs.pending.has_marked_label.Given as goal

abbrev pub invariant-loop-slot : goal.invariant-loop-slot
invariant-loop-slot l = count is_updating (module_in l.loaded).at l.slot ≡ 0
