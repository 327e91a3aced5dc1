use Rattle.std.proofs.Common.{◌≡◌, ◌+◌, not}
use Rattle.label_codec.specs.ModuleLabels.{count}
use Rattle.label_table.specs.Fates.{is_dead}
use Rattle.region_labels.specs.Fates.{platform_of}
use Rattle.region_labels.specs.Modules.{labels_in, module_in}
use Rattle.region_labels.proofs.held.spare.Given as goal

abbrev pub invariant-loop-slot : goal.invariant-loop-slot
invariant-loop-slot l =
    l.spare + count (λ label. not (is_dead (platform_of l.regions) (labels_in l.modules) l.loaded.dimm label)) (module_in l.loaded).at l.slot ≡ (module_in l.loaded).slots
