use Rattle.std.proofs.Common.{◌≡◌}
use Rattle.label_codec.specs.ModuleLabels.{count}
use Rattle.region_labels.specs.Fates.{platform_of}
use Rattle.region_labels.specs.Modules.{labels_in, module_in}
use Rattle.region_labels.specs.Holders.{keeps_uuid}
use Rattle.region_labels.proofs.holders.has_uuid.Given as goal

abbrev pub invariant-loop-slot : goal.invariant-loop-slot
invariant-loop-slot l = count (keeps_uuid (platform_of l.regions) (labels_in l.modules) l.uuid l.loaded.dimm) (module_in l.loaded).at l.slot ≡ 0
