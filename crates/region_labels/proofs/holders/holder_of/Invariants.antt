use Rattle.std.proofs.Common.{take}
use Rattle.region_labels.specs.Fates.{platform_of}
use Rattle.region_labels.specs.Modules.{labels_in}
use Rattle.region_labels.specs.Holders.{IsHolder}
use Rattle.region_labels.proofs.holders.holder_of.Given as goal

abbrev pub invariant-loop-loaded : goal.invariant-loop-loaded
invariant-loop-loaded l = IsHolder (platform_of l.regions) (labels_in l.modules) l.uuid (take l.loaded-index l.modules) l.least
