use Rattle.region_labels.specs.Fates.{platform_of}
use Rattle.region_labels.specs.Modules.{labels_in}
use Rattle.region_labels.specs.Positions.{HaveSpareBelow}
use Rattle.region_labels.proofs.positions.first_without_spare.Given as goal

abbrev pub invariant-loop-position : goal.invariant-loop-position
invariant-loop-position l = HaveSpareBelow (platform_of l.regions) (labels_in l.modules) l.kept.region l.least l.position
