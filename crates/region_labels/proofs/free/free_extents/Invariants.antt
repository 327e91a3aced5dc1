use Rattle.std.proofs.Common.{◌≡◌, ◌++◌, drop, map}
use Rattle.view_types.specs.declared.namespaces.Namespace.{Namespace}
use Rattle.region_labels.specs.Fates.{platform_of}
use Rattle.region_labels.specs.Modules.{labels_in}
use Rattle.region_labels.specs.Ranges.{held_ranges_of, range_of}
use Rattle.region_labels.specs.Statuses.{space_in}
use Rattle.region_labels.proofs.free.free_extents.Given as goal

abbrev pub invariant-loop-position : goal.invariant-loop-position
invariant-loop-position l =
    l.ranges.items ++ held_ranges_of (platform_of l.regions) (labels_in l.modules) (drop l.position l.kept.region.members)
    ≡ map (λ (space : Namespace). range_of (space_in space)) l.spaces ++ held_ranges_of (platform_of l.regions) (labels_in l.modules) l.kept.region.members
