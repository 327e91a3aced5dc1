use Rattle.std.proofs.Common.{◌≡◌, map}
use Rattle.label_table.specs.Namespaces.{spaces_below}
use Rattle.region_labels.specs.Marks.{listed_in}
use Rattle.region_labels.specs.Modules.{labels_in, module_in}
use Rattle.region_labels.proofs.region.RegionLabels.namespaces_by_slot.Given as goal

abbrev pub invariant-loop-slot : goal.invariant-loop-slot
invariant-loop-slot l =
    l.spaces.items ≡ map (listed_in (labels_in l.modules) l.self.region) (spaces_below (labels_in l.modules) l.self.region (module_in l.first).at l.slot)
