use Rattle.std.proofs.Common.{map}
use Rattle.label_table.specs.Namespaces.{spaces_below}
use Rattle.region_labels.specs.Marks.{listed_in}
use Rattle.region_labels.specs.Modules.{labels_in, module_in}
use Rattle.region_labels.specs.ListedSpaces.{is_sought}
use Rattle.region_labels.specs.Tallies.{IsTally}
use Rattle.region_labels.proofs.tallies.tally_of.Given as goal

abbrev pub invariant-loop-slot : goal.invariant-loop-slot
invariant-loop-slot l =
    IsTally (is_sought l.sought) (map (listed_in (labels_in l.modules) l.kept.region) (spaces_below (labels_in l.modules) l.kept.region (module_in l.leading).at l.slot)) l.tally
