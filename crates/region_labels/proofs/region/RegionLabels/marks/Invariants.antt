use Rattle.std.proofs.Common.{◌≡◌, true, take}
use Rattle.std.specs.List.{list_all}
use Rattle.label_table.specs.Wholes.{has_one, labels_with}
use Rattle.region_labels.specs.Marks.{marks_of}
use Rattle.region_labels.specs.Modules.{labels_in}
use Rattle.region_labels.proofs.region.RegionLabels.marks.Given as goal

abbrev pub invariant-loop-position : goal.invariant-loop-position
invariant-loop-position l = record {
  each : list_all (has_one l.self.region l.leading (labels_with l.uuid (labels_in l.modules))) (take l.position l.self.region.members) ≡ true;
  marks : l.marks ≡ marks_of l.leading (labels_with l.uuid (labels_in l.modules)) (take l.position l.self.region.members);
}
