use Rattle.std.proofs.Common.{◌≡◌, false, take}
use Rattle.std.specs.Prelude.{nat_lt}
use Rattle.std.specs.List.{list_any}
use Rattle.label_codec.specs.ModuleLabels.{Labels}
use Rattle.region_map.specs.declared.platform.Member.{Member}
use Rattle.label_table.specs.Wholes.{label_count, labels_with}
use Rattle.uuid_index.specs.Labels.{IsIndex}
use Rattle.region_labels.specs.Regions.{handles}
use Rattle.region_labels.proofs.region.RegionLabels.is_doubled.Given as goal

abbrev pub invariant-loop-position : goal.invariant-loop-position
invariant-loop-position l = (L : Labels) → IsIndex (handles l.self.region) L l.self.index.entries
    → list_any (λ (m : Member). nat_lt 1 (label_count (labels_with l.uuid L) m.handle)) (take l.position l.self.region.members) ≡ false
