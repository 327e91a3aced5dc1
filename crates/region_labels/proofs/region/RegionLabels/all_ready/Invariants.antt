use Rattle.std.proofs.Common.{◌≡◌, true, take}
use Rattle.std.specs.List.{list_all}
use Rattle.label_codec.specs.ModuleLabels.{is_ready}
use Rattle.region_map.specs.declared.platform.Member.{Member}
use Rattle.region_labels.specs.Modules.{labels_in}
use Rattle.region_labels.proofs.region.RegionLabels.all_ready.Given as goal

abbrev pub invariant-loop-position : goal.invariant-loop-position
invariant-loop-position l = list_all (λ (m : Member). is_ready (labels_in l.modules m.handle).kind) (take l.position l.self.region.members) ≡ true
