use Rattle.std.proofs.Common.{◌≡◌, false, take}
use Rattle.std.specs.Prelude.{nat_lt}
use Rattle.std.specs.List.{list_any}
use Rattle.label_codec.specs.Flags.{is_updating}
use Rattle.label_codec.specs.ModuleLabels.{number}
use Rattle.region_map.specs.declared.platform.Member.{Member}
use Rattle.region_labels.specs.Modules.{labels_in}
use Rattle.region_labels.proofs.pending.has_marked.Given as goal

abbrev pub invariant-loop-position : goal.invariant-loop-position
invariant-loop-position l = list_any (λ (m : Member). nat_lt 0 (number is_updating (labels_in l.modules m.handle))) (take l.position l.kept.region.members) ≡ false
