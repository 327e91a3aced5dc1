use Rattle.std.proofs.Common.{◌≡◌, ℕ, drop}
use Rattle.label_table.specs.Statuses.{first_not_ready}
use Rattle.region_labels.specs.Modules.{labels_in}
use Rattle.region_labels.proofs.region.RegionLabels.first_not_ready.Given as goal

abbrev pub invariant-loop-position : goal.invariant-loop-position
invariant-loop-position l =
    first_not_ready (λ (handle : ℕ). (labels_in l.modules handle).kind) (drop l.position l.self.region.members) ≡ first_not_ready (λ (handle : ℕ). (labels_in l.modules handle).kind) l.self.region.members
