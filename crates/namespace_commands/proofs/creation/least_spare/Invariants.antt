use Rattle.std.proofs.Common.{◌≡◌, ℕ, min, take}
use Rattle.std.specs.List.{fold}
use Rattle.region_map.specs.declared.platform.Member.{Member}
use Rattle.label_sets.specs.Sets.{state_in}
use Rattle.namespace_commands.proofs.creation.least_spare.Given as goal

abbrev pub invariant-loop-other : goal.invariant-loop-other
invariant-loop-other l = l.least ≡ fold (λ (least : ℕ) (other : Member). min least ((state_in l.fn.sets).table.spare other.handle)) l.initial.least (take l.other-index l.others)
