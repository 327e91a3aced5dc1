-- Why a session cannot be had, and why a command has no reply.
use Rattle.std.specs.Prelude.{◌≡◌, ℕ, ◌==◌, Bool, true, false, List, Result, Ok, Err}
use Rattle.std.specs.List.{list_any}
use Rattle.view_types.specs.declared.reply.Reply.{Reply}
use Rattle.rig_trait.specs.declared.shown.Shown.{Ghosts}
use Rattle.rig_trait.specs.Frames.{FailsAt}
use Rattle.label_area.specs.Flips.{is_among}
use Rattle.label_sets.specs.declared.load.SetFault.{SetFault}
use Rattle.label_sets.specs.declared.load.SetFault.TheVariants as sets
use Rattle.namespace_commands.specs.declared.creation.ChangeFault.{ChangeFault}
use Rattle.namespace_commands.specs.declared.creation.ChangeFault.TheVariants as changes
use Rattle.namespace_core.specs.declared.faults.OpenFault.{OpenFault}
use Rattle.namespace_core.specs.declared.faults.OpenFault.TheVariants as opens
use Rattle.namespace_core.specs.declared.faults.RunFault.{RunFault}
use Rattle.namespace_core.specs.declared.faults.RunFault.TheVariants.{Area, Memory, Spent}

abbrev pub open_fault_by : SetFault → OpenFault
open_fault_by (sets.Failed dimm) = opens.Failed dimm
open_fault_by sets.Memory = opens.Memory

abbrev pub fault_by : ChangeFault → RunFault
fault_by (changes.Area dimm) = Area dimm
fault_by changes.Memory = Memory

-- the rig failed at an area
abbrev pub is_area : RunFault → Bool
is_area (Area dimm) = true
is_area Memory = false
is_area Spent = false

-- No call of the rig failed, or the last one did, and the fault names its module.
abbrev pub HasOpenCause : {R T : Type 0} → Ghosts R → R → R → Result T OpenFault → Type 0
HasOpenCause m old new (Ok value) = FailsAt 0 m old new false
HasOpenCause m old new (Err (opens.Failed dimm)) = FailsAt dimm m old new true
HasOpenCause m old new (Err opens.Memory) = FailsAt 0 m old new false

abbrev pub HasRunCause : {R : Type 0} → Ghosts R → R → R → Result Reply RunFault → Type 0
HasRunCause m old new (Ok reply) = FailsAt 0 m old new false
HasRunCause m old new (Err (Area dimm)) = FailsAt dimm m old new true
HasRunCause m old new (Err Memory) = FailsAt 0 m old new false
HasRunCause m old new (Err Spent) = FailsAt 0 m old new false

-- a module whose area failed is one of these
abbrev pub IsOpenAmong : List ℕ → OpenFault → Type 0
IsOpenAmong handles (opens.Failed dimm) = list_any (λ handle. handle == dimm) handles ≡ true
IsOpenAmong handles opens.Memory = Unit {0}

abbrev pub IsRunAmong : List ℕ → RunFault → Type 0
IsRunAmong handles (Area dimm) = list_any (λ handle. handle == dimm) handles ≡ true
IsRunAmong handles Memory = Unit {0}
IsRunAmong handles Spent = Unit {0}

-- or it is one that the command writes
abbrev pub IsRunAt : List ℕ → RunFault → Type 0
IsRunAt handles (Area dimm) = is_among handles dimm ≡ true
IsRunAt handles Memory = Unit {0}
IsRunAt handles Spent = Unit {0}

abbrev pub IsSpent : Result Reply RunFault → Type 0
IsSpent (Ok reply) = ⊥
IsSpent (Err (Area dimm)) = ⊥
IsSpent (Err Memory) = ⊥
IsSpent (Err Spent) = Unit {0}

-- a session is spent from a fault at an area on
abbrev pub spent_after : Bool → Result Reply RunFault → Bool
spent_after spent (Ok reply) = spent
spent_after spent (Err (Area dimm)) = true
spent_after spent (Err Memory) = spent
spent_after spent (Err Spent) = spent
