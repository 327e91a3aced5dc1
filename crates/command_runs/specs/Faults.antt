-- Why a list of lines is not done to its end, and which faults of the rig there were.
use Rattle.std.specs.Prelude.{◌≡◌, ℕ, ◌==◌, Bool, true, false, Result, Ok, Err}
use Rattle.rig_trait.specs.declared.shown.Shown.{Ghosts}
use Rattle.rig_trait.specs.Faults.{counted}
use Rattle.rig_trait.specs.Frames.{FailsAt}
use Rattle.command_runs.specs.declared.faults.LineFault.{LineFault}
use Rattle.command_runs.specs.declared.faults.LineFault.TheVariants.{Area, Memory, Say}

-- the faults that calls for areas raise where a list ends so
abbrev pub HasAreaFaults : {R T : Type 0} → Ghosts R → R → R → Result T LineFault → Type 0
HasAreaFaults m old new (Ok value) = FailsAt 0 m old new false
HasAreaFaults m old new (Err (Area dimm)) = FailsAt dimm m old new true
HasAreaFaults m old new (Err Memory) = FailsAt 0 m old new false
HasAreaFaults m old new (Err Say) = FailsAt 0 m old new false

-- a reply could not be said
abbrev pub is_say : {T : Type 0} → Result T LineFault → Bool
is_say (Ok value) = false
is_say (Err (Area dimm)) = false
is_say (Err Memory) = false
is_say (Err Say) = true

-- the rig failed at an area
abbrev pub is_area : {T : Type 0} → Result T LineFault → Bool
is_area (Ok value) = false
is_area (Err (Area dimm)) = true
is_area (Err Memory) = false
is_area (Err Say) = false

-- it failed at the area of this module
abbrev pub fails_at : {T : Type 0} → Result T LineFault → ℕ → Bool
fails_at (Ok value) dimm = false
fails_at (Err (Area failed)) dimm = failed == dimm
fails_at (Err Memory) dimm = false
fails_at (Err Say) dimm = false

-- The first fault ends a list, so no other count rose.
pub record HasCause {R T : Type 0} (m : Ghosts R) (old new : R) (result : Result T LineFault) : Type 0 where
  pub areas : HasAreaFaults m old new result
  pub says : m.say_faults new ≡ counted (is_say result) (m.say_faults old)

-- a module whose area failed is one of these
abbrev pub IsAmong : {T : Type 0} → (ℕ → Bool) → Result T LineFault → Type 0
IsAmong known (Ok value) = Unit {0}
IsAmong known (Err (Area dimm)) = known dimm ≡ true
IsAmong known (Err Memory) = Unit {0}
IsAmong known (Err Say) = Unit {0}
