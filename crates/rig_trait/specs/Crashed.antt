-- A rig in memory as it stood where a kept call was stopped.
use Rattle.std.specs.Prelude.{◌≡◌, ℕ, ◌+◌, List, [], ◌∷◌, ◌++◌, length, Option, Some, None, nat_eq, if◌then◌else◌}
use Rattle.std.specs.List.{starts_with}
use Rattle.std.specs.Option.{option_map}
use Rattle.rig_trait.specs.declared.shown.Shown.{Ghosts}
use Rattle.rig_trait.specs.Areas.{written}
use Rattle.rig_trait.specs.Kept.{KeptCall, kept_write, kept_say, kept_calls, kept_from, number_of}
use Rattle.rig_trait.specs.Memory.{Memory, new_memory}
use Rattle.rig_trait.specs.Records.{CrashRecord, TornWrite}
use Rattle.rig_trait.specs.Undone.{before, standing, whole}

-- a call stopped with these bytes in its range, or said: as many as were to be written, or a front of the text
abbrev pub stopped : KeptCall → CrashRecord → List ℕ → Option CrashRecord
stopped (kept_write call dimm at old new) was torn =
    if nat_eq (length torn) (length new) then Some (whole (written was.areas dimm at torn) was.said) else None
stopped (kept_say call said text) was torn =
    if starts_with nat_eq text torn then Some (whole was.areas (was.said ++ torn)) else None

-- the first of these calls stopped so
abbrev pub first_stopped : List KeptCall → CrashRecord → List ℕ → Option CrashRecord
first_stopped [] now torn = None
first_stopped (call ∷ later) now torn = stopped call (before (call ∷ later) now) torn

-- a rig of this room that was made with these areas and these bytes said
abbrev pub made_of : ℕ → CrashRecord → Memory
made_of room c = record (new_memory room) { areas = c.areas; said = c.said }

abbrev pub crashed : Memory → ℕ → List ℕ → Option Memory
crashed rig call torn =
    option_map (made_of rig.room) (first_stopped (kept_from call (kept_calls rig.keeping)) (standing rig) torn)

-- a list begins with a call
abbrev pub IsFirst : List KeptCall → KeptCall → Type 0
IsFirst calls call = (later : List KeptCall) × (calls ≡ call ∷ later)

-- how many of these calls are before the first with a number: the moment at which it began
abbrev pub moment_of : ℕ → List KeptCall → ℕ
moment_of number [] = 0
moment_of number (call ∷ later) = if nat_eq (number_of call) number then 0 else moment_of number later + 1

-- the torn write of the first of these calls, where that was stopped: the call itself, none where it is a `say`
abbrev pub first_torn : List KeptCall → Option TornWrite
first_torn [] = None
first_torn (kept_write call dimm at old new ∷ later) = Some (record { dimm = dimm; at = at; old = old; new = new })
first_torn (kept_say call said text ∷ later) = None

-- A stop since a moment might have left a record of another rig with this rig's areas and bytes said, and with this torn
-- write.
abbrev pub IsLeft : {R : Type 0} → Ghosts R → R → ℕ → Option TornWrite → R → Type 0
IsLeft m of since torn rig = m.left_since of since (record { areas = m.areas rig; said = m.said rig; torn = torn })
