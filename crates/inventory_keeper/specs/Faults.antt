-- How the calls that fail are counted.
use Rattle.std.specs.Prelude.{ℕ, ◌+◌, ◌-◌, ◌^◌, min, Bool, true, false, Result, Ok, Err}
use Rattle.inventory_keeper.specs.declared.keeper.KeepFault.{KeepFault}
use Rattle.inventory_keeper.specs.declared.keeper.KeepFault.TheVariants.{Failed, Memory}

-- the call failed, and not for want of memory
abbrev pub has_failed : {T : Type 0} → Result T KeepFault → Bool
has_failed (Ok value) = false
has_failed (Err Failed) = true
has_failed (Err Memory) = false

-- a count after one more: it stays at its last value
abbrev pub one_more : ℕ → ℕ
one_more count = min (count + 1) (2 ^ 64 - 1)

-- a count of failed calls after one call: it rises where that failed, and only there
abbrev pub counted : Bool → ℕ → ℕ
counted true count = one_more count
counted false count = count
