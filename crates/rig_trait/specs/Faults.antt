-- How the calls that fail are counted.
use Rattle.std.specs.Prelude.{ℕ, ◌+◌, ◌-◌, ◌^◌, min, Bool, true, false}

-- a count after one more: it stays at its last value
abbrev pub one_more : ℕ → ℕ
one_more count = min (count + 1) (2 ^ 64 - 1)

-- a count of failed calls after one call: it rises where that failed, and only there
abbrev pub counted : Bool → ℕ → ℕ
counted true count = one_more count
counted false count = count
