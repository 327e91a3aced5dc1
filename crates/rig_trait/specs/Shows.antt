-- What is told of the calls that a rig in memory keeps.
use Rattle.std.specs.Prelude.{◌≡◌, List, [], ◌∷◌, Option, Some, None}
use Rattle.rig_trait.specs.Kept.{KeptCall, kept_write, kept_say}
use Rattle.rig_trait.specs.declared.kept.Kept.{Kept}
use Rattle.rig_trait.specs.declared.kept.Kept.TheVariants.{Write, Say}

-- a kept write as a write, and a kept `say` as a `say`
abbrev pub Shows : KeptCall → Kept → Type 0
Shows (kept_write call dimm at old new) (Write dimm' at' old' new') =
    (dimm' ≡ dimm) × (at' ≡ at) × (old'.now ≡ old) × (new'.now ≡ new)
Shows (kept_say call said text) (Say text') = text'.now ≡ text
Shows (kept_write call dimm at old new) (Say text') = ⊥
Shows (kept_say call said text) (Write dimm' at' old' new') = ⊥

-- the first of these calls, where there is one
abbrev pub ShowsFirst : List KeptCall → Option Kept → Type 0
ShowsFirst [] None = Unit {0}
ShowsFirst [] (Some kept) = ⊥
ShowsFirst (call ∷ later) None = ⊥
ShowsFirst (call ∷ later) (Some kept) = Shows call kept
