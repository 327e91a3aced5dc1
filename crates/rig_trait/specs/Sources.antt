-- What calls that read from a source keep.
use Rattle.std.specs.Prelude.{◌≡◌, Bool, IsTrue}
use Rattle.rig_trait.specs.Faults.{counted}
use Rattle.rig_trait.specs.declared.source.Source.{Ghosts}

-- The source tells its bytes left: the premise of whatever is promised of them.
abbrev pub TellsLeft : {N : Type 0} → Ghosts N → N → Type 0
TellsLeft m source = IsTrue (m.tells source)

-- Calls that read from a source, of which none failed, or the last one.
pub record Draws {N : Type 0} (m : Ghosts N) (old new : N) (failed : Bool) : Type 0 where
  pub tells : m.tells new ≡ m.tells old
  pub faults : m.faults new ≡ counted failed (m.faults old)
