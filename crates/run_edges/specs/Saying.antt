-- How the last text of a run is said.
use Rattle.std.specs.Prelude.{◌≡◌, ℕ, Bool, false, List, ◌++◌, take, if◌then◌else◌}
use Rattle.rig_trait.specs.declared.shown.Shown.{Ghosts}
use Rattle.rig_trait.specs.Frames.{IsTold, SayLeaves, SaysOnly}
use Rattle.run_edges.specs.declared.faults.Fault.{Fault}
use Rattle.run_edges.specs.Statuses.{fault_status}
use Rattle.run_edges.specs.Texts.{fault_line}

-- A text is said: all of it, or a front of it where the rig failed. No area is asked for anything.
pub record Tells {R : Type 0} (m : Ghosts R) (old new : R) (text : List ℕ) (failed : Bool) : Type 0 where
  pub whole : IsTold m old → failed ≡ false → m.said new ≡ m.said old ++ text
  pub front : IsTold m old → (count : ℕ) × (m.said new ≡ m.said old ++ take count text)
  pub says_only : SaysOnly m old new failed
  pub stops : SayLeaves m old new text

-- A text is said, and the status is this one; it is 7 where the rig failed, and a front of the text was said.
pub record Says {R : Type 0} (m : Ghosts R) (old new : R) (text : List ℕ) (status result : ℕ) : Type 0 where
  pub failed : Bool
  pub status_is : result ≡ (if failed then 7 else status)
  pub tells : Tells m old new text failed

-- the line of a fault is said
abbrev pub SaysLine : {R : Type 0} → Ghosts R → R → R → Fault → ℕ → Type 0
SaysLine m old new fault result = Says m old new (fault_line fault) (fault_status fault) result
