-- How lines end that are done on a platform, and what a stop leaves of them.
use Rattle.std.specs.Prelude.{◌≡◌, ℕ, ◌<◌, Bool, true, false, List, [], ◌++◌, Result, Ok, Err, if◌then◌else◌, length}
use Rattle.std.specs.Prelude.{take}
use Rattle.rig_trait.specs.declared.shown.Shown.{Ghosts}
use Rattle.rig_trait.specs.Faults.{counted}
use Rattle.rig_trait.specs.Frames.{IsTold, LeavesOnly}
use Rattle.label_table.specs.Tables.{State}
use Rattle.region_map.specs.declared.platform.Platform.{Platform}
use Rattle.namespace_core.specs.Commands.{has_module}
use Rattle.namespace_core.specs.Sessions.{StandFor, stored_slots}
use Rattle.run_edges.specs.declared.faults.Fault.{Fault}
use Rattle.run_edges.specs.declared.faults.Fault.TheVariants as faults
use Rattle.run_edges.specs.Saying.{SaysLine}
use Rattle.run_edges.specs.Starting.{HasNoSession}
use Rattle.run_edges.specs.Statuses.{fault_status, refused_status}
use Rattle.run_edges.specs.Texts.{fault_line}
use Rattle.command_runs.specs.declared.faults.LineFault.{LineFault}
use Rattle.command_runs.specs.declared.faults.LineFault.TheVariants.{Area, Memory, Say}
use Rattle.command_runs.specs.Areas.{KeepsBytes, LeaveLabels, LeavesBytes, WritesNothing}
use Rattle.command_runs.specs.Faults.{HasAreaFaults, IsAmong, fails_at}
use Rattle.command_runs.specs.LastWrites.{IsPastChanges, IsPastLine, WritesNoMore}
use Rattle.command_runs.specs.Runs.{DoesNext, IsBehind, Progress, Run}
use Rattle.command_runs.specs.Stops.{IsLeft}
use Rattle.nd_top.specs.Stops.{IsLeftOf}

-- All lines are done: all replies are said, and the areas stand for the state behind the last line.
pub record IsDone {R : Type 0} (m : Ghosts R) (run : Run) (old new : R) (status : ℕ) : Type 0 where
  pub progress : Progress
  pub behind : IsBehind (IsTold m old) run (length run.lines) progress
  pub status_is : status ≡ refused_status progress.refused
  pub said_is : IsTold m old → m.said new ≡ m.said old ++ progress.said
  pub areas_are : IsTold m old → StandFor run.platform (m.areas new) progress.state
  -- where no reply is that to a change nothing is written
  pub kept : progress.changed ≡ false → WritesNothing m old new
  -- and nothing from when on the last such reply is begun
  pub no_more : IsTold m old
      → WritesNoMore m old new (IsPastChanges (IsTold m old) run (length run.lines) progress behind (m.said old))
  pub say_faults : m.say_faults new ≡ m.say_faults old

-- A reply could not be said whole: its line is done, and a front of it is said behind the replies to the lines before.
pub record IsCutOff {R : Type 0} (m : Ghosts R) (run : Run) (old new : R) (status : ℕ) : Type 0 where
  pub done : ℕ
  pub more : done < length run.lines
  pub progress : Progress
  pub behind : IsBehind (IsTold m old) run done progress
  pub next : Progress
  pub does : DoesNext (IsTold m old) run done progress next
  -- a blank line and a comment have no reply that could be cut off
  pub text : List ℕ
  pub some : ¬ (text ≡ [])
  pub text_is : next.said ≡ progress.said ++ text
  pub status_is : status ≡ 7
  pub said_is : IsTold m old → (count : ℕ) × (m.said new ≡ m.said old ++ progress.said ++ take count text)
  pub areas_are : IsTold m old → StandFor run.platform (m.areas new) next.state
  pub kept : next.changed ≡ false → WritesNothing m old new
  pub no_more : IsTold m old → WritesNoMore m old new (λ c. IsPastLine does.reply (m.said old ++ progress.said) c
      (IsPastChanges (IsTold m old) run done progress behind (m.said old) c))
  pub say_faults : m.say_faults new ≡ counted true (m.say_faults old)

-- A fault ended the run behind the replies to the first lines, and its line is said, or a front of it.
pub record IsEnded {R : Type 0} (m : Ghosts R) (run : Run) (fault : Fault) (old new : R) (status : ℕ) : Type 0 where
  pub done : ℕ
  pub more : done < length run.lines
  pub progress : Progress
  pub behind : IsBehind (IsTold m old) run done progress
  pub cut : Bool
  pub status_is : status ≡ (if cut then 7 else fault_status fault)
  pub whole : IsTold m old → cut ≡ false → m.said new ≡ m.said old ++ progress.said ++ fault_line fault
  pub front : IsTold m old → (count : ℕ) × (m.said new ≡ m.said old ++ progress.said ++ take count (fault_line fault))
  pub say_faults : m.say_faults new ≡ counted cut (m.say_faults old)

-- Memory was refused: nothing was changed behind the lines whose replies are said.
pub record WantsMemory {R : Type 0} (m : Ghosts R) (run : Run) (old new : R) (status : ℕ) : Type 0 where
  pub ended : IsEnded m run faults.Memory old new status
  pub areas_are : IsTold m old → StandFor run.platform (m.areas new) ended.progress.state
  pub kept : ended.progress.changed ≡ false → WritesNothing m old new
  -- nor was anything written from when on the last reply to a change is begun
  pub no_more : IsTold m old → WritesNoMore m old new
      (IsPastChanges (IsTold m old) run ended.done ended.progress ended.behind (m.said old))

-- Where the rig failed at an area, the areas are what a stop leaves.
abbrev pub EndsBy : {R : Type 0} → Ghosts R → Run → R → R → ℕ → Result Bool LineFault → Type 0
EndsBy m run old new status (Ok refused) = IsDone m run old new status
EndsBy m run old new status (Err Say) = IsCutOff m run old new status
EndsBy m run old new status (Err (Area dimm)) = IsEnded m run (faults.Area dimm) old new status
EndsBy m run old new status (Err Memory) = WantsMemory m run old new status

-- What a stop leaves of the run. A fault that ended it, and whose line is said, is no other in any record.
abbrev pub Leaves : {R : Type 0} → Ghosts R → Run → R → R → Result Bool LineFault → Type 0
Leaves m run old new (Ok refused) = LeavesOnly m old new (IsLeft (IsTold m old) run (m.said old))
Leaves m run old new (Err Say) = LeavesOnly m old new (IsLeft (IsTold m old) run (m.said old))
Leaves m run old new (Err (Area dimm)) =
    LeavesOnly m old new (IsLeftOf (IsTold m old) run (faults.Area dimm) (m.said old))
Leaves m run old new (Err Memory) = LeavesOnly m old new (IsLeftOf (IsTold m old) run faults.Memory (m.said old))

-- what is said behind the lines, and the status
abbrev pub SaysEnd : {R : Type 0} → Ghosts R → R → R → Result Bool LineFault → ℕ → Type 0
SaysEnd m old new (Ok refused) status = (new ≡ old) × (status ≡ refused_status refused)
SaysEnd m old new (Err Say) status = (new ≡ old) × (status ≡ 7)
SaysEnd m old new (Err (Area dimm)) status = SaysLine m old new (faults.Area dimm) status
SaysEnd m old new (Err Memory) status = SaysLine m old new faults.Memory status

-- The lines are done from the state that the areas stand for, to the end or up to a fault. No call failed but the one
-- that is the fault, and that which should have said its line.
pub record AreRun {R : Type 0} (m : Ghosts R) (run : Run) (old new : R) (status : ℕ) : Type 0 where
  pub start_is : IsTold m old → StandFor run.platform (m.areas old) run.start
  pub slots_are : IsTold m old → run.slots ≡ stored_slots run.platform.modules (m.areas old)
  pub outcome : Result Bool LineFault
  pub ends : EndsBy m run old new status outcome
  pub faults : HasAreaFaults m old new outcome
  pub among : IsAmong (has_module run.platform) outcome
  -- The headline: a stop leaves the table behind the lines that are acknowledged, or behind one more.
  pub any_moment : IsTold m old → Leaves m run old new outcome
  -- No other area is written, and `init-labels` writes its index blocks alone. A stop leaves them so where no line
  -- changes labels.
  pub bytes : IsTold m old → KeepsBytes (fails_at outcome) run.platform run.lines (m.areas old) (m.areas new)
  pub bytes_left : IsTold m old → LeaveLabels run.lines
      → LeavesOnly m old new (LeavesBytes run.platform run.lines (m.areas old))

-- the run of these lines with a seed on a platform, from a state
abbrev pub run_from : Platform → ℕ → List (List ℕ) → (ℕ → ℕ) → State → Run
run_from platform seed lines slots start =
    record { platform = platform; slots = slots; seed = seed; start = start; lines = lines }

pub data EndsOn {R : Type 0} (m : Ghosts R) (seed : ℕ) (platform : Platform) (lines : List (List ℕ)) (old new : R)
    (status : ℕ) : Type 0 where
  -- the areas could not be read, or memory was refused there: the line of the fault is said
  not_started : (read : R) (fault : Fault) → HasNoSession m platform old read fault → SaysLine m read new fault status
      → EndsOn m seed platform lines old new status
  ran : (slots : ℕ → ℕ) → (start : State) → AreRun m (run_from platform seed lines slots start) old new status
      → EndsOn m seed platform lines old new status
