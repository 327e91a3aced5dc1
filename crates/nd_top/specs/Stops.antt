-- What a stop leaves of lines that a fault ended.
use Rattle.std.specs.Prelude.{◌≡◌, ◌⊎◌, ℕ, List, ◌++◌, take}
use Rattle.rig_trait.specs.Records.{CrashRecord}
use Rattle.label_area.specs.Fair.{IsFair}
use Rattle.run_edges.specs.declared.faults.Fault.{Fault}
use Rattle.run_edges.specs.Texts.{fault_line}
use Rattle.command_runs.specs.Runs.{IsBehind, Progress, Run}
use Rattle.command_runs.specs.Stops.{HasNextTable, IsLeft}
use Rattle.namespace_core.specs.Sessions.{HasTable}

-- The line of the fault, or a front of it, is said behind the replies to the first lines: so many are acknowledged. In
-- a fair record the areas stand for the table behind these lines, or behind one more.
pub record SaysFault (known : Type 0) (run : Run) (fault : Fault) (said : List ℕ) (c : CrashRecord) : Type 0 where
  pub acknowledged : ℕ
  pub progress : Progress
  pub behind : IsBehind known run acknowledged progress
  pub count : ℕ
  pub said_is : c.said ≡ said ++ progress.said ++ take count (fault_line fault)
  pub areas_are : IsFair c → HasTable run.platform progress.state c.areas
      ⊎ HasNextTable known run acknowledged progress c.areas

-- What a stop leaves at any moment: the replies to the first lines, and behind them nothing, a part of the next reply,
-- or a front of the line of the fault that ended them; and the table behind these lines, or behind one more.
abbrev pub IsLeftOf : Type 0 → Run → Fault → List ℕ → CrashRecord → Type 0
IsLeftOf known run fault said c = IsLeft known run said c ⊎ SaysFault known run fault said c
