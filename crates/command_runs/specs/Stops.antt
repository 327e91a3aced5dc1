-- What a stop leaves at any moment of a run.
use Rattle.std.specs.Prelude.{◌≡◌, ◌⊎◌, ℕ, ◌<◌, List, ◌++◌, length, take}
use Rattle.rig_trait.specs.Areas.{Areas}
use Rattle.rig_trait.specs.Records.{CrashRecord}
use Rattle.label_area.specs.Fair.{IsFair}
use Rattle.namespace_core.specs.Sessions.{HasTable}
use Rattle.command_runs.specs.Runs.{DoesNext, IsBehind, Progress, Run}

-- areas stand for the table behind the line that follows
pub record HasNextTable (known : Type 0) (run : Run) (k : ℕ) (progress : Progress) (areas : Areas) : Type 0 where
  pub next : Progress
  pub does : DoesNext known run k progress next
  pub table_is : HasTable run.platform next.state areas

-- a part of the next reply was said, and not all of it: the table is that behind its line then
pub record SaysPart (known : Type 0) (run : Run) (k : ℕ) (progress : Progress) (said : List ℕ)
    (c : CrashRecord) : Type 0 where
  pub next : Progress
  pub does : DoesNext known run k progress next
  pub text : List ℕ
  pub text_is : next.said ≡ progress.said ++ text
  pub count : ℕ
  pub part : count < length text
  pub said_is : c.said ≡ said ++ progress.said ++ take count text
  pub areas_are : IsFair c → HasTable run.platform next.state c.areas

-- Nothing was said behind the replies, and the table is that behind their lines, or behind one more.
pub record IsBetween (known : Type 0) (run : Run) (k : ℕ) (progress : Progress) (said : List ℕ)
    (c : CrashRecord) : Type 0 where
  pub said_is : c.said ≡ said ++ progress.said
  pub areas_are : IsFair c → HasTable run.platform progress.state c.areas ⊎ HasNextTable known run k progress c.areas

-- A stop leaves the replies to the first lines, and of the next at most a part: so many are acknowledged. In a fair
-- record the areas stand for the table behind these lines, or behind one more.
pub record IsLeft (known : Type 0) (run : Run) (said : List ℕ) (c : CrashRecord) : Type 0 where
  pub acknowledged : ℕ
  pub progress : Progress
  pub behind : IsBehind known run acknowledged progress
  pub left : IsBetween known run acknowledged progress said c ⊎ SaysPart known run acknowledged progress said c
