-- One line on a session: what it is answered, what is said of it, and what a stop leaves.
use Rattle.std.specs.Prelude.{◌≡◌, ◌⊎◌, ℕ, Bool, false, List, [], ◌++◌, take, map, Option, Some, IfOk, OnOk, Result, Ok}
use Rattle.std.specs.Prelude.{Err, ◌<◌, ◌≤◌, length}
use Rattle.rig_trait.specs.declared.shown.Shown.{Ghosts}
use Rattle.rig_trait.specs.Areas.{Areas}
use Rattle.rig_trait.specs.Frames.{GoesOn, IsTold, LeavesOnly, Reads, SaysNothing}
use Rattle.rig_trait.specs.Records.{CrashRecord}
use Rattle.cmd_words.specs.declared.commands.Command.{Command}
use Rattle.label_area.specs.Fair.{IsFair}
use Rattle.label_table.specs.Tables.{State}
use Rattle.namespace_core.specs.Commands.{has_module}
use Rattle.namespace_core.specs.Sessions.{HasTable, IsAlike, IsCurrent, StoredSession, state_of}
use Rattle.namespace_core.specs.declared.faults.RunFault.{RunFault}
use Rattle.namespace_core.specs.declared.faults.RunFault.TheVariants as faults
use Rattle.view_types.specs.declared.reply.Reply.{Reply}
use Rattle.view_types.specs.declared.word_fault.WordFault.{WordFault}
use Rattle.command_runs.specs.declared.faults.LineFault.{LineFault}
use Rattle.command_runs.specs.declared.faults.LineFault.TheVariants.{Area, Memory, Say}
use Rattle.command_runs.specs.Areas.{KeepsAreas, LeavesAreas, LeavesLabels, WritesNothing, changed_by_line}
use Rattle.command_runs.specs.Areas.{initialised_by_line}
use Rattle.command_runs.specs.Ends.{run_of}
use Rattle.command_runs.specs.Faults.{HasAreaFaults, HasCause, IsAmong, fails_at, is_area, is_say}
use Rattle.command_runs.specs.LastWrites.{WritesNoMore}
use Rattle.command_runs.specs.Runs.{DoesLine, Run, is_change_if, is_refusal_if, text_if}

-- the answer that a session gave; one that is not spent never answers `Spent`
abbrev pub answer_by : Result Reply RunFault → Result (Option Reply) LineFault
answer_by (Ok reply) = Ok (Some reply)
answer_by (Err (faults.Area dimm)) = Err (Area dimm)
answer_by (Err faults.Memory) = Err Memory
answer_by (Err faults.Spent) = Err Memory

-- the run of a session in which a line stands; its other lines don't matter
abbrev pub around : StoredSession → ℕ → Run
around session seed = run_of session seed []

-- the answer is the reply to a change, or a fault within one
abbrev pub may_have_changed : Result (Option Reply) LineFault → Bool
may_have_changed (Ok reply) = is_change_if reply
may_have_changed (Err fault) = is_area {T = Option Reply} (Err fault)

-- A line does this on a session: it has this reply, and leaves this state.
abbrev pub DoesOn : Type 0 → StoredSession → ℕ → ℕ → Result (Option Command) WordFault → Option Reply → State → Type 0
DoesOn known session seed number line reply after =
    DoesLine known (around session seed) number (state_of session) line reply after

-- areas stand for the table behind a line
pub record HasLineTable (known : Type 0) (session : StoredSession) (seed number : ℕ)
    (line : Result (Option Command) WordFault)
    (areas : Areas) : Type 0 where
  pub reply : Option Reply
  pub after : State
  pub does : DoesOn known session seed number line reply after
  pub table_is : HasTable session.platform after areas

-- what a stop leaves of a line before anything of its reply is said
pub record LeftUnsaid (known : Type 0) (session : StoredSession) (seed number : ℕ)
    (line : Result (Option Command) WordFault)
    (said : List ℕ) (c : CrashRecord) : Type 0 where
  pub said_is : c.said ≡ said
  pub areas_are : IsFair c
      → HasTable session.platform (state_of session) c.areas ⊎ HasLineTable known session seed number line c.areas

-- what it leaves while the reply is said
pub record LeftSaying (known : Type 0) (session : StoredSession) (seed number : ℕ)
    (line : Result (Option Command) WordFault)
    (said : List ℕ) (c : CrashRecord) : Type 0 where
  pub reply : Option Reply
  pub after : State
  pub does : DoesOn known session seed number line reply after
  pub count : ℕ
  pub said_is : c.said ≡ said ++ take count (text_if reply)
  pub table_is : HasTable session.platform after c.areas

-- A line is answered, and nothing was said of it.
pub record Answers {R : Type 0} (m : Ghosts R) (session : StoredSession) (seed number : ℕ)
    (line : Result (Option Command) WordFault) (old : R) (now : StoredSession) (new : R)
    (answer : Result (Option Reply) LineFault) : Type 0 where
  pub does : IfOk answer (λ reply. DoesOn (IsCurrent m old session) session seed number line reply (state_of now))
  pub current : IsCurrent m old session → OnOk answer (IsCurrent m new now)
  pub any_moment : IsCurrent m old session
      → LeavesOnly m old new (LeftUnsaid (IsCurrent m old session) session seed number line (m.said old))
  pub kept : may_have_changed answer ≡ false → now ≡ session
  pub reads_only : may_have_changed answer ≡ false → Reads m old new
  pub bytes : IsCurrent m old session → KeepsAreas (fails_at answer) session.platform
      (changed_by_line session.platform line) (initialised_by_line session.platform line) (m.areas old) (m.areas new)
  pub bytes_left : IsCurrent m old session → LeavesLabels line
      → LeavesOnly m old new (LeavesAreas session.platform (initialised_by_line session.platform line) (m.areas old))
  pub nothing : SaysNothing m old new
  pub cause : HasAreaFaults m old new answer
  pub not_say : is_say answer ≡ false
  pub among : IsAmong (has_module session.platform) answer
  pub reads : initialised_by_line session.platform line ≡ [] → m.reads new ≡ m.reads old
  pub spends : now.spent ≡ is_area answer
  pub platform : now.platform ≡ session.platform
  pub alike : IsAlike session now

-- A line is done, and so much of its reply was said.
pub record IsTurned {R : Type 0} (m : Ghosts R) (session : StoredSession) (seed number : ℕ)
    (line : Result (Option Command) WordFault) (old : R) (now : StoredSession) (new : R) (reply : Option Reply)
    (IsSaid : List ℕ → Type 0) : Type 0 where
  pub does : DoesOn (IsCurrent m old session) session seed number line reply (state_of now)
  pub said_is : IsTold m old → IsSaid (text_if reply)
  pub current : IsCurrent m old session → IsCurrent m new now
  pub kept : is_change_if reply ≡ false → WritesNothing m old new
  -- nothing is written from when on the reply is begun
  pub no_more : IsCurrent m old session → WritesNoMore m old new (λ c. length (m.said old) < length c.said)

-- all of a text was said, or a front of it
abbrev pub SaysAll : List ℕ → List ℕ → List ℕ → Type 0
SaysAll before now text = now ≡ before ++ text

abbrev pub SaysFront : List ℕ → List ℕ → List ℕ → Type 0
SaysFront before now text = (count : ℕ) × (now ≡ before ++ take count text)

-- the reply was said whole, and it is a refusal or none
pub record IsWhole {R : Type 0} (m : Ghosts R) (session : StoredSession) (seed number : ℕ)
    (line : Result (Option Command) WordFault) (old : R) (now : StoredSession) (new : R) (refused : Bool) : Type 0 where
  pub reply : Option Reply
  pub turned : IsTurned m session seed number line old now new reply (SaysAll (m.said old) (m.said new))
  pub refused_is : refused ≡ is_refusal_if reply
  -- at no moment was more said
  pub most : IsCurrent m old session → LeavesOnly m old new (λ c. length c.said ≤ length (m.said new))

-- the reply was not said whole; a blank line and a comment have none
pub record IsCut {R : Type 0} (m : Ghosts R) (session : StoredSession) (seed number : ℕ)
    (line : Result (Option Command) WordFault) (old : R) (now : StoredSession) (new : R) : Type 0 where
  pub reply : Option Reply
  pub some : ¬ (text_if reply ≡ [])
  pub turned : IsTurned m session seed number line old now new reply (SaysFront (m.said old) (m.said new))

-- the rig failed at an area, and nothing was said
pub record IsBroken {R : Type 0} (m : Ghosts R) (session : StoredSession) (seed number : ℕ)
    (line : Result (Option Command) WordFault) (old new : R) : Type 0 where
  pub said_is : m.said new ≡ m.said old
  pub left : IsCurrent m old session → (c : CrashRecord) → m.may_leave new c
      → LeftUnsaid (IsCurrent m old session) session seed number line (m.said old) c

-- nothing was done
pub record IsUndone {R : Type 0} (m : Ghosts R) (session : StoredSession) (old : R) (now : StoredSession)
    (new : R) : Type 0 where
  pub kept : now ≡ session
  pub reads_only : Reads m old new

abbrev pub TurnsTo : {R : Type 0} → Ghosts R → StoredSession → ℕ → ℕ → Result (Option Command) WordFault → R
    → StoredSession → R
    → Result Bool LineFault → Type 0
TurnsTo m session seed number line old now new (Ok refused) = IsWhole m session seed number line old now new refused
TurnsTo m session seed number line old now new (Err (Area dimm)) = IsBroken m session seed number line old new
TurnsTo m session seed number line old now new (Err Memory) = IsUndone m session old now new
TurnsTo m session seed number line old now new (Err Say) = IsCut m session seed number line old now new

-- A line is done, and its reply said; or a fault ends it.
pub record Turns {R : Type 0} (m : Ghosts R) (session : StoredSession) (seed number : ℕ)
    (line : Result (Option Command) WordFault) (old : R) (now : StoredSession) (new : R)
    (result : Result Bool LineFault)
    : Type 0 where
  pub turns_to : TurnsTo m session seed number line old now new result
  pub any_moment : IsCurrent m old session
      → LeavesOnly m old new (λ c. LeftUnsaid (IsCurrent m old session) session seed number line (m.said old) c
      ⊎ LeftSaying (IsCurrent m old session) session seed number line (m.said old) c)
  pub bytes : IsCurrent m old session → KeepsAreas (fails_at result) session.platform
      (changed_by_line session.platform line) (initialised_by_line session.platform line) (m.areas old) (m.areas new)
  pub bytes_left : IsCurrent m old session → LeavesLabels line
      → LeavesOnly m old new (LeavesAreas session.platform (initialised_by_line session.platform line) (m.areas old))
  pub cause : HasCause m old new result
  pub among : IsAmong (has_module session.platform) result
  pub reads : initialised_by_line session.platform line ≡ [] → m.reads new ≡ m.reads old
  pub spends : now.spent ≡ is_area result
  pub platform : now.platform ≡ session.platform
  pub alike : IsAlike session now
  pub goes_on : GoesOn m old new
