-- Lines on a session that has just started, whose areas were read before.
use Rattle.std.proofs.Common.{◌≡◌, ◌⊎◌, ℕ, ◌<◌, Bool, true, false, List, [], ◌++◌, length, take, Option, Result, Ok, Err, refl, sym, ap, ◌∙◌, subst, inl, inr, ⊎_elim, if◌then◌else◌}
use Rattle.std.specs.FinMap.{get}
use Rattle.std.proofs.lemmas.List.{append-nil}
use Rattle.rig_trait.specs.declared.shown.Shown.{Ghosts}
use Rattle.rig_trait.specs.Areas.{Areas}
use Rattle.rig_trait.specs.Faults.{counted}
use Rattle.rig_trait.specs.Frames.{FailsAt, IsTold, LeavesOnly, Reads, SaysOnly}
use Rattle.rig_trait.specs.Records.{CrashRecord}
use Rattle.rig_trait.proofs.Frames.{reading}
use Rattle.rig_trait.proofs.Moments.{joined, weakened}
use Rattle.label_area.specs.Fair.{IsFair}
use Rattle.label_table.specs.Tables.{State, state}
use Rattle.region_map.specs.declared.platform.Platform.{Platform}
use Rattle.namespace_core.specs.Sessions.{HasTable, IsCurrent, StandFor, StoredSession, labels_of, slots_of, state_of, stored_slots}
use Rattle.command_runs.proofs.Records.{read-only, writes-nothing}
use Rattle.command_runs.specs.declared.faults.LineFault.{LineFault}
use Rattle.command_runs.specs.declared.faults.LineFault.TheVariants.{Area, Memory, Say}
use Rattle.command_runs.specs.Areas.{KeepsBytes, LeaveLabels, LeavesBytes, WritesNothing}
use Rattle.command_runs.specs.Ends.{run_of}
use Rattle.command_runs.specs.Faults.{HasAreaFaults, fails_at}
use Rattle.command_runs.specs.Runs.{Run, at_start}
use Rattle.command_runs.specs.Stops.{IsLeft}
use Rattle.command_runs.proofs.Known.{left-known}

-- No call failed, and then what failed did.
pub fails_behind : {R : Type 0} (m : Ghosts R) (dimm : ℕ) (old mid new : R) (failed : Bool) → FailsAt 0 m old mid false → FailsAt dimm m mid new failed → FailsAt dimm m old new failed
fails_behind m dimm old mid new failed first second = record {
  faults = second.faults ∙ ap (counted failed) first.faults;
  failed_dimm = second.failed_dimm ∙ ap (λ (before : ℕ). if failed then dimm else before) first.failed_dimm;
}

pub faults_behind : {R : Type 0} (m : Ghosts R) (old mid new : R) (outcome : Result Bool LineFault) → FailsAt 0 m old mid false → HasAreaFaults m mid new outcome → HasAreaFaults m old new outcome
faults_behind m old mid new (Ok refused) first second = fails_behind m 0 old mid new false first second
faults_behind m old mid new (Err (Area dimm)) first second = fails_behind m dimm old mid new true first second
faults_behind m old mid new (Err Memory) first second = fails_behind m 0 old mid new false first second
faults_behind m old mid new (Err Say) first second = fails_behind m 0 old mid new false first second

-- What is said asks no area for anything.
pub faults_said : {R : Type 0} (m : Ghosts R) (old mid new : R) (outcome : Result Bool LineFault) (failed : Bool) → HasAreaFaults m old mid outcome → SaysOnly m mid new failed → HasAreaFaults m old new outcome
faults_said m old mid new (Ok refused) failed first says = record { faults = says.faults ∙ first.faults; failed_dimm = says.failed_dimm ∙ first.failed_dimm }
faults_said m old mid new (Err (Area dimm)) failed first says = record { faults = says.faults ∙ first.faults; failed_dimm = says.failed_dimm ∙ first.failed_dimm }
faults_said m old mid new (Err Memory) failed first says = record { faults = says.faults ∙ first.faults; failed_dimm = says.failed_dimm ∙ first.failed_dimm }
faults_said m old mid new (Err Say) failed first says = record { faults = says.faults ∙ first.faults; failed_dimm = says.failed_dimm ∙ first.failed_dimm }

-- a session that is current stands for the areas
pub current_state : {R : Type 0} (m : Ghosts R) (rig : R) (session : StoredSession) (platform : Platform) (now : State)
    → session.platform ≡ platform → state_of session ≡ now → IsCurrent m rig session → StandFor platform (m.areas rig) now
current_state m rig session platform now platform_is state_is current =
    subst (λ (p : Platform). StandFor p (m.areas rig) now) platform_is (ap (state session.platform) (sym current.labels_are) ∙ state_is)

module _ {R : Type 0} (m : Ghosts R) (old mid : R) (session : StoredSession) (seed : ℕ) (lines : List (List ℕ)) (read : Reads m old mid)
    (current : IsTold m old → IsCurrent m mid session) where
  -- the state that the run begins with is the one that the areas stand for
  pub start_is : IsTold m old → StandFor session.platform (m.areas old) (state_of session)
  start_is told = subst (λ (areas : Areas). StandFor session.platform areas (state_of session)) read.areas (current_state m mid session session.platform (state_of session) refl refl (current told))

  pub slots_are : IsTold m old → slots_of session ≡ stored_slots session.platform.modules (m.areas old)
  slots_are told = (current told).slots_are ∙ ap (stored_slots session.platform.modules) read.areas

  -- what a stop leaves while the areas are read
  left_first : IsTold m old → (c : CrashRecord) → c.areas ≡ m.areas old → c.said ≡ m.said old → IsLeft (IsTold m old) (run_of session seed lines) (m.said old) c
  left_first told c areas_are said_is = record {
    acknowledged = 0;
    progress = at_start (run_of session seed lines);
    behind = refl;
    left = inl (record {
      said_is = said_is ∙ sym (append-nil (m.said old));
      areas_are = λ fair. inl (subst (λ (areas : Areas). HasTable session.platform (state_of session) areas) (sym areas_are) (ap (λ (s : State). s.table) (start_is told)));
    });
  }

  -- and then while the lines are done
  pub left_run : (new : R) → (IsCurrent m mid session → LeavesOnly m mid new (IsLeft (IsCurrent m mid session) (run_of session seed lines) (m.said mid)))
      → IsTold m old → LeavesOnly m old new (IsLeft (IsTold m old) (run_of session seed lines) (m.said old))
  left_run new any_moment told =
      let run = run_of session seed lines in
      let known = IsCurrent m mid session in
      joined (reading (IsLeft (IsTold m old) run (m.said old)) (left_first told) read)
      (weakened (IsLeft known run (m.said mid)) (IsLeft (IsTold m old) run (m.said old))
      (λ c left. left-known known (IsTold m old) current run (m.said old) c (subst (λ (said : List ℕ). IsLeft known run said c) read.said left))
      (any_moment (current told)))

  pub kept_run : (new : R) → WritesNothing m mid new → WritesNothing m old new
  kept_run new kept = writes-nothing (read-only read) kept

  pub bytes_run : (new : R) (outcome : Result Bool LineFault) → (IsCurrent m mid session → KeepsBytes (fails_at outcome) session.platform lines (m.areas mid) (m.areas new))
      → IsTold m old → KeepsBytes (fails_at outcome) session.platform lines (m.areas old) (m.areas new)
  bytes_run new outcome keeps told = subst (λ (areas : Areas). KeepsBytes (fails_at outcome) session.platform lines areas (m.areas new)) read.areas (keeps (current told))

  -- what a stop leaves of the bytes, where no line changes labels
  pub bytes_left_run : (new : R) → (IsCurrent m mid session → LeaveLabels lines → LeavesOnly m mid new (LeavesBytes session.platform lines (m.areas mid)))
      → IsTold m old → LeaveLabels lines → LeavesOnly m old new (LeavesBytes session.platform lines (m.areas old))
  bytes_left_run new leaves told none =
      joined (reading (LeavesBytes session.platform lines (m.areas old)) (λ c same said_is dimm. inl (ap (λ (areas : Areas). get areas dimm) same)) read)
      (weakened (LeavesBytes session.platform lines (m.areas mid)) (LeavesBytes session.platform lines (m.areas old))
      (λ c left. subst (λ (areas : Areas). LeavesBytes session.platform lines areas c) read.areas left) (leaves (current told) none))
