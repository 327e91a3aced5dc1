-- How lines on a session that has just started end, with the line of the fault that ended them.
use Rattle.std.proofs.Common.{◌≡◌, ◌⊎◌, ℕ, suc, ◌<◌, Bool, true, false, List, ◌++◌, length, take, Option, Result, Ok, Err, refl, sym, ap, ◌∙◌, subst, inl, inr, ⊎_elim}
use Rattle.std.specs.FinMap.{get}
use Rattle.rig_trait.specs.declared.shown.Shown.{Ghosts}
use Rattle.rig_trait.specs.Areas.{Areas}
use Rattle.rig_trait.specs.Faults.{counted}
use Rattle.rig_trait.specs.Frames.{FailsAt, GoesOn, IsTold, LeavesOnly, Reads}
use Rattle.rig_trait.specs.Records.{CrashRecord, IsSaying}
use Rattle.rig_trait.proofs.Frames.{reading}
use Rattle.rig_trait.proofs.Moments.{and_a_call, joined, weakened}
use Rattle.label_area.proofs.FairRecords.{IsFair-same}
use Rattle.region_map.specs.declared.platform.Platform.{Platform}
use Rattle.namespace_core.specs.Commands.{has_module}
use Rattle.namespace_core.specs.Sessions.{HasTable, IsCurrent, StandFor, StoredSession, slots_of, state_of, stored_slots}
use Rattle.command_runs.proofs.Records.{says-nothing-written}
use Rattle.command_runs.proofs.Said.{LeavesAreas-same}
use Rattle.command_runs.specs.declared.faults.LineFault.{LineFault}
use Rattle.command_runs.specs.declared.faults.LineFault.TheVariants as fault
use Rattle.command_runs.specs.Areas.{KeepsBytes, LeaveLabels, LeavesBytes, WritesNothing, initialised_by}
use Rattle.command_runs.specs.Ends as runs
use Rattle.command_runs.specs.LastWrites.{IsPastChanges, WritesNoMore}
use Rattle.command_runs.specs.Ends.{EndsWrites, IsCutShort, IsFinished, IsStopped, IsUnchanged, run_of}
use Rattle.command_runs.specs.Faults.{HasAreaFaults, HasCause, IsAmong, fails_at, is_say}
use Rattle.command_runs.specs.Runs.{IsBehind, Progress, Run}
use Rattle.command_runs.specs.Stops.{HasNextTable, IsBetween, IsLeft}
use Rattle.command_runs.proofs.Known.{behind-known, next-known, next_table-known, past-known, past-line}
use Rattle.command_runs.proofs.Past.{never-past}
use Rattle.run_edges.specs.declared.faults.Fault.{Fault}
use Rattle.run_edges.specs.declared.faults.Fault.TheVariants.{Area, Memory}
use Rattle.run_edges.specs.Saying.{Says, SaysLine}
use Rattle.run_edges.specs.Statuses.{fault_status, refused_status}
use Rattle.run_edges.specs.Texts.{fault_line}
use Rattle.nd_top.specs.Runs.{AreRun, EndsBy, IsCutOff, IsDone, IsEnded, Leaves, SaysEnd, WantsMemory}
use Rattle.nd_top.specs.Stops.{IsLeftOf, SaysFault}
use Rattle.nd_top.proofs.Started.{bytes_left_run, bytes_run, current_state, faults_behind, faults_said, kept_run, left_run, slots_are, start_is}

-- what is said at last changes nothing of what was written
kept_said : {R : Type 0} (m : Ghosts R) (old mid new : R) (text : List ℕ) (status result : ℕ) → WritesNothing m old mid → Says m mid new text status result → WritesNothing m old new
kept_said m old mid new text status result kept says = says-nothing-written text says.failed kept says.tells.says_only says.tells.stops

-- nor of what a stop leaves of the bytes
bytes_said : {R : Type 0} (m : Ghosts R) (old mid new : R) (text : List ℕ) (status result : ℕ) (platform : Platform) (all : List (List ℕ)) → LeavesOnly m old mid (LeavesBytes platform all (m.areas old))
    → Says m mid new text status result → LeavesOnly m old new (LeavesBytes platform all (m.areas old))
bytes_said m old mid new text status result platform all left says =
    and_a_call (LeavesBytes platform all (m.areas old)) (IsSaying (m.may_leave mid) (m.said mid) text) left says.tells.stops
    (λ c saying. LeavesAreas-same platform (initialised_by platform all) (m.areas old) saying.from c saying.areas_are saying.torn_is
    (left.each saying.from (m.counts_now mid (m.moment old) saying.from left.later saying.was)))

module _ {R : Type 0} (m : Ghosts R) (old start mid : R) (session after : StoredSession) (seed : ℕ) (lines : List (List ℕ)) (read : Reads m old start)
    (current : IsTold m old → IsCurrent m start session) (fails : FailsAt 0 m old start false) (platform_is : after.platform ≡ session.platform) (goes_on : GoesOn m start mid)
    (any_moment : IsCurrent m start session → LeavesOnly m start mid (IsLeft (IsCurrent m start session) (run_of session seed lines) (m.said start)))
    (bytes_left : IsCurrent m start session → LeaveLabels lines → LeavesOnly m start mid (LeavesBytes session.platform lines (m.areas start))) where
  abbrev known : Type 0
  known = IsCurrent m start session

  abbrev told : Type 0
  told = IsTold m old

  abbrev run : Run
  run = run_of session seed lines

  said_behind : (progress : Progress) → (known → m.said mid ≡ m.said start ++ progress.said) → told → m.said mid ≡ m.said old ++ progress.said
  said_behind progress said_is tells = said_is (current tells) ∙ ap (λ (said : List ℕ). said ++ progress.said) read.said

  -- nothing more is written from when on the last reply to a change is begun
  past_run : (k : ℕ) (progress : Progress) (behind : IsBehind known run k progress) (seen : IsBehind told run k progress)
      → ((c : CrashRecord) → IsPastChanges told run k progress seen (m.said old) c → IsPastChanges known run k progress behind (m.said old) c)
      → (known → WritesNoMore m start mid (IsPastChanges known run k progress behind (m.said start))) → (progress.changed ≡ false → WritesNothing m start mid)
      → told → WritesNoMore m old mid (IsPastChanges told run k progress seen (m.said old))
  past_run k progress behind seen converts no_more kept tells =
      let P = λ (c : CrashRecord). IsPastChanges told run k progress seen (m.said old) c → c.areas ≡ m.areas mid in
      joined (reading P (λ c same said_is past. same ∙ sym read.areas ∙ sym (kept (never-past told run k progress seen (m.said old) c said_is past)).areas) read)
      (weakened (λ c. IsPastChanges known run k progress behind (m.said start) c → c.areas ≡ m.areas mid) P
      (λ c has past. has (subst (λ (said : List ℕ). IsPastChanges known run k progress behind said c) (sym read.said) (converts c past))) (no_more (current tells)))

  -- all lines are done
  done : (refused : Bool) (status : ℕ) → IsFinished m known run start mid after refused → m.say_faults mid ≡ m.say_faults start → status ≡ refused_status refused → IsDone m run old mid status
  done refused status finished say_faults status_is = record {
    progress = finished.progress;
    behind = behind-known known told current run (length lines) finished.progress finished.behind;
    status_is = status_is ∙ ap refused_status finished.refused_is;
    said_is = said_behind finished.progress finished.through.said_is;
    areas_are = λ tells. current_state m mid after session.platform finished.progress.state platform_is finished.through.state_is (finished.through.current (current tells));
    kept = λ none. kept_run m old start session seed lines read current mid (finished.kept none);
    no_more = past_run (length lines) finished.progress finished.behind (behind-known known told current run (length lines) finished.progress finished.behind)
        (past-known known told current run (length lines) finished.progress finished.behind (m.said old)) finished.no_more finished.kept;
    say_faults = say_faults ∙ read.say_faults;
  }

  -- a reply was not said whole
  cut_off : (k : ℕ) (progress : Progress) (status : ℕ) → k < length lines → (behind : IsBehind known run k progress) (cut : runs.IsCutOff m known run k progress start mid after)
      → EndsWrites m known run k progress behind start mid after fault.Say cut
      → m.say_faults mid ≡ counted true (m.say_faults start) → status ≡ 7 → IsCutOff m run old mid status
  cut_off k progress status more behind cut no_more say_faults status_is = record {
    done = k;
    more = more;
    progress = progress;
    behind = behind-known known told current run k progress behind;
    next = cut.next;
    does = next-known known told current run k progress cut.next cut.does;
    text = cut.text;
    some = cut.some;
    text_is = cut.text_is;
    status_is = status_is;
    said_is = λ tells. let said = cut.said_is (current tells) in (said.0, said.1 ∙ ap (λ (before : List ℕ). before ++ progress.said ++ take said.0 cut.text) read.said);
    areas_are = λ tells. current_state m mid after session.platform cut.next.state platform_is cut.state_is (cut.current (current tells));
    kept = λ none. kept_run m old start session seed lines read current mid (cut.kept none);
    no_more = past_run (suc k) cut.next (record { before = progress; was = behind; one = cut.does })
        (record { before = progress; was = behind-known known told current run k progress behind; one = next-known known told current run k progress cut.next cut.does })
        (λ c. past-line known told current run k progress cut.next cut.does (m.said old ++ progress.said) c
        (IsPastChanges told run k progress (behind-known known told current run k progress behind) (m.said old) c) (IsPastChanges known run k progress behind (m.said old) c)
        (past-known known told current run k progress behind (m.said old) c)) no_more cut.kept;
    say_faults = say_faults ∙ ap (counted true) read.say_faults;
  }

  module _ (new : R) (fault : Fault) (k : ℕ) (progress : Progress) (status : ℕ) (stopped : IsStopped m known run k progress start mid) (behind : IsBehind known run k progress)
      (says : SaysLine m mid new fault status) where
    -- the line of a fault is said behind the replies
    abbrev ended : k < length lines → m.say_faults mid ≡ m.say_faults start → IsEnded m run fault old new status
    ended more say_faults = record {
      done = k;
      more = more;
      progress = progress;
      behind = behind-known known told current run k progress behind;
      cut = says.failed;
      status_is = says.status_is;
      whole = λ tells none. says.tells.whole (goes_on.tells ∙ read.goes_on.tells ∙ tells) none
          ∙ ap (λ (said : List ℕ). said ++ fault_line fault) (said_behind progress stopped.said_is tells);
      front = λ tells. let front = says.tells.front (goes_on.tells ∙ read.goes_on.tells ∙ tells) in
          (front.0, front.1 ∙ ap (λ (said : List ℕ). said ++ take front.0 (fault_line fault)) (said_behind progress stopped.said_is tells));
      say_faults = says.tells.says_only.say_faults ∙ ap (counted says.failed) (say_faults ∙ read.say_faults);
    }

    saying_fault : told → (c : CrashRecord) → IsSaying (m.may_leave mid) (m.said mid) (fault_line fault) c → SaysFault told run fault (m.said old) c
    saying_fault tells c saying =
        let from = saying.from in
        let between = stopped.left (current tells) from saying.was in
        record {
          acknowledged = k;
          progress = progress;
          behind = behind-known known told current run k progress behind;
          count = saying.count;
          said_is = saying.said_is ∙ ap (λ (said : List ℕ). said ++ take saying.count (fault_line fault)) (said_behind progress stopped.said_is tells);
          areas_are = λ fair. rw saying.areas_are (⊎_elim inl (λ next. inr (next_table-known known told current run k progress from.areas next))
              (between.areas_are (IsFair-same c from (sym saying.areas_are) (sym saying.torn_is) fair)));
        }

    left_ended : told → LeavesOnly m old new (IsLeftOf told run fault (m.said old))
    left_ended tells =
        and_a_call (IsLeftOf told run fault (m.said old)) (IsSaying (m.may_leave mid) (m.said mid) (fault_line fault))
        (weakened (IsLeft told run (m.said old)) (IsLeftOf told run fault (m.said old)) (λ c left. inl left) (left_run m old start session seed lines read current mid any_moment tells)) says.tells.stops
        (λ c saying. inr (saying_fault tells c saying))

    are_ended : (outcome : Result Bool LineFault) → EndsBy m run old new status outcome → HasAreaFaults m old mid outcome → IsAmong (has_module session.platform) outcome
        → (told → KeepsBytes (fails_at outcome) session.platform lines (m.areas old) (m.areas mid)) → (told → Leaves m run old new outcome) → AreRun m run old new status
    are_ended outcome ends faults among bytes left = record {
      start_is = start_is m old start session seed lines read current;
      slots_are = slots_are m old start session seed lines read current;
      outcome = outcome;
      ends = ends;
      faults = faults_said m old mid new outcome says.failed faults says.tells.says_only;
      among = among;
      any_moment = left;
      bytes = λ tells. subst (λ (areas : Areas). KeepsBytes (fails_at outcome) session.platform lines (m.areas old) areas) (sym says.tells.says_only.areas) (bytes tells);
      bytes_left = λ tells none. bytes_said m old mid new (fault_line fault) (fault_status fault) status session.platform lines
          (bytes_left_run m old start session seed lines read current mid bytes_left tells none) says;
    }

  -- nothing more is said
  are_done : (outcome : Result Bool LineFault) (status : ℕ) → EndsBy m run old mid status outcome → HasAreaFaults m old mid outcome → IsAmong (has_module session.platform) outcome
      → (told → KeepsBytes (fails_at outcome) session.platform lines (m.areas old) (m.areas mid)) → (told → Leaves m run old mid outcome) → AreRun m run old mid status
  are_done outcome status ends faults among bytes left = record {
    start_is = start_is m old start session seed lines read current;
    slots_are = slots_are m old start session seed lines read current;
    outcome = outcome;
    ends = ends;
    faults = faults;
    among = among;
    any_moment = left;
    bytes = bytes;
    bytes_left = bytes_left_run m old start session seed lines read current mid bytes_left;
  }

  pub are_run : (new : R) (outcome : Result Bool LineFault) (status : ℕ) → runs.Ends m known run start mid after outcome → HasCause m start mid outcome → IsAmong (has_module session.platform) outcome
      → (known → KeepsBytes (fails_at outcome) session.platform lines (m.areas start) (m.areas mid)) → SaysEnd m mid new outcome status → AreRun m run old new status
  are_run new (Ok refused) status ends cause among bytes end =
      subst (λ (r : R). AreRun m run old r status) (sym end.0)
      (are_done (Ok refused) status (done refused status ends cause.says end.1) (faults_behind m old start mid (Ok refused) fails cause.areas) among (bytes_run m old start session seed lines read current mid (Ok refused) bytes)
      (left_run m old start session seed lines read current mid any_moment))
  are_run new (Err fault.Say) status ends cause among bytes end =
      subst (λ (r : R). AreRun m run old r status) (sym end.0)
      (are_done (Err fault.Say) status (cut_off ends.done ends.progress status ends.more ends.behind ends.ended ends.no_more cause.says end.1)
      (faults_behind m old start mid (Err fault.Say) fails cause.areas) among (bytes_run m old start session seed lines read current mid (Err fault.Say) bytes)
      (left_run m old start session seed lines read current mid any_moment))
  are_run new (Err (fault.Area dimm)) status ends cause among bytes end =
      are_ended new (Area dimm) ends.done ends.progress status ends.ended ends.behind end (Err (fault.Area dimm))
      (ended new (Area dimm) ends.done ends.progress status ends.ended ends.behind end ends.more cause.says)
      (faults_behind m old start mid (Err (fault.Area dimm)) fails cause.areas) among (bytes_run m old start session seed lines read current mid (Err (fault.Area dimm)) bytes)
      (left_ended new (Area dimm) ends.done ends.progress status ends.ended ends.behind end)
  are_run new (Err fault.Memory) status ends cause among bytes end =
      let unchanged = ends.ended in
      are_ended new Memory ends.done ends.progress status unchanged.stopped ends.behind end (Err fault.Memory)
      (record {
        ended = ended new Memory ends.done ends.progress status unchanged.stopped ends.behind end ends.more cause.says;
        areas_are = λ tells. subst (λ (areas : Areas). StandFor session.platform areas ends.progress.state) (sym end.tells.says_only.areas)
            (current_state m mid after session.platform ends.progress.state platform_is unchanged.through.state_is (unchanged.through.current (current tells)));
        kept = λ none. kept_said m old mid new (fault_line Memory) 6 status (kept_run m old start session seed lines read current mid (unchanged.kept none)) end;
        no_more = λ tells.
            let seen = behind-known known told current run ends.done ends.progress ends.behind in
            let past = IsPastChanges told run ends.done ends.progress seen (m.said old) in
            and_a_call (λ c. past c → c.areas ≡ m.areas new) (IsSaying (m.may_leave mid) (m.said mid) (fault_line Memory))
            (weakened (λ c. past c → c.areas ≡ m.areas mid) (λ c. past c → c.areas ≡ m.areas new) (λ c has is. has is ∙ sym end.tells.says_only.areas)
            (past_run ends.done ends.progress ends.behind seen (past-known known told current run ends.done ends.progress ends.behind (m.said old)) ends.no_more unchanged.kept tells))
            end.tells.stops (λ c saying is. saying.areas_are ∙ (m.now_is mid saying.from saying.was).0 ∙ sym end.tells.says_only.areas);
      })
      (faults_behind m old start mid (Err fault.Memory) fails cause.areas) among (bytes_run m old start session seed lines read current mid (Err fault.Memory) bytes)
      (left_ended new Memory ends.done ends.progress status unchanged.stopped ends.behind end)
