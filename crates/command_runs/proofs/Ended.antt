-- A run ends.
use Rattle.std.proofs.Common.{◌≡◌, inl, ℕ, ◌+◌, Bool, List, ◌++◌, Some, Err, take, refl, sym, ap, ◌∙◌, subst}
use Rattle.std.specs.Prelude.{slice_get}
use Rattle.std.proofs.lemmas.Option.{slice_get_within}
use Rattle.rig_trait.specs.declared.shown.Shown.{Ghosts}
use Rattle.rig_trait.specs.Frames.{Reads}
use Rattle.rig_trait.proofs.Frames.{reading}
use Rattle.rig_trait.proofs.Moments.{joined, weakened}
use Rattle.cmd_words.specs.Lines.{command_in}
use Rattle.label_table.specs.Tables.{State}
use Rattle.region_map.specs.declared.platform.Platform.{Platform}
use Rattle.namespace_core.specs.Sessions.{HasTable, IsCurrent, StoredSession, state_of}
use Rattle.command_runs.specs.declared.faults.LineFault.{LineFault}
use Rattle.command_runs.specs.declared.faults.LineFault.TheVariants.{Area, Memory, Say}
use Rattle.command_runs.specs.LastWrites.{IsPastChanges}
use Rattle.command_runs.specs.Ends.{Ends, EndsWrites, IsEndedBy, IsStopped, IsThrough, run_of}
use Rattle.command_runs.specs.Runs.{is_change_if, text_if}
use Rattle.command_runs.specs.Turns.{Turns}
use Rattle.command_runs.proofs.Going.{IsGoing, both-false, left-between, next-does, no-more-on, with_reply}
use Rattle.command_runs.proofs.Records.{read-only, writes-nothing}
use Rattle.namespace_core.proofs.Alike.{still-current, table-is}

module _ {R : Type 0} (m : Ghosts R) (start : StoredSession) (seed : ℕ) (lines : List (List ℕ)) (old : R) (k : ℕ) (session : StoredSession) (mid : R) (refused : Bool) (going : IsGoing m start seed lines old k session mid refused) where
  module _ (line : List ℕ) (is_next : slice_get lines k ≡ Some line) (now : StoredSession) (new : R) where
    -- want of memory
    unread-through : now ≡ session → Reads m mid new → IsThrough m (IsCurrent m old start) going.progress (m.said old) new now
    unread-through same reads = record {
      state_is = ap state_of same ∙ going.through.state_is;
      said_is = λ current. reads.said ∙ going.through.said_is current;
      current = λ current. subst (IsCurrent m new) (sym same) (still-current session reads.goes_on.tells reads.areas (going.through.current current));
    }

    unread-stopped : Reads m mid new → IsStopped m (IsCurrent m old start) (run_of start seed lines) k going.progress old new
    unread-stopped reads = record {
      said_is = λ current. reads.said ∙ going.through.said_is current;
      left = λ current c left.
          let was = m.now_is mid c (reads.time.left_is c left) in
          record {
            said_is = was.1 ∙ going.through.said_is current;
            areas_are = λ fair. inl (subst (λ (platform : Platform). HasTable platform going.progress.state c.areas) going.platform
                (table-is {m = m} mid session c.areas (going.through.current current) was.0 ∙ ap (λ (s : State). s.table) going.through.state_is));
          };
    }

    ended-by : (fault : LineFault) → Turns m session seed (k + 1) (command_in line) mid now new (Err fault) → IsEndedBy m (IsCurrent m old start) (run_of start seed lines) k going.progress old new now fault
    ended-by (Area dimm) turn = record {
      said_is = λ current. turn.turns_to.said_is ∙ going.through.said_is current;
      left = λ current c left. left-between m start seed lines old k session mid refused going line is_next current c (turn.turns_to.left (going.through.current current) c left);
    }
    ended-by Memory turn = record {
      stopped = unread-stopped turn.turns_to.reads_only;
      through = unread-through turn.turns_to.kept turn.turns_to.reads_only;
      kept = λ none. writes-nothing (going.kept none) (read-only turn.turns_to.reads_only);
    }
    ended-by Say turn =
        let cut = turn.turns_to in
        let reply = cut.reply in
        record {
          next = with_reply going.progress reply (state_of now);
          does = next-does m start seed lines old k session mid refused going line is_next reply (state_of now) cut.turned.does;
          text = text_if reply;
          some = cut.some;
          text_is = refl;
          said_is = λ current.
              let front = cut.turned.said_is (going.goes_on.tells ∙ current.told) in
              (front.0, front.1 ∙ ap (λ (said : List ℕ). said ++ take front.0 (text_if reply)) (going.through.said_is current));
          state_is = refl;
          current = λ current. cut.turned.current (going.through.current current);
          kept = λ none. let each = both-false going.progress.changed (is_change_if reply) none in writes-nothing (going.kept each.0) (cut.turned.kept each.1);
        }

    no-more-by : (fault : LineFault) (turn : Turns m session seed (k + 1) (command_in line) mid now new (Err fault))
        → EndsWrites m (IsCurrent m old start) (run_of start seed lines) k going.progress going.behind old new now fault (ended-by fault turn)
    unfolding ended-by next-does
    no-more-by (Area dimm) turn = tt
    no-more-by Memory turn = λ current.
        let reads = turn.turns_to.reads_only in
        let past = IsPastChanges (IsCurrent m old start) (run_of start seed lines) k going.progress going.behind (m.said old) in
        joined (weakened (λ c. past c → c.areas ≡ m.areas mid) (λ c. past c → c.areas ≡ m.areas new) (λ c has is. has is ∙ sym reads.areas) (going.no_more current))
        (reading (λ c. past c → c.areas ≡ m.areas new) (λ c same said is. same ∙ sym reads.areas) reads)
    no-more-by Say turn = λ current.
        let cut = turn.turns_to in
        no-more-on m start seed lines old k session mid refused going line is_next now new cut.reply (state_of now) cut.turned.does (cut.turned.no_more (going.through.current current)) cut.turned.kept current

    pub cut-short : (fault : LineFault) → Turns m session seed (k + 1) (command_in line) mid now new (Err fault) → Ends m (IsCurrent m old start) (run_of start seed lines) old new now (Err fault)
    cut-short fault turn = record {
      done = k;
      more = slice_get_within lines k line is_next;
      progress = going.progress;
      behind = going.behind;
      ended = ended-by fault turn;
      no_more = no-more-by fault turn;
    }
