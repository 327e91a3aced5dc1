-- A run goes on by one line.
use Rattle.std.proofs.Common.{◌≡◌, ◌<◌, ◌≤◌, ◌⊎◌, inl, inr, ⊎_elim, ℕ, suc, ◌+◌, arith, length-append, Bool, true, false, ◌||◌, List, [], ◌++◌, Option, Some, None, Result, Ok, Err, length, map, take, refl, sym, ap, ◌∙◌, subst, append_assoc}
use Rattle.std.specs.Prelude.{slice_get, MatchBool}
use Rattle.std.specs.List.{All}
use Rattle.std.proofs.Math.Dec.{ltb}
use Rattle.std.proofs.lemmas.Bool.{ltb-false, ltb-true}
use Rattle.std.proofs.lemmas.List.{append-nil, take_all}
use Rattle.std.specs.FinMap.{get}
use Rattle.rig_trait.specs.declared.shown.Shown.{Ghosts}
use Rattle.rig_trait.specs.Areas.{Areas}
use Rattle.rig_trait.specs.Frames.{FailsAt, GoesOn, IsTold, LeavesOnly}
use Rattle.rig_trait.specs.Records.{CrashRecord}
use Rattle.rig_trait.proofs.Frames.{goes_on, no_call, reading}
use Rattle.rig_trait.proofs.Moments.{joined, started, weakened}
use Rattle.cmd_words.specs.declared.commands.Command.{Command}
use Rattle.cmd_words.specs.declared.parts.Part.{Part}
use Rattle.cmd_words.specs.Parts.{part_of}
use Rattle.cmd_words.specs.Lines.{command_in}
use Rattle.label_table.specs.Tables.{State, state}
use Rattle.label_codec.specs.ModuleLabels.{Labels}
use Rattle.region_map.specs.declared.platform.Platform.{Platform}
use Rattle.namespace_core.specs.Commands.{Does, DoesAnyhow, SaysIfKnown}
use Rattle.namespace_core.specs.Sessions.{HasSizes, HasTable, IsAlike, IsCurrent, StoredSession, slots_of, state_of}
use Rattle.namespace_core.proofs.Alike.{sized-alike, slots-alike, table-is}
use Rattle.view_types.specs.declared.reply.Reply.{Reply}
use Rattle.view_types.specs.declared.word_fault.WordFault.{WordFault}
use Rattle.command_runs.specs.declared.faults.LineFault.{LineFault}
use Rattle.command_runs.specs.Areas.{KeepsAreas, KeepsBytes, LeaveLabels, LeavesAreas, LeavesBytes, WritesNothing, changed_by_line, initialised_by, initialised_by_line}
use Rattle.command_runs.specs.Ends.{IsThrough, run_of}
use Rattle.command_runs.specs.Faults.{fails_at}
use Rattle.command_runs.specs.LastWrites.{IsPastChanges, IsPastLine, WritesNoMore}
use Rattle.command_runs.specs.Runs.{DoesLine, DoesNext, IsBehind, Progress, Run, at_start, is_change_if, is_refusal_if, text_if}
use Rattle.command_runs.specs.Stops.{IsBetween, IsLeft}
use Rattle.command_runs.specs.Turns.{DoesOn, LeftSaying, LeftUnsaid, Turns}
use Rattle.command_runs.specs.Uuids.{own_uuid}
use Rattle.command_runs.proofs.Commands.{says-on}
use Rattle.command_runs.proofs.Kept.{fits-line, kept-on, left-on, none-named}
use Rattle.command_runs.proofs.Records.{none-written, same-most, writes-nothing}

-- The first k lines are done.
pub record IsGoing {R : Type 0} (m : Ghosts R) (start : StoredSession) (seed : ℕ) (lines : List (List ℕ)) (old : R) (k : ℕ) (session : StoredSession) (new : R) (refused : Bool) : Type 0 where
  pub progress : Progress
  pub behind : IsBehind (IsCurrent m old start) (run_of start seed lines) k progress
  pub refused_is : refused ≡ progress.refused
  pub through : IsThrough m (IsCurrent m old start) progress (m.said old) new session
  pub kept : progress.changed ≡ false → WritesNothing m old new
  pub no_more : IsCurrent m old start → WritesNoMore m old new (IsPastChanges (IsCurrent m old start) (run_of start seed lines) k progress behind (m.said old))
  pub most : IsCurrent m old start → LeavesOnly m old new (λ c. length c.said ≤ length (m.said new))
  pub any_moment : IsCurrent m old start → LeavesOnly m old new (IsLeft (IsCurrent m old start) (run_of start seed lines) (m.said old))
  pub bytes : IsCurrent m old start → KeepsBytes (λ q. false) start.platform lines (m.areas old) (m.areas new)
  pub bytes_left : IsCurrent m old start → LeaveLabels lines → LeavesOnly m old new (LeavesBytes start.platform lines (m.areas old))
  pub faults : FailsAt 0 m old new false
  pub say_faults : m.say_faults new ≡ m.say_faults old
  pub reads : initialised_by start.platform lines ≡ [] → m.reads new ≡ m.reads old
  pub unspent : session.spent ≡ false
  pub platform : session.platform ≡ start.platform
  pub alike : IsAlike start session
  pub goes_on : GoesOn m old new

-- behind a line with this reply
abbrev pub with_reply : Progress → Option Reply → State → Progress
with_reply progress reply after = record {
  said = progress.said ++ text_if reply;
  refused = progress.refused || is_refusal_if reply;
  changed = progress.changed || is_change_if reply;
  state = after;
}

-- no more is said at a moment than at the return
longer-most : {n : ℕ} (mid new text : List ℕ) → n ≤ length mid → new ≡ mid ++ text → n ≤ length new
longer-most mid new text le is = let lengths : length new ≡ length mid + length text = ap length is ∙ length-append mid text in omega arith

pub both-false : (a b : Bool) → (a || b) ≡ false → (a ≡ false) × (b ≡ false)
both-false true b is = absurd (let differ : true ≡ false = is in cc)
both-false false b is = (refl, is)

module _ {R : Type 0} (m : Ghosts R) (start : StoredSession) (seed : ℕ) (lines : List (List ℕ)) (old : R) where
  abbrev known : Type 0
  known = IsCurrent m old start

  abbrev run : Run
  run = run_of start seed lines

  -- what a stop leaves where the table is that behind the first lines
  between : (k : ℕ) (progress : Progress) → IsBehind known run k progress → (c : CrashRecord) → IsBetween known run k progress (m.said old) c → IsLeft known run (m.said old) c
  between k progress behind c is = record { acknowledged = k; progress = progress; behind = behind; left = inl is }

  -- before the first line
  pub going-first : start.spent ≡ false → IsGoing m start seed lines old 0 start old false
  going-first unspent = record {
    progress = at_start run;
    behind = refl;
    refused_is = refl;
    through = record { state_is = refl; said_is = λ current. sym (append-nil (m.said old)); current = λ current. current };
    kept = λ none. none-written old;
    no_more = λ current. reading (λ c. Unit {0} → c.areas ≡ m.areas old) (λ c same said past. same) (no_call m old);
    most = λ current. reading (λ c. length c.said ≤ length (m.said old)) (λ c same said. same-most said) (no_call m old);
    any_moment = λ current. started old (IsLeft known run (m.said old)) (λ c left. between 0 (at_start run) refl c (record {
      said_is = (m.now_is old c left).1 ∙ sym (append-nil (m.said old));
      areas_are = λ fair. inl (table-is {m = m} old start c.areas current (m.now_is old c left).0);
    }));
    bytes = λ current q other. inl refl;
    bytes_left = λ current fits. reading (LeavesBytes start.platform lines (m.areas old)) (λ c same said q. inl (ap (λ a. get a q) same)) (no_call m old);
    faults = record { faults = refl; failed_dimm = refl };
    say_faults = refl;
    reads = λ none. refl;
    unspent = unspent;
    platform = refl;
    alike = record { dimms = refl; sizes = refl };
    goes_on = (no_call m old).goes_on;
  }

  module _ (k : ℕ) (session : StoredSession) (mid : R) (refused : Bool) (going : IsGoing m start seed lines old k session mid refused) where
    abbrev before : Progress
    before = going.progress

    -- the areas have the sizes that are kept
    pub still-sized : (IsTold m old → HasSizes start (m.areas old)) → IsTold m mid → HasSizes session (m.areas mid)
    still-sized sized told =
        let told_first : IsTold m old = sym going.goes_on.tells ∙ told in
        sized-alike start session (m.areas old) (m.areas mid) going.alike (going.goes_on.sizes told_first) (sized told_first)

    -- the line as the session sees it is the one of the run
    command-in-run : (number : ℕ) (part : Part) (reply : Reply) (after : State) (labels : Labels)
        → SaysIfKnown session.platform part (IsCurrent m mid session) (Does session.platform (slots_of session) labels part (own_uuid seed number) reply after)
        → SaysIfKnown start.platform part known (Does start.platform (slots_of start) labels part (own_uuid seed number) reply after)
    command-in-run number part reply after labels does =
        subst (λ (slots : ℕ → ℕ). SaysIfKnown start.platform part known (Does start.platform slots labels part (own_uuid seed number) reply after)) (slots-alike start session going.alike)
        (subst (λ (platform : Platform). SaysIfKnown platform part known (Does platform (slots_of session) labels part (own_uuid seed number) reply after)) going.platform
        (says-on session.platform part (IsCurrent m mid session) known (Does session.platform (slots_of session) labels part (own_uuid seed number) reply after) going.through.current does))

    anyhow-in-run : (number : ℕ) (part : Part) (reply : Reply) (after : State) (labels : Labels)
        → DoesAnyhow session.platform (slots_of session) labels part (own_uuid seed number) reply after → DoesAnyhow start.platform (slots_of start) labels part (own_uuid seed number) reply after
    anyhow-in-run number part reply after labels does =
        subst (λ (slots : ℕ → ℕ). DoesAnyhow start.platform slots labels part (own_uuid seed number) reply after) (slots-alike start session going.alike)
        (subst (λ (platform : Platform). DoesAnyhow platform (slots_of session) labels part (own_uuid seed number) reply after) going.platform does)

    pub in-run : (number : ℕ) (line : Result (Option Command) WordFault) (reply : Option Reply) (after : State) → DoesOn (IsCurrent m mid session) session seed number line reply after → DoesLine known run number before.state line reply after
    in-run number (Ok (Some command)) (Some reply) after does = record {
      labels = does.labels;
      stands = ap (λ (platform : Platform). state platform does.labels) (sym going.platform) ∙ does.stands ∙ going.through.state_is;
      does = command-in-run number (part_of command) reply after does.labels does.does;
      anyhow = anyhow-in-run number (part_of command) reply after does.labels does.anyhow;
    }
    in-run number (Ok (Some command)) None after does = does
    in-run number (Ok None) reply after does = (does.0, does.1 ∙ going.through.state_is)
    in-run number (Err fault) reply after does = (does.0, does.1 ∙ going.through.state_is)

    module _ (line : List ℕ) (is_next : slice_get lines k ≡ Some line) where
      unfoldable pub next-does : (reply : Option Reply) (after : State) → DoesOn (IsCurrent m mid session) session seed (k + 1) (command_in line) reply after → DoesNext known run k before (with_reply before reply after)
      next-does reply after does = record {
        line = line;
        is_next = is_next;
        reply = reply;
        does = in-run (k + 1) (command_in line) reply after does;
        said_is = refl;
        refused_is = refl;
        changed_is = refl;
      }

      unfoldable pub next-behind : (reply : Option Reply) (after : State) → DoesOn (IsCurrent m mid session) session seed (k + 1) (command_in line) reply after → IsBehind known run (suc k) (with_reply before reply after)
      next-behind reply after does = record { before = before; was = going.behind; one = next-does reply after does }

      table-in-run : (after : State) (areas : Areas) → HasTable session.platform after areas → HasTable start.platform after areas
      table-in-run after areas = subst (λ (platform : Platform). HasTable platform after areas) going.platform

      -- before anything of the reply is said
      pub left-between : known → (c : CrashRecord) → LeftUnsaid (IsCurrent m mid session) session seed (k + 1) (command_in line) (m.said mid) c → IsBetween known run k before (m.said old) c
      left-between current c left = record {
        said_is = left.said_is ∙ going.through.said_is current;
        areas_are = λ fair. ⊎_elim
            (λ same. inl (table-in-run (state_of session) c.areas same ∙ ap (λ (s : State). s.table) going.through.state_is))
            (λ table. inr (record { next = with_reply before table.reply table.after; does = next-does table.reply table.after table.does; table_is = table-in-run table.after c.areas table.table_is }))
            (left.areas_are fair);
      }

      -- while it is said
      left-saying : known → (c : CrashRecord) → LeftSaying (IsCurrent m mid session) session seed (k + 1) (command_in line) (m.said mid) c → IsLeft known run (m.said old) c
      left-saying current c left = by (ltb left.count (length (text_if left.reply))) refl
        where
          said_is : c.said ≡ m.said old ++ before.said ++ take left.count (text_if left.reply)
          said_is = left.said_is ∙ ap (λ (said : List ℕ). said ++ take left.count (text_if left.reply)) (going.through.said_is current)

          table_is : HasTable start.platform left.after c.areas
          table_is = table-in-run left.after c.areas left.table_is

          by : (b : Bool) → ltb left.count (length (text_if left.reply)) ≡ b → IsLeft known run (m.said old) c
          by true part = record {
            acknowledged = k;
            progress = before;
            behind = going.behind;
            left = inr (record {
              next = with_reply before left.reply left.after;
              does = next-does left.reply left.after left.does;
              text = text_if left.reply;
              text_is = refl;
              count = left.count;
              part = ltb-true left.count (length (text_if left.reply)) part;
              said_is = said_is;
              areas_are = λ fair. table_is;
            });
          }
          by false whole = between (suc k) (with_reply before left.reply left.after) (next-behind left.reply left.after left.does) c (record {
            said_is = said_is ∙ ap (λ (text : List ℕ). m.said old ++ before.said ++ text) (take_all left.count (text_if left.reply) (ltb-false left.count (length (text_if left.reply)) whole))
                ∙ append_assoc (m.said old) before.said (text_if left.reply);
            areas_are = λ fair. inl table_is;
          })

      left-turn : known → (c : CrashRecord) → LeftUnsaid (IsCurrent m mid session) session seed (k + 1) (command_in line) (m.said mid) c ⊎ LeftSaying (IsCurrent m mid session) session seed (k + 1) (command_in line) (m.said mid) c
          → IsLeft known run (m.said old) c
      left-turn current c (inl left) = between k before going.behind c (left-between current c left)
      left-turn current c (inr left) = left-saying current c left

      module _ (now : StoredSession) (new : R) (result : Result Bool LineFault) (turn : Turns m session seed (k + 1) (command_in line) mid now new result) where
        pub any-moment-on : known → LeavesOnly m old new (IsLeft known run (m.said old))
        any-moment-on current =
            joined (going.any_moment current)
            (weakened (λ c. LeftUnsaid (IsCurrent m mid session) session seed (k + 1) (command_in line) (m.said mid) c ⊎ LeftSaying (IsCurrent m mid session) session seed (k + 1) (command_in line) (m.said mid) c)
            (IsLeft known run (m.said old)) (left-turn current) (turn.any_moment (going.through.current current)))

        pub bytes-on : known → KeepsBytes (fails_at result) start.platform lines (m.areas old) (m.areas new)
        bytes-on current =
            kept-on start.platform lines k line is_next (m.areas old) (m.areas mid) (going.bytes current) (fails_at result) (m.areas new)
            (subst (λ (platform : Platform). KeepsAreas (fails_at result) platform (changed_by_line platform (command_in line)) (initialised_by_line platform (command_in line)) (m.areas mid) (m.areas new)) going.platform
            (turn.bytes (going.through.current current)))

        pub bytes-left-on : known → LeaveLabels lines → LeavesOnly m old new (LeavesBytes start.platform lines (m.areas old))
        bytes-left-on current fits =
            joined (going.bytes_left current fits)
            (weakened (LeavesAreas start.platform (initialised_by_line start.platform (command_in line)) (m.areas mid)) (LeavesBytes start.platform lines (m.areas old))
            (left-on start.platform lines k line is_next (m.areas old) (m.areas mid) (going.bytes current) fits)
            (subst (λ (platform : Platform). LeavesOnly m mid new (LeavesAreas platform (initialised_by_line platform (command_in line)) (m.areas mid))) going.platform
            (turn.bytes_left (going.through.current current) (fits-line lines k line is_next fits))))

        pub reads-on : initialised_by start.platform lines ≡ [] → m.reads new ≡ m.reads old
        reads-on none =
            turn.reads (ap (λ (platform : Platform). initialised_by_line platform (command_in line)) going.platform ∙ none-named start.platform lines k line is_next none) ∙ going.reads none

      -- nothing more is written
      module _ (now : StoredSession) (new : R) (reply : Option Reply) (after : State) (does : DoesOn (IsCurrent m mid session) session seed (k + 1) (command_in line) reply after)
          (no_more : WritesNoMore m mid new (λ c. length (m.said mid) < length c.said)) (kept : is_change_if reply ≡ false → WritesNothing m mid new) where
        pub no-more-on : known → WritesNoMore m old new (λ c. IsPastLine reply (m.said old ++ before.said) c (IsPastChanges known run k before going.behind (m.said old) c))
        no-more-on current = by (is_change_if reply) refl
          where
            earlier : CrashRecord → Type 0
            earlier c = IsPastChanges known run k before going.behind (m.said old) c

            said_is : m.said mid ≡ m.said old ++ before.said
            said_is = going.through.said_is current

            by : (b : Bool) → is_change_if reply ≡ b → WritesNoMore m old new (λ c. MatchBool b (length (m.said old ++ before.said) < length c.said) (earlier c))
            by true is = joined
                (weakened (λ c. length c.said ≤ length (m.said mid)) (λ c. length (m.said old ++ before.said) < length c.said → c.areas ≡ m.areas new)
                (λ c le lt. absurd (let same : length (m.said mid) ≡ length (m.said old ++ before.said) = ap length said_is in omega (arith, le, lt, same))) (going.most current))
                (weakened (λ c. length (m.said mid) < length c.said → c.areas ≡ m.areas new) (λ c. length (m.said old ++ before.said) < length c.said → c.areas ≡ m.areas new)
                (λ c has lt. has (subst (λ (said : List ℕ). length said < length c.said) (sym said_is) lt)) no_more)
            by false is = let none = kept is in joined
                (weakened (λ c. earlier c → c.areas ≡ m.areas mid) (λ c. earlier c → c.areas ≡ m.areas new) (λ c has past. has past ∙ sym none.areas) (going.no_more current))
                (weakened (λ c. c.areas ≡ m.areas mid) (λ c. earlier c → c.areas ≡ m.areas new) (λ c same past. same ∙ sym none.areas) none.any_moment)

      -- the line is done, and its reply said
      pub going-on : (now : StoredSession) (new : R) (is_refused refused_now : Bool) → Turns m session seed (k + 1) (command_in line) mid now new (Ok is_refused) → refused_now ≡ (refused || is_refused)
          → IsGoing m start seed lines old (suc k) now new refused_now
      unfolding next-behind next-does
      going-on now new is_refused refused_now turn refused_is =
          let whole = turn.turns_to in
          let reply = whole.reply in
          let done = whole.turned in
          record {
            progress = with_reply before reply (state_of now);
            behind = next-behind reply (state_of now) done.does;
            refused_is = refused_is ∙ (λ i. going.refused_is i || whole.refused_is i);
            through = record {
              state_is = refl;
              said_is = λ current. done.said_is (going.goes_on.tells ∙ current.told) ∙ ap (λ (said : List ℕ). said ++ text_if reply) (going.through.said_is current) ∙ append_assoc (m.said old) before.said (text_if reply);
              current = λ current. done.current (going.through.current current);
            };
            kept = λ none. let each = both-false before.changed (is_change_if reply) none in writes-nothing (going.kept each.0) (done.kept each.1);
            no_more = λ current. no-more-on now new reply (state_of now) done.does (done.no_more (going.through.current current)) done.kept current;
            most = λ current. joined (weakened _ (λ c. length c.said ≤ length (m.said new)) (λ c le. longer-most (m.said mid) (m.said new) (text_if reply) le
                (done.said_is (going.goes_on.tells ∙ current.told))) (going.most current)) (whole.most (going.through.current current));
            any_moment = any-moment-on now new (Ok is_refused) turn;
            bytes = bytes-on now new (Ok is_refused) turn;
            bytes_left = bytes-left-on now new (Ok is_refused) turn;
            faults = record { faults = turn.cause.areas.faults ∙ going.faults.faults; failed_dimm = turn.cause.areas.failed_dimm ∙ going.faults.failed_dimm };
            say_faults = turn.cause.says ∙ going.say_faults;
            reads = reads-on now new (Ok is_refused) turn;
            unspent = turn.spends;
            platform = turn.platform ∙ going.platform;
            alike = record { dimms = turn.alike.dimms ∙ going.alike.dimms; sizes = turn.alike.sizes ∙ going.alike.sizes };
            goes_on = goes_on going.goes_on turn.goes_on;
          }
