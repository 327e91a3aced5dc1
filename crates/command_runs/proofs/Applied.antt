-- A line as it is answered on a session.
use Rattle.std.proofs.Common.{◌≡◌, ◌≢◌, ◌⊎◌, inl, inr, ⊎_elim, ℕ, ◌||◌, eqb, eqb-true, eq-eqb, Bool, true, false, not, List, [], ◌∷◌, Some, Result, Ok, Err, IfErr, IfOk, OnOk, map, refl, sym, ap, ◌∙◌, subst}
use Rattle.std.specs.FinMap.{get}
use Rattle.std.proofs.lemmas.Bool.{cases_eq}
use Rattle.rig_trait.specs.declared.shown.Shown.{Ghosts}
use Rattle.rig_trait.specs.Areas.{Areas}
use Rattle.rig_trait.specs.Frames.{IsTold, LeavesOnly, Reads}
use Rattle.rig_trait.specs.Records.{CrashRecord}
use Rattle.rig_trait.proofs.Frames.{reading}
use Rattle.rig_trait.proofs.Moments.{weakened}
use Rattle.cmd_words.specs.declared.commands.Command.{Command}
use Rattle.cmd_words.specs.declared.parts.Part.{Part}
use Rattle.cmd_words.specs.declared.parts.Part.TheVariants.{Change}
use Rattle.cmd_words.specs.declared.parts.Change.TheVariants.{InitLabels}
use Rattle.cmd_words.specs.Parts.{part_of}
use Rattle.label_area.specs.Flips.{is_among}
use Rattle.label_area.specs.Fair.{IsFair}
use Rattle.label_area.specs.Inits as area
use Rattle.label_area.specs.Inits.{IsVacant, LeftByInit}
use Rattle.label_area.specs.Modules.{area_kind}
use Rattle.label_table.specs.Tables.{State, state}
use Rattle.label_codec.specs.ModuleLabels.{Labels}
use Rattle.label_codec.specs.declared.kind.AreaKind.{AreaKind}
use Rattle.label_codec.specs.declared.kind.AreaKind.TheVariants as kinds
use Rattle.region_map.specs.declared.platform.Platform.{Platform}
use Rattle.namespace_core.specs.Commands.{Does, DoesAnyhow, HasAreas, LeavesArea, SaysIfKnown, has_module, is_init, may_change, written_by}
use Rattle.namespace_core.specs.Faults.{HasRunCause, IsRunAmong, IsRunAt, spent_after}
use Rattle.namespace_core.specs.Left.{LeavesTable, WritesOnly}
use Rattle.namespace_core.specs.Sessions.{IsAlike, IsCurrent, StoredSession, labels_of, slots_of, state_of}
use Rattle.namespace_core.proofs.Found.{does-anyhow, says-fact, unknown-refused}
use Rattle.namespace_core.specs.declared.faults.RunFault.{RunFault}
use Rattle.namespace_core.specs.declared.faults.RunFault.TheVariants as faults
use Rattle.view_types.specs.declared.reply.Reply.{Reply}
use Rattle.view_types.specs.Replies.{is_change}
use Rattle.command_runs.specs.Areas.{IsWritten, KeepsAreas, LeavesAreas, MayInitialise, OnlyTells, changed_by_part, initialised_by_part}
use Rattle.command_runs.specs.Faults.{HasAreaFaults, IsAmong, fails_at, is_area, is_say}
use Rattle.command_runs.specs.Turns.{Answers, DoesOn, LeftUnsaid, answer_by}
use Rattle.command_runs.specs.Uuids.{own_uuid}
use Rattle.command_runs.proofs.Commands.{not-init, unchanged}

-- What a session promises of a command.
pub record HasApplied {R : Type 0} (m : Ghosts R) (session : StoredSession) (part : Part) (own : List ℕ) (old : R) (now : StoredSession) (new : R) (result : Result Reply RunFault) : Type 0 where
  pub step : IfOk result (λ reply. SaysIfKnown session.platform part (IsCurrent m old session) (Does session.platform (slots_of session) (labels_of session) part own reply (state_of now)))
  pub anyhow : IfOk result (λ reply. DoesAnyhow session.platform (slots_of session) (labels_of session) part own reply (state_of now))
  pub current : IsCurrent m old session → OnOk result (IsCurrent m new now)
  pub any_moment : IsCurrent m old session → LeavesOnly m old new (LeavesTable session part own (m.said old))
  pub kept : may_change part result ≡ false → now ≡ session
  pub reads_only : may_change part result ≡ false → Reads m old new
  pub writes : WritesOnly m session.platform part old new
  pub area : IsTold m old → HasAreas part (m.areas old) (m.areas new) result
  pub area_left : is_init part ≡ true → IsTold m old → LeavesOnly m old new (LeavesArea part (m.areas old) (m.said old))
  pub cause : HasRunCause m old new result
  pub among : IfErr result (IsRunAmong session.platform.modules)
  pub at : IfErr result (IsRunAt (written_by session.platform part))
  pub spends : now.spent ≡ spent_after session.spent result
  pub platform : now.platform ≡ session.platform
  pub alike : IsAlike session now
  pub reads : is_init part ≡ false → m.reads new ≡ m.reads old

not_both : {b : Bool} → b ≡ true → b ≡ false → ⊥
not_both is other = cc

on-answer : (P : Type 0) (result : Result Reply RunFault) → OnOk result P → OnOk (answer_by result) P
on-answer P (Ok reply) is = is
on-answer P (Err (faults.Area dimm)) is = tt
on-answer P (Err faults.Memory) is = tt
on-answer P (Err faults.Spent) is = tt

not-say : (result : Result Reply RunFault) → is_say (answer_by result) ≡ false
not-say (Ok reply) = refl
not-say (Err (faults.Area dimm)) = refl
not-say (Err faults.Memory) = refl
not-say (Err faults.Spent) = refl

among-answer : (platform : Platform) (result : Result Reply RunFault) → IfErr result (IsRunAmong platform.modules) → IsAmong (has_module platform) (answer_by result)
among-answer platform (Ok reply) is = tt
among-answer platform (Err (faults.Area dimm)) is = is
among-answer platform (Err faults.Memory) is = tt
among-answer platform (Err faults.Spent) is = tt

spent-answer : (spent : Bool) → spent ≡ false → (result : Result Reply RunFault) → spent_after spent result ≡ is_area (answer_by result)
spent-answer spent unspent (Ok reply) = unspent
spent-answer spent unspent (Err (faults.Area dimm)) = refl
spent-answer spent unspent (Err faults.Memory) = unspent
spent-answer spent unspent (Err faults.Spent) = unspent

cause-answer : {R : Type 0} (m : Ghosts R) (old new : R) (result : Result Reply RunFault) → HasRunCause m old new result → HasAreaFaults m old new (answer_by result)
cause-answer m old new (Ok reply) is = is
cause-answer m old new (Err (faults.Area dimm)) is = is
cause-answer m old new (Err faults.Memory) is = is
cause-answer m old new (Err faults.Spent) is = is

-- the platform has no module with this handle, so its area is none that failed
module _ (platform : Platform) (dimm : ℕ) (absent : has_module platform dimm ≡ false) where
  known-fault : (failed : ℕ) → is_among (dimm ∷ []) failed ≡ true → has_module platform failed ≡ true → ⊥
  known-fault failed is known = by (eqb failed dimm) refl
    where
      by : (b : Bool) → eqb failed dimm ≡ b → ⊥
      by true same = not_both (subst (λ (q : ℕ). has_module platform q ≡ true) (eqb-true failed dimm same) known) absent
      by false other = not_both is (ap (λ (b : Bool). b || false) other)

module _ {R : Type 0} (m : Ghosts R) (session : StoredSession) (seed number : ℕ) (old : R) (now : StoredSession) (new : R) where
  abbrev own : List ℕ
  own = own_uuid seed number

  -- the area of one module is initialised
  module _ (dimm : ℕ) where
    unknown-unchanged : has_module session.platform dimm ≡ false → (result : Result Reply RunFault) → HasApplied m session (Change (InitLabels dimm)) own old now new result → may_change (Change (InitLabels dimm)) result ≡ false
    unknown-unchanged absent (Ok reply) has = unknown-refused session.platform (slots_of session) (labels_of session) own dimm absent reply (state_of now) (has.step (inr absent))
    unknown-unchanged absent (Err (faults.Area failed)) has = absurd (known-fault session.platform dimm absent failed has.at has.among)
    unknown-unchanged absent (Err faults.Memory) has = refl
    unknown-unchanged absent (Err faults.Spent) has = refl

    named : is_among (dimm ∷ []) dimm ≡ true
    named = ap (λ (b : Bool). b || false) (eq-eqb dimm dimm refl)

    or-false : (b : Bool) → (b || false) ≡ b
    or-false true = refl
    or-false false = refl

    may : has_module session.platform dimm ≡ true → area_kind (get (m.areas old) dimm) ≡ kinds.Uninit → MayInitialise session.platform (dimm ∷ []) dimm (m.areas old)
    may known uninit = record { is_named = named; known = known; was_uninit = uninit }

    abbrev Kept : Result Reply RunFault → ℕ → Type 0
    Kept result q = (get (m.areas new) q ≡ get (m.areas old) q) ⊎ (MayInitialise session.platform (dimm ∷ []) q (m.areas old) × IsWritten (fails_at (answer_by result) q) q (m.areas old) (m.areas new))

    kept-quiet : (result : Result Reply RunFault) → HasApplied m session (Change (InitLabels dimm)) own old now new result → may_change (Change (InitLabels dimm)) result ≡ false → Kept result dimm
    kept-quiet result has quiet = inl (ap (λ (a : Areas). get a dimm) (has.reads_only quiet).areas)

    kept-uninit : IsCurrent m old session → has_module session.platform dimm ≡ true → area_kind (get (m.areas old) dimm) ≡ kinds.Uninit
        → (result : Result Reply RunFault) → HasApplied m session (Change (InitLabels dimm)) own old now new result → Kept result dimm
    kept-uninit current known uninit (Ok reply) has = by (is_change reply) refl
      where
        by : (b : Bool) → is_change reply ≡ b → Kept (Ok reply) dimm
        by true change = inr (may known uninit, ap (λ (a : Areas). get a dimm) ((has.area current.told).written change))
        by false none = kept-quiet (Ok reply) has none
    kept-uninit current known uninit (Err (faults.Area failed)) has =
        inr (may known uninit, subst (λ (b : Bool). IsWritten b dimm (m.areas old) (m.areas new)) (sym (sym (or-false (eqb failed dimm)) ∙ has.at)) tt)
    kept-uninit current known uninit (Err faults.Memory) has = kept-quiet (Err faults.Memory) has refl
    kept-uninit current known uninit (Err faults.Spent) has = kept-quiet (Err faults.Spent) has refl

    kept-here : IsCurrent m old session → (result : Result Reply RunFault) → HasApplied m session (Change (InitLabels dimm)) own old now new result → Kept result dimm
    kept-here current result has = by_module (has_module session.platform dimm) refl
      where
        by_kind : has_module session.platform dimm ≡ true → (k : AreaKind) → area_kind (get (m.areas old) dimm) ≡ k → Kept result dimm
        by_kind known kinds.Uninit is = kept-uninit current known is result has
        by_kind known _ is = inl (ap (λ (a : Areas). get a dimm) ((has.area current.told).kept (λ uninit. cc)))

        by_module : (b : Bool) → has_module session.platform dimm ≡ b → Kept result dimm
        by_module true known = by_kind known (area_kind (get (m.areas old) dimm)) refl
        by_module false absent = kept-quiet result has (unknown-unchanged absent result has)

    kept-init : IsCurrent m old session → (result : Result Reply RunFault) → HasApplied m session (Change (InitLabels dimm)) own old now new result → (q : ℕ) → Kept result q
    kept-init current result has q = elim (cases_eq q dimm) [
      | inl same ↦ subst (Kept result) (sym same) (kept-here current result has)
      | inr other ↦ inl (has.writes.others current.told q (by (eqb q dimm) refl other))
    ]
      where
        by : (b : Bool) → eqb q dimm ≡ b → q ≢ dimm → (eqb q dimm || false) ≡ false
        by true same other = absurd (other (eqb-true q dimm same))
        by false is other = ap (λ (b : Bool). b || false) is

    -- and what a stop leaves of it
    abbrev Left : CrashRecord → ℕ → Type 0
    Left c q = (get c.areas q ≡ get (m.areas old) q) ⊎ (MayInitialise session.platform (dimm ∷ []) q (m.areas old)
        × (IsFair c → (area_kind (get c.areas q) ≡ kinds.Uninit) ⊎ IsVacant (get c.areas q) (area.slots_of (get (m.areas old) q))))

    left-here : has_module session.platform dimm ≡ true → (c : CrashRecord) → LeftByInit (m.areas old) (m.said old) dimm c → Left c dimm
    left-here known c left = by (area_kind (get (m.areas old) dimm)) refl
      where
        by : (k : AreaKind) → area_kind (get (m.areas old) dimm) ≡ k → Left c dimm
        by kinds.Uninit is = inr (may known is, λ fair. left.ready fair is)
        by _ is = inl (ap (λ (a : Areas). get a dimm) (left.kept (λ uninit. cc)))

    left-init : has_module session.platform dimm ≡ true → (c : CrashRecord) → LeftByInit (m.areas old) (m.said old) dimm c → LeavesAreas session.platform (dimm ∷ []) (m.areas old) c
    left-init known c left q = elim (cases_eq q dimm) [
      | inl same ↦ subst (Left c) (sym same) (left-here known c left)
      | inr other ↦ inl (left.others q other)
    ]

  keeps : (part : Part) (result : Result Reply RunFault) → HasApplied m session part own old now new result → IsCurrent m old session
      → KeepsAreas (fails_at (answer_by result)) session.platform (changed_by_part session.platform part) (initialised_by_part session.platform part) (m.areas old) (m.areas new)
  keeps (Change (InitLabels dimm)) result has current = λ q other. kept-init dimm current result has q
  keeps _ result has current = λ q other. inl (has.writes.others current.told q other)

  quiet-left : (named : List ℕ) → Reads m old new → LeavesOnly m old new (LeavesAreas session.platform named (m.areas old))
  quiet-left named = reading (LeavesAreas session.platform named (m.areas old)) (λ c same said q. inl (ap (λ (a : Areas). get a q) same))

  leaves : (part : Part) (result : Result Reply RunFault) → HasApplied m session part own old now new result → IsCurrent m old session → (is_init part ≡ true) ⊎ OnlyTells part
      → LeavesOnly m old new (LeavesAreas session.platform (initialised_by_part session.platform part) (m.areas old))
  leaves (Change (InitLabels dimm)) result has current fits = by (has_module session.platform dimm) refl
    where
      by : (b : Bool) → has_module session.platform dimm ≡ b → LeavesOnly m old new (LeavesAreas session.platform (dimm ∷ []) (m.areas old))
      by true known = weakened (LeftByInit (m.areas old) (m.said old) dimm) (LeavesAreas session.platform (dimm ∷ []) (m.areas old)) (left-init dimm known) (has.area_left refl current.told)
      by false absent = quiet-left (dimm ∷ []) (has.reads_only (unknown-unchanged dimm absent result has))
  leaves _ result has current (inl init) = absurd cc
  leaves _ result has current (inr only) = quiet-left [] (has.reads_only (only result))

  module _ (command : Command) (result : Result Reply RunFault) (has : HasApplied m session (part_of command) own old now new result) where
    does-answer : (r : Result Reply RunFault) → IfOk r (λ reply. SaysIfKnown session.platform (part_of command) (IsCurrent m old session) (Does session.platform (slots_of session) (labels_of session) (part_of command) own reply (state_of now)))
        → IfOk r (λ reply. DoesAnyhow session.platform (slots_of session) (labels_of session) (part_of command) own reply (state_of now))
        → IfOk (answer_by r) (λ reply. DoesOn (IsCurrent m old session) session seed number (Ok (Some command)) reply (state_of now))
    does-answer (Ok reply) does anyhow = record { labels = labels_of session; stands = refl; does = does; anyhow = anyhow }
    does-answer (Err (faults.Area dimm)) does anyhow = tt
    does-answer (Err faults.Memory) does anyhow = tt
    does-answer (Err faults.Spent) does anyhow = tt

    left-command : IsCurrent m old session → LeavesOnly m old new (LeftUnsaid (IsCurrent m old session) session seed number (Ok (Some command)) (m.said old))
    left-command current =
        weakened (LeavesTable session (part_of command) own (m.said old)) (LeftUnsaid (IsCurrent m old session) session seed number (Ok (Some command)) (m.said old))
        (λ c left. record {
          said_is = left.said_is;
          areas_are = λ fair. ⊎_elim inl (λ after. inr (record {
            reply = Some after.reply;
            after = after.after;
            does = record {
              labels = labels_of session;
              stands = refl;
              does = says-fact session.platform (part_of command) (IsCurrent m old session) (Does session.platform (slots_of session) (labels_of session) (part_of command) own after.reply after.after) after.done;
              anyhow = does-anyhow session.platform (slots_of session) (labels_of session) (part_of command) own after.reply after.after after.done;
            };
            table_is = after.table_is;
          })) (left.labels fair);
        }) (has.any_moment current)

    pub answers-command : session.spent ≡ false → Answers m session seed number (Ok (Some command)) old now new (answer_by result)
    answers-command unspent = record {
      does = does-answer result has.step has.anyhow;
      current = λ current. on-answer (IsCurrent m new now) result (has.current current);
      any_moment = left-command;
      kept = λ none. has.kept (unchanged (part_of command) result none);
      reads_only = λ none. has.reads_only (unchanged (part_of command) result none);
      bytes = keeps (part_of command) result has;
      bytes_left = leaves (part_of command) result has;
      nothing = has.writes.says;
      cause = cause-answer m old new result has.cause;
      not_say = not-say result;
      among = among-answer session.platform result has.among;
      reads = λ none. has.reads (not-init session.platform (part_of command) none);
      spends = has.spends ∙ spent-answer session.spent unspent result;
      platform = has.platform;
      alike = has.alike;
    }
