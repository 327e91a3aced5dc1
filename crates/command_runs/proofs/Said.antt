-- A line is done, and its reply said.
use Rattle.std.proofs.Common.{◌≡◌, ◌<◌, ◌≤◌, ◌⊎◌, inl, inr, ℕ, ◌+◌, arith, length, length-append, length-take, append-nil, None, Bool, true, false, List, [], ◌∷◌, ◌++◌, codes, Option, Some, Result, Ok, Err, take, refl, sym, ap, ◌∙◌, subst}
use Rattle.std.specs.FinMap.{get}
use Rattle.rig_trait.specs.declared.shown.Shown.{Ghosts}
use Rattle.rig_trait.specs.Areas.{Areas}
use Rattle.rig_trait.specs.Faults.{counted}
use Rattle.rig_trait.specs.Frames.{FailsAt, IsTold, LeavesOnly}
use Rattle.rig_trait.specs.Records.{CrashRecord, IsSaying}
use Rattle.rig_trait.proofs.Frames.{goes_on, reading}
use Rattle.rig_trait.proofs.Moments.{and_a_call, weakened}
use Rattle.cmd_words.specs.declared.commands.Command.{Command}
use Rattle.label_area.proofs.FairRecords.{IsFair-same}
use Rattle.label_area.specs.Inits.{IsVacant, slots_of}
use Rattle.label_area.specs.Modules.{area_kind}
use Rattle.label_codec.specs.declared.kind.AreaKind.TheVariants.{Uninit}
use Rattle.region_map.specs.declared.platform.Platform.{Platform}
use Rattle.report_json.specs.Texts.{is_one_line, reply_text}
use Rattle.report_json.proofs.Ends.{ended}
use Rattle.namespace_core.specs.Sessions.{HasTable, IsCurrent, StoredSession, state_of}
use Rattle.view_types.specs.declared.reply.Reply.{Reply}
use Rattle.view_types.specs.Replies.{is_refusal}
use Rattle.view_types.specs.declared.word_fault.WordFault.{WordFault}
use Rattle.command_runs.specs.declared.faults.LineFault.{LineFault}
use Rattle.command_runs.specs.declared.faults.LineFault.TheVariants.{Area, Memory, Say}
use Rattle.command_runs.specs.Areas.{KeepsAreas, LeavesAreas, LeavesLabels, changed_by_line, initialised_by_line}
use Rattle.command_runs.specs.LastWrites.{WritesNoMore}
use Rattle.command_runs.specs.Replies.{TellsReply}
use Rattle.run_edges.specs.Saying.{Tells}
use Rattle.command_runs.specs.Turns.{Answers, IsTurned, LeftSaying, LeftUnsaid, SaysAll, SaysFront, Turns}
use Rattle.command_runs.proofs.Commands.{list-unchanged}
use Rattle.command_runs.proofs.Records.{read-only, same-most, says-nothing-written}
use Rattle.namespace_core.proofs.Alike.{still-current, table-is}

-- what a stop leaves of areas is the same while something is said
pub LeavesAreas-same : (platform : Platform) (named : List ℕ) (areas : Areas) (from c : CrashRecord) → c.areas ≡ from.areas → c.torn ≡ from.torn → LeavesAreas platform named areas from → LeavesAreas platform named areas c
LeavesAreas-same platform named areas from c areas_are torn_is left q = elim (left q) [
  | inl same ↦ inl (ap (λ (a : Areas). get a q) areas_are ∙ same)
  | inr (may, ready) ↦ inr (
    may,
    λ fair. subst (λ (a : Areas). (area_kind (get a q) ≡ Uninit) ⊎ IsVacant (get a q) (slots_of (get areas q))) (sym areas_are)
        (ready (IsFair-same c from (sym areas_are) (sym torn_is) fair)),
  )
]

-- no reply is empty
appended-some : (before text : List ℕ) → ¬ (text ≡ []) → ¬ (before ++ text ≡ [])
appended-some [] text some none = some none
appended-some (byte ∷ before) text some none = cc

reply-some : (reply : Reply) → ¬ (reply_text reply ≡ [])
reply-some reply = let end = ended reply in λ none. appended-some end.0 (codes "\n") (λ same. cc) (sym end.1 ∙ none)

module _ {R : Type 0} (m : Ghosts R) (session : StoredSession) (seed number : ℕ) (line : Result (Option Command) WordFault) (old : R) (now : StoredSession) where
  abbrev LeftByTurn : CrashRecord → Type 0
  LeftByTurn c = LeftUnsaid (IsCurrent m old session) session seed number line (m.said old) c ⊎ LeftSaying (IsCurrent m old session) session seed number line (m.said old) c

  -- nothing is said
  module _ (new : R) where
    left-unsaid : {answer : Result (Option Reply) LineFault} → Answers m session seed number line old now new answer → IsCurrent m old session → LeavesOnly m old new LeftByTurn
    left-unsaid a current = weakened (LeftUnsaid (IsCurrent m old session) session seed number line (m.said old)) LeftByTurn (λ c left. inl left) (a.any_moment current)

    pub turns-fault : (fault : LineFault) → Answers m session seed number line old now new (Err fault) → Turns m session seed number line old now new (Err fault)
    turns-fault (Area dimm) a = record {
      turns_to = record {
        said_is = a.nothing.said;
        left = λ current c left. let run = a.any_moment current in run.each c (m.counts_now new (m.moment old) c run.later left);
      };
      any_moment = left-unsaid a;
      bytes = a.bytes;
      bytes_left = a.bytes_left;
      cause = record { areas = a.cause; says = a.nothing.say_faults };
      among = a.among;
      reads = a.reads;
      spends = a.spends;
      platform = a.platform;
      alike = a.alike;
      goes_on = a.nothing.goes_on;
    }
    turns-fault Memory a = record {
      turns_to = record { kept = a.kept refl; reads_only = a.reads_only refl };
      any_moment = left-unsaid a;
      bytes = a.bytes;
      bytes_left = a.bytes_left;
      cause = record { areas = a.cause; says = a.nothing.say_faults };
      among = tt;
      reads = a.reads;
      spends = a.spends;
      platform = a.platform;
      alike = a.alike;
      goes_on = a.nothing.goes_on;
    }
    turns-fault Say a = absurd (let differ : true ≡ false = a.not_say in cc)

    -- memory is wanting for the text of a list
    turns-untold : (reply : Reply) → Answers m session seed number line old now new (Ok (Some reply)) → is_one_line reply ≡ false → Turns m session seed number line old now new (Err Memory)
    turns-untold reply a list = record {
      turns_to = record { kept = a.kept (list-unchanged reply list); reads_only = a.reads_only (list-unchanged reply list) };
      any_moment = left-unsaid a;
      bytes = a.bytes;
      bytes_left = a.bytes_left;
      cause = record { areas = a.cause; says = a.nothing.say_faults };
      among = tt;
      reads = a.reads;
      spends = a.spends;
      platform = a.platform;
      alike = a.alike;
      goes_on = a.nothing.goes_on;
    }

  -- the reply is said, or a front of it
  module _ (mid new : R) (reply : Reply) (a : Answers m session seed number line old now mid (Ok (Some reply))) (failed : Bool) (tells : Tells m mid new (reply_text reply) failed) where
    told-mid : IsTold m old → IsTold m mid
    told-mid told = a.nothing.goes_on.tells ∙ told

    -- the writes of the command are behind it before its reply is begun
    no-more : IsCurrent m old session → WritesNoMore m old new (λ c. length (m.said old) < length c.said)
    no-more current = and_a_call (λ c. length (m.said old) < length c.said → c.areas ≡ m.areas new) (IsSaying (m.may_leave mid) (m.said mid) (reply_text reply))
        (weakened (LeftUnsaid (IsCurrent m old session) session seed number line (m.said old)) (λ c. length (m.said old) < length c.said → c.areas ≡ m.areas new)
        (λ c left lt. absurd (let same : length c.said ≡ length (m.said old) = ap length left.said_is in omega (arith, lt, same))) (a.any_moment current))
        tells.stops (λ c saying lt. saying.areas_are ∙ (m.now_is mid saying.from saying.was).0 ∙ sym tells.says_only.areas)

    turned : (IsSaid : List ℕ → Type 0) → (IsTold m old → IsSaid (reply_text reply)) → IsTurned m session seed number line old now new (Some reply) IsSaid
    turned IsSaid said_is = record {
      does = a.does;
      said_is = said_is;
      current = λ current. still-current now tells.says_only.goes_on.tells tells.says_only.areas (a.current current);
      kept = λ none. says-nothing-written (reply_text reply) failed (read-only (a.reads_only none)) tells.says_only tells.stops;
      no_more = no-more;
    }

    table-behind : IsCurrent m old session → (c : CrashRecord) → IsSaying (m.may_leave mid) (m.said mid) (reply_text reply) c → HasTable session.platform (state_of now) c.areas
    table-behind current c saying =
        subst (λ (platform : Platform). HasTable platform (state_of now) c.areas) a.platform
        (table-is {m = m} mid now c.areas (a.current current) (saying.areas_are ∙ (m.now_is mid saying.from saying.was).0))

    left-saying : IsCurrent m old session → LeavesOnly m old new LeftByTurn
    left-saying current = and_a_call LeftByTurn (IsSaying (m.may_leave mid) (m.said mid) (reply_text reply)) (left-unsaid mid a current) tells.stops (λ c saying. inr (record {
      reply = Some reply;
      after = state_of now;
      does = a.does;
      count = saying.count;
      said_is = saying.said_is ∙ ap (λ (said : List ℕ). said ++ take saying.count (reply_text reply)) a.nothing.said;
      table_is = table-behind current c saying;
    }))

    bytes-left : IsCurrent m old session → LeavesLabels line → LeavesOnly m old new (LeavesAreas session.platform (initialised_by_line session.platform line) (m.areas old))
    bytes-left current fits =
        let P = LeavesAreas session.platform (initialised_by_line session.platform line) (m.areas old) in
        let before = a.bytes_left current fits in
        and_a_call P (IsSaying (m.may_leave mid) (m.said mid) (reply_text reply)) before tells.stops (λ c saying.
        LeavesAreas-same session.platform (initialised_by_line session.platform line) (m.areas old) saying.from c saying.areas_are saying.torn_is
        (before.each saying.from (m.counts_now mid (m.moment old) saying.from before.later saying.was)))

    bytes-on : IsCurrent m old session → KeepsAreas (λ q. false) session.platform (changed_by_line session.platform line) (initialised_by_line session.platform line) (m.areas old) (m.areas new)
    bytes-on current = subst (λ (a : Areas). KeepsAreas (λ q. false) session.platform (changed_by_line session.platform line) (initialised_by_line session.platform line) (m.areas old) a) (sym tells.says_only.areas) (a.bytes current)

    faults-on : FailsAt 0 m old new false
    faults-on = record { faults = tells.says_only.faults ∙ a.cause.faults; failed_dimm = tells.says_only.failed_dimm ∙ a.cause.failed_dimm }

    say-faults-on : m.say_faults new ≡ counted failed (m.say_faults old)
    say-faults-on = tells.says_only.say_faults ∙ ap (counted failed) a.nothing.say_faults

  most-said : (mid new : R) (reply : Reply) → Answers m session seed number line old now mid (Ok (Some reply)) → Tells m mid new (reply_text reply) false → IsCurrent m old session
      → LeavesOnly m old new (λ c. length c.said ≤ length (m.said new))
  most-said mid new reply a tells current =
      let whole : length (m.said new) ≡ length (m.said mid) + length (reply_text reply) = ap length (tells.whole (a.nothing.goes_on.tells ∙ current.told) refl) ∙ length-append (m.said mid) (reply_text reply) in
      let first : length (m.said mid) ≡ length (m.said old) = ap length a.nothing.said in
      and_a_call (λ c. length c.said ≤ length (m.said new)) (IsSaying (m.may_leave mid) (m.said mid) (reply_text reply))
      (weakened (LeftUnsaid (IsCurrent m old session) session seed number line (m.said old)) (λ c. length c.said ≤ length (m.said new))
      (λ c left. let same : length c.said ≡ length (m.said old) = ap length left.said_is in omega (arith, whole, first, same)) (a.any_moment current))
      tells.stops (λ c saying.
      let said : length c.said ≡ length (m.said mid) + length (take saying.count (reply_text reply)) = ap length saying.said_is ∙ length-append (m.said mid) (take saying.count (reply_text reply)) in
      omega (arith, whole, said, length-take saying.count (reply_text reply)))

  pub turns-said : (mid new : R) (reply : Reply) → Answers m session seed number line old now mid (Ok (Some reply)) → Tells m mid new (reply_text reply) false → (refused : Bool) → refused ≡ is_refusal reply
      → Turns m session seed number line old now new (Ok refused)
  turns-said mid new reply a tells refused refused_is = record {
    turns_to = record {
      reply = Some reply;
      turned = turned mid new reply a false tells (SaysAll (m.said old) (m.said new))
          (λ told. tells.whole (told-mid mid new reply a false tells told) refl ∙ ap (λ (said : List ℕ). said ++ reply_text reply) a.nothing.said);
      refused_is = refused_is;
      most = λ current. most-said mid new reply a tells current;
    };
    any_moment = left-saying mid new reply a false tells;
    bytes = bytes-on mid new reply a false tells;
    bytes_left = bytes-left mid new reply a false tells;
    cause = record { areas = faults-on mid new reply a false tells; says = say-faults-on mid new reply a false tells };
    among = tt;
    reads = λ none. tells.says_only.reads ∙ a.reads none;
    spends = a.spends;
    platform = a.platform;
    alike = a.alike;
    goes_on = goes_on a.nothing.goes_on tells.says_only.goes_on;
  }

  turns-cut : (mid new : R) (reply : Reply) → Answers m session seed number line old now mid (Ok (Some reply)) → Tells m mid new (reply_text reply) true → Turns m session seed number line old now new (Err Say)
  turns-cut mid new reply a tells = record {
    turns_to = record {
      reply = Some reply;
      some = reply-some reply;
      turned = turned mid new reply a true tells (SaysFront (m.said old) (m.said new))
          (λ told. let front = tells.front (told-mid mid new reply a true tells told) in
          (front.0, front.1 ∙ ap (λ (said : List ℕ). said ++ take front.0 (reply_text reply)) a.nothing.said));
    };
    any_moment = left-saying mid new reply a true tells;
    bytes = bytes-on mid new reply a true tells;
    bytes_left = bytes-left mid new reply a true tells;
    cause = record { areas = faults-on mid new reply a true tells; says = say-faults-on mid new reply a true tells };
    among = tt;
    reads = λ none. tells.says_only.reads ∙ a.reads none;
    spends = a.spends;
    platform = a.platform;
    alike = a.alike;
    goes_on = goes_on a.nothing.goes_on tells.says_only.goes_on;
  }

  pub turns-unsaid : (mid new : R) (reply : Reply) → Answers m session seed number line old now mid (Ok (Some reply)) → (fault : LineFault) → TellsReply {T = Unit {0}} m mid new reply (Err fault)
      → Turns m session seed number line old now new (Err fault)
  turns-unsaid mid new reply a (Area dimm) tells = absurd tells
  turns-unsaid mid new reply a Memory tells = subst (λ (rig : R). Turns m session seed number line old now rig (Err Memory)) (sym tells.1) (turns-untold mid reply a tells.0)
  turns-unsaid mid new reply a Say tells = turns-cut mid new reply a tells
