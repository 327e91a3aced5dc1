-- What a stop at any moment of several calls leaves, from what one within each call leaves.
use Rattle.std.proofs.Common.{◌⊎◌, inl, inr, ⊎_elim, arith}
use Rattle.btt_arena.specs.declared.state.MediaState.{Ghosts}
use Rattle.btt_arena.specs.Frames.{Elapses, LeavesOnly}
use Rattle.btt_arena.specs.Records.{CrashRecord}

module _ {R : Type 0} {m : Ghosts R} where
  -- what a stop within it leaves, in other words
  pub in_words : {old new : R} (during other : CrashRecord → Type 0) → ((c : CrashRecord) → during c → other c) → Elapses m old new during → Elapses m old new other
  in_words during other implies time = record {
    later = time.later;
    nothing_else = λ t c le left. ⊎_elim inl (λ within. inr (implies c within)) (time.nothing_else t c le left);
    keeps = time.keeps;
    left_is = λ c left. implies c (time.left_is c left);
    joins = time.joins;
  }

  -- The clock goes on over two calls as over one: a stop within the two is one within the first, or within the second.
  pub followed : {old mid new : R} (first_during second_during : CrashRecord → Type 0)
      → Elapses m old mid first_during → Elapses m mid new second_during → Elapses m old new (λ c. first_during c ⊎ second_during c)
  followed {old} {mid} {new} first_during second_during first second = record {
    later = omega (arith, first.later, second.later);
    nothing_else = λ t c le was.
        ⊎_elim (λ past. ⊎_elim inl (λ within. inr (inl within)) (first.nothing_else t c le past)) (λ within. inr (inr within))
        (second.nothing_else t c (omega (arith, le, first.later)) was);
    keeps = λ t c le was. second.keeps t c (omega (arith, le, first.later)) (first.keeps t c le was);
    left_is = λ c has. inr (second.left_is c has);
    joins = λ t c le was.
        ⊎_elim (λ past. ⊎_elim inl (λ since. inr (second.keeps (m.moment old) c first.later since)) (first.joins t c le past))
        (λ since. inr (m.earlier new (m.moment old) (m.moment mid) c first.later since))
        (second.joins t c (omega (arith, le, first.later)) was);
  }

  -- before the first call
  pub started : (rig : R) (P : CrashRecord → Type 0) → ((c : CrashRecord) → m.may_leave rig c → P c) → LeavesOnly m rig rig P
  started rig P start = record { later = omega arith; each = λ c left. start c (m.only_now rig c left); before = λ t c le left. inl left }

  -- two runs, the one behind the other
  pub joined : {old mid new : R} {P : CrashRecord → Type 0} → LeavesOnly m old mid P → LeavesOnly m mid new P → LeavesOnly m old new P
  joined {old} first second = record {
    later = omega (arith, first.later, second.later);
    each = λ c left. ⊎_elim (first.each c) (λ has. has) (second.before (m.moment old) c first.later left);
    before = λ t c le left. ⊎_elim (first.before t c le) inr (second.before t c (omega (arith, le, first.later)) left);
  }

  -- what follows from P is left too
  pub weakened : {old new : R} (P Q : CrashRecord → Type 0) → ((c : CrashRecord) → P c → Q c) → LeavesOnly m old new P → LeavesOnly m old new Q
  weakened P Q implies run = record {
    later = run.later;
    each = λ c left. implies c (run.each c left);
    before = λ t c le left. ⊎_elim inl (λ has. inr (implies c has)) (run.before t c le left);
  }

  -- a run, and one call more
  pub and_a_call : {old mid new : R} (P during : CrashRecord → Type 0) → LeavesOnly m old mid P → Elapses m mid new during
      → ((c : CrashRecord) → during c → P c) → LeavesOnly m old new P
  and_a_call {old} P during run time within = record {
    later = omega (arith, run.later, time.later);
    each = λ c left. ⊎_elim (run.each c) (within c) (time.nothing_else (m.moment old) c run.later left);
    before = λ t c le left. ⊎_elim (run.before t c le) (λ now. inr (within c now)) (time.nothing_else t c (omega (arith, le, run.later)) left);
  }

  -- one call
  pub a_call : {old new : R} (P during : CrashRecord → Type 0) → ((c : CrashRecord) → m.may_leave old c → P c)
      → Elapses m old new during → ((c : CrashRecord) → during c → P c) → LeavesOnly m old new P
  a_call {old} P during start = and_a_call P during (started old P start)
