-- A media in memory where a kept write was stopped has what one of the records has; and the kept writes lie inside it.
use Rattle.std.proofs.Common.{◌≡◌, inl, inr, ℕ, zero, suc, ◌*◌, ◌/◌, ◌<◌, Result, Ok, Err, Bool, true, false, List, [], ◌∷◌, ◌++◌, length, drop, Option, Some, None, refl, sym, subst, ◌∙◌, arith, eq-eqb}
use Rattle.std.proofs.lemmas.Bool.Decides.{Decides-eqb}
use Rattle.std.specs.Prelude.{IfOk, IfSome, nat_eq, if◌then◌else◌}
use Rattle.byte_ranges.specs.Ranges.{range, patched}
use Rattle.byte_ranges.proofs.Patched.{length-patched}
use Rattle.btt_arena.specs.Crashed.{IsFirst, first_stopped, mixed, stopped}
use Rattle.btt_arena.specs.Kept.{KeptWrite, Keeping, LiesIn, AllLieIn, bytes_kept, has_space, kept_from, kept_writes, with_write}
use Rattle.btt_arena.specs.Records.{CrashRecord, IsByWords, torn_write}
use Rattle.btt_arena.specs.Undone.{LeftBy, before}
use Rattle.btt_arena.proofs.Bytes.{range-undone}
use Rattle.btt_arena.proofs.Words.{by_words}

pub AllLieIn-push : (n : ℕ) (writes : List KeptWrite) (write : KeptWrite) → AllLieIn n writes → LiesIn n write → AllLieIn n (writes ++ write ∷ [])
AllLieIn-push n [] write all lies = (lies, tt)
AllLieIn-push n (x ∷ writes) write all lies = (all.0, AllLieIn-push n writes write all.1 lies)

AllLieIn-if : (b : Bool) (n : ℕ) (k new : Keeping) → AllLieIn n k.kept → AllLieIn n new.kept → AllLieIn n (kept_writes (if b then Some new else Some k))
AllLieIn-if true n k new old_lie new_lie = new_lie
AllLieIn-if false n k new old_lie new_lie = old_lie

pub AllLieIn-with_write : (n : ℕ) (keeping : Option Keeping) (write : KeptWrite) → AllLieIn n (kept_writes keeping) → LiesIn n write → AllLieIn n (kept_writes (with_write write keeping))
AllLieIn-with_write n None write all lies = tt
AllLieIn-with_write n (Some k) write all lies = AllLieIn-if (has_space (bytes_kept write) (Some k)) n k _ all (AllLieIn-push n k.kept write all lies)

pub first_lies : (n : ℕ) (writes : List KeptWrite) (i : ℕ) (write : KeptWrite) → IsFirst (drop i writes) write → AllLieIn n writes → LiesIn n write
first_lies n [] zero write first all = let none : [] ≡ write ∷ first.0 = first.1 in absurd (cc)
first_lies n [] (suc i) write first all = let none : [] ≡ write ∷ first.0 = first.1 in absurd (cc)
first_lies n (x ∷ writes) zero write first all =
    let is : x ∷ writes ≡ write ∷ first.0 = first.1 in
    let same : x ≡ write = cc in
    subst (LiesIn n) same all.0
first_lies n (x ∷ writes) (suc i) write first all = first_lies n writes i write first all.1

-- the write at a place, and those behind it
pub write_there : (writes : List KeptWrite) (i : ℕ) → i < length writes → (write : KeptWrite) × (drop i writes ≡ write ∷ drop (suc i) writes)
write_there [] i lt = absurd (omega (arith, lt))
write_there (x ∷ writes) zero lt = (x, refl)
write_there (x ∷ writes) (suc i) lt = write_there writes i (omega (arith, lt))

-- what follows at Ok
pub at_ok : {T E : Type 0} (result : Result T E) (P Q : T → Type 0) → ((value : T) → P value → Q value) → IfOk result P → IfOk result Q
at_ok (Ok value) P Q implies has = implies value has
at_ok (Err error) P Q implies has = tt

-- a record of these writes that has these bytes
pub record HasRecord (writes : List KeptWrite) (now given : List ℕ) : Type 0 where
  pub left : CrashRecord
  pub by : LeftBy writes now left
  pub bytes_are : given ≡ left.bytes

pub length-before : (n : ℕ) (writes : List KeptWrite) (now : List ℕ) → AllLieIn n writes → length now ≡ n → length (before writes now) ≡ n
length-before n [] now all long = long
length-before n (w ∷ writes) now all long =
    let rest = length-before n writes now all.1 long in
    length-patched (before writes now) w.old w.at (omega (arith, rest, all.0.fits, all.0.same_length)) ∙ rest

stopped_if : (b : Bool) (write : KeptWrite) (later : List KeptWrite) (now given : List ℕ) → (b ≡ true → HasRecord (write ∷ later) now given) → IfSome (if b then Some given else None) (HasRecord (write ∷ later) now)
stopped_if true write later now given here = here refl
stopped_if false write later now given here = tt

-- the first of these writes, stopped
stopped_within : (n : ℕ) (write : KeptWrite) (later : List KeptWrite) (now : List ℕ) (taken : List Bool) → AllLieIn n (write ∷ later) → length now ≡ n
    → IfSome (stopped write (before (write ∷ later) now) taken) (HasRecord (write ∷ later) now)
stopped_within n write later now taken all long =
    let rest = length-before n later now all.1 long in
    let was = before (write ∷ later) now in
    let stood : range was write.at (length write.new) ≡ write.old = range-undone (before later now) write.old write.at (length write.new) (sym all.0.same_length) (omega (arith, rest, all.0.fits, all.0.same_length)) in
    stopped_if (nat_eq (length taken) (length write.new / 4)) write later now (patched was write.at (mixed taken write.old write.new))
    (λ same.
    let count : length taken ≡ length write.new / 4 = (Decides-eqb (length taken) (length write.new / 4)).0 same in
    let new_long : length write.new ≡ 4 * length taken = omega (arith, all.0.words) in
    record {
      left = record { bytes = patched was write.at (mixed taken write.old write.new); torn = Some (torn_write was write.at write.new) };
      by = inl (inr (record {
        mixed = mixed taken write.old write.new;
        by_words = subst (λ (old : List ℕ). IsByWords old write.new (mixed taken write.old write.new)) (sym stood) (by_words taken write.old write.new (omega (arith, new_long, all.0.same_length)) new_long);
        bytes_are = refl;
        torn_is = refl;
      }));
      bytes_are = refl;
    })

earlier_too : (write : KeptWrite) (later : List KeptWrite) (now : List ℕ) (o : Option (List ℕ)) → IfSome o (HasRecord later now) → IfSome o (HasRecord (write ∷ later) now)
earlier_too write later now None here = tt
earlier_too write later now (Some given) here = record { left = here.left; by = inr here.by; bytes_are = here.bytes_are }

-- the first write with a number, stopped
pub crash_recorded : (number n : ℕ) (writes : List KeptWrite) (now : List ℕ) (taken : List Bool) → AllLieIn n writes → length now ≡ n → IfSome (first_stopped (kept_from number writes) now taken) (HasRecord writes now)
crash_recorded number n [] now taken all long = tt
crash_recorded number n (write ∷ later) now taken all long =
    cases (nat_eq write.call number) (stopped_within n write later now taken all long) (earlier_too write later now _ (crash_recorded number n later now taken all.1 long))
  where
    cases : (b : Bool) → IfSome (first_stopped (write ∷ later) now taken) (HasRecord (write ∷ later) now) → IfSome (first_stopped (kept_from number later) now taken) (HasRecord (write ∷ later) now)
        → IfSome (first_stopped (if b then write ∷ later else kept_from number later) now taken) (HasRecord (write ∷ later) now)
    cases true here there = here
    cases false here there = there

chosen_not : {X : Type 0} (b : Bool) (x : X) → (b ≡ true → ⊥) → (if b then Some x else None) ≡ None
chosen_not true x never = absurd (never refl)
chosen_not false x _ = refl

module _ (write : KeptWrite) (was : List ℕ) (taken : List Bool) where
  pub write_stopped : length taken ≡ length write.new / 4 → stopped write was taken ≡ Some (patched was write.at (mixed taken write.old write.new))
  write_stopped same = let yes : nat_eq (length taken) (length write.new / 4) ≡ true = eq-eqb (length taken) (length write.new / 4) same in rw yes refl

  pub write_not_stopped : (length taken ≡ length write.new / 4 → ⊥) → stopped write was taken ≡ None
  write_not_stopped other = chosen_not (nat_eq (length taken) (length write.new / 4)) _ (λ yes. other ((Decides-eqb (length taken) (length write.new / 4)).0 yes))
