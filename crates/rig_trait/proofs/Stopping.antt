-- A rig in memory where a kept call was stopped has what one of the records has.
use Rattle.std.proofs.Common.{◌≡◌, inl, inr, ℕ, Bool, true, false, List, [], ◌∷◌, ◌++◌, map, length, take, drop, Option, Some, None, Vec, if◌then◌else◌, refl, sym, ap, ◌∙◌}
use Rattle.std.proofs.lemmas.Bool.Decides.{Decides-eqb}
use Rattle.std.proofs.lemmas.List.{take_at}
use Rattle.std.proofs.lemmas.Slice.Eq.{starts_is}
use Rattle.std.specs.Prelude.{IfSome, nat_eq, unwrap_or}
use Rattle.std.specs.List.{AllZip, starts_with}
use Rattle.std.proofs.Common.{eq-eqb, add-one, ◌+◌}
use Rattle.std.specs.declared.alloc.Global.{Global}
use Rattle.byte_ranges.specs.Ranges.{range}
use Rattle.byte_ranges.proofs.Patched.{range-patched_in}
use Rattle.rig_trait.specs.Areas.{area, bytes_in, written}
use Rattle.rig_trait.specs.Crashed.{first_stopped, first_torn, moment_of, stopped}
use Rattle.rig_trait.specs.Kept.{KeptCall, kept_write, kept_say, kept_from, number_of, AllLieIn, LiesIn}
use Rattle.rig_trait.specs.Memory.{bytes_of}
use Rattle.rig_trait.specs.Records.{CrashRecord, TornWrite}
use Rattle.rig_trait.specs.Undone.{LeftBy, before, whole}
use Rattle.rig_trait.proofs.Lying.{AllLieIn-written}
use Rattle.rig_trait.proofs.WrittenAreas.{get-written}

-- the calls from one on may be stopped with the calls before it undone, and still lie inside the areas
lies_before : (calls : List KeptCall) (now : CrashRecord) (xs : List KeptCall) → AllLieIn now.areas calls → AllLieIn now.areas xs → AllLieIn (before calls now).areas xs
lies_before [] now xs all lie = lie
lies_before (kept_write call dimm at old new ∷ later) now xs all lie =
    let own = lies_before later now (kept_write call dimm at old new ∷ []) all.1 (all.0, tt) in
    AllLieIn-written (before later now).areas dimm at old (rw own.0.1 own.0.0) xs (lies_before later now xs all.1 lie)
lies_before (kept_say call said text ∷ later) now xs all lie = lies_before later now xs all.1 lie

-- the record of a rig that stands so, with a torn write
abbrev recorded : CrashRecord → Option TornWrite → CrashRecord
recorded given torn = record { areas = given.areas; said = given.said; torn = torn }

-- the old bytes stand where a write is undone
old_bytes : (now : CrashRecord) (call dimm at : ℕ) (old new : List ℕ) → LiesIn now.areas (kept_write call dimm at old new) → bytes_in (written now.areas dimm at old) dimm at (length new) ≡ old
old_bytes now call dimm at old new lies =
    rw (← lies.1) (
    ap (λ (o : Option (List ℕ)). range (unwrap_or o []) at (length old)) (get-written now.areas dimm at old)
    ∙ range-patched_in (area now.areas dimm) old at (rw lies.1 lies.0.fits)
    )

stopped_if : (b : Bool) (given : CrashRecord) (P : CrashRecord → Type 0) → (b ≡ true → P given) → IfSome (if b then Some given else None) P
stopped_if true given P here = here refl
stopped_if false given P here = tt

stopped_within : (call : KeptCall) (later : List KeptCall) (now : CrashRecord) (torn : List ℕ) → AllLieIn now.areas (call ∷ later)
    → IfSome (stopped call (before (call ∷ later) now) torn) (λ given. LeftBy (call ∷ later) now (recorded given (first_torn (call ∷ later))))
stopped_within (kept_write call dimm at old new) later now torn all =
    let was : CrashRecord = before later now in
    let lies = lies_before later now (kept_write call dimm at old new ∷ []) all.1 (all.0, tt) in
    stopped_if (nat_eq (length torn) (length new)) _ (λ given. LeftBy (kept_write call dimm at old new ∷ later) now (recorded given (first_torn (kept_write call dimm at old new ∷ later))))
    (λ same. inl (inr (record {
      garbage = torn;
      same_length = (Decides-eqb (length torn) (length new)).0 same;
      areas_are = refl;
      said_is = refl;
      torn_is = ap (λ (bytes : List ℕ). Some (record { dimm = dimm; at = at; old = bytes; new = new })) (sym (old_bytes was call dimm at old new lies.0));
    })))
stopped_within (kept_say call said text) later now torn all =
    stopped_if (starts_with nat_eq text torn) _ (λ given. LeftBy (kept_say call said text ∷ later) now (recorded given (first_torn (kept_say call said text ∷ later))))
    (λ starts.
    let was : CrashRecord = before (kept_say call said text ∷ later) now in
    let split : text ≡ torn ++ drop (length torn) text = (starts_is Decides-eqb text torn (starts_with nat_eq text torn) refl).0 starts in
    let front : take (length torn) text ≡ torn = ap (take (length torn)) split ∙ take_at torn (drop (length torn) text) (length torn) refl in
    inl (inr (length torn, ap (λ (t : List ℕ). whole was.areas (was.said ++ t)) (sym front))))

-- the first call with a number, stopped
pub crash_recorded : (number : ℕ) (calls : List KeptCall) (now : CrashRecord) (torn : List ℕ) → AllLieIn now.areas calls
    → IfSome (first_stopped (kept_from number calls) now torn) (λ given. LeftBy (drop (moment_of number calls) calls) now (recorded given (first_torn (kept_from number calls))))
crash_recorded number [] now torn all = tt
crash_recorded number (call ∷ later) now torn all = cases (nat_eq (number_of call) number) (stopped_within call later now torn all) (crash_recorded number later now torn all.1)
  where
    cases : (b : Bool) → IfSome (first_stopped (call ∷ later) now torn) (λ given. LeftBy (call ∷ later) now (recorded given (first_torn (call ∷ later))))
        → IfSome (first_stopped (kept_from number later) now torn) (λ given. LeftBy (drop (moment_of number later) later) now (recorded given (first_torn (kept_from number later))))
        → IfSome (first_stopped (if b then call ∷ later else kept_from number later) now torn)
        (λ given. LeftBy (drop (if b then 0 else moment_of number later + 1) (call ∷ later)) now (recorded given (first_torn (if b then call ∷ later else kept_from number later))))
    cases true here there = here
    cases false here there = rw add-one there

same_items : (xs ys : List ℕ) → AllZip (λ x y. y ≡ x) xs ys → ys ≡ xs
same_items [] [] all = refl
same_items [] (y ∷ ys) all = absurd all
same_items (x ∷ xs) [] all = absurd all
same_items (x ∷ xs) (y ∷ ys) all = λ i. all.0 i ∷ same_items xs ys all.1 i

-- a clone of a map has the same bytes
pub same_bytes : (es fs : List (ℕ × Vec ℕ Global)) → AllZip (λ (p q : ℕ × Vec ℕ Global). (q.0 ≡ p.0) × (AllZip (λ x y. y ≡ x) p.1.items q.1.items × (q.1.len ≡ p.1.len))) es fs
    → map bytes_of fs ≡ map bytes_of es
same_bytes [] [] all = refl
same_bytes [] (f ∷ fs) all = absurd all
same_bytes (e ∷ es) [] all = absurd all
same_bytes (e ∷ es) (f ∷ fs) all = λ i. (all.0.0 i, same_items e.1.items f.1.items all.0.1.0 i) ∷ same_bytes es fs all.1 i

chosen_not : {X : Type 0} (b : Bool) (x : X) → (b ≡ true → ⊥) → (if b then Some x else None) ≡ None
chosen_not true x never = absurd (never refl)
chosen_not false x _ = refl

module _ (call dimm at : ℕ) (old new : List ℕ) (was : CrashRecord) (torn : List ℕ) where
  pub write_stopped : length torn ≡ length new → stopped (kept_write call dimm at old new) was torn ≡ Some (whole (written was.areas dimm at torn) was.said)
  write_stopped same = let yes : nat_eq (length torn) (length new) ≡ true = eq-eqb (length torn) (length new) same in rw yes refl

  pub write_not_stopped : (length torn ≡ length new → ⊥) → stopped (kept_write call dimm at old new) was torn ≡ None
  write_not_stopped other = chosen_not (nat_eq (length torn) (length new)) _ (λ yes. other ((Decides-eqb (length torn) (length new)).0 yes))
