-- What one call more that is kept leaves.
use Rattle.std.proofs.Common.{◌≡◌, ◌⊎◌, inl, inr, ⊎_elim, ℕ, ◌≤◌, Bool, true, false, List, [], ◌∷◌, ◌++◌, length, drop, Option, Some, None, if◌then◌else◌, refl, sym, ap, subst, ◌∙◌, arith, length-append}
use Rattle.std.proofs.lemmas.List.{drop_all, drop-append-le}
use Rattle.std.specs.Prelude.{is_some, IsTrue}
use Rattle.rig_trait.specs.Kept.{KeptCall, Keeping, bytes_kept, has_space, kept_calls, with_call}
use Rattle.rig_trait.specs.Records.{CrashRecord}
use Rattle.rig_trait.specs.Undone.{LeftBy, LeftWithin, before, undone}

before-push : (calls : List KeptCall) (call : KeptCall) (was now : CrashRecord) → undone call now ≡ was → before (calls ++ call ∷ []) now ≡ before calls was
before-push [] call was now is = is
before-push (x ∷ calls) call was now is = ap (undone x) (before-push calls call was now is)

left-push : (calls : List KeptCall) (call : KeptCall) (was now c : CrashRecord) → undone call now ≡ was → LeftBy (calls ++ call ∷ []) now c
    → LeftBy calls was c ⊎ (LeftWithin call was c ⊎ (c ≡ now))
left-push [] call was now c is (inl (inl start)) = inl (start ∙ is)
left-push [] call was now c is (inl (inr within)) = inr (inl (subst (λ (s : CrashRecord). LeftWithin call s c) is within))
left-push [] call was now c is (inr last) = inr (inr last)
left-push (x ∷ calls) call was now c is (inl (inl start)) = inl (inl (inl (start ∙ before-push (x ∷ calls) call was now is)))
left-push (x ∷ calls) call was now c is (inl (inr within)) = inl (inl (inr (subst (λ (s : CrashRecord). LeftWithin x s c) (before-push (x ∷ calls) call was now is) within)))
left-push (x ∷ calls) call was now c is (inr later) = ⊎_elim (λ past. inl (inr past)) (λ here. inr here) (left-push calls call was now c is later)

left_stays : (calls : List KeptCall) (call : KeptCall) (was now c : CrashRecord) → undone call now ≡ was → LeftBy calls was c → LeftBy (calls ++ call ∷ []) now c
left_stays [] call was now c is left = inl (inl (left ∙ sym is))
left_stays (x ∷ calls) call was now c is (inl (inl start)) = inl (inl (start ∙ sym (before-push (x ∷ calls) call was now is)))
left_stays (x ∷ calls) call was now c is (inl (inr within)) = inl (inr (subst (λ (s : CrashRecord). LeftWithin x s c) (sym (before-push (x ∷ calls) call was now is)) within))
left_stays (x ∷ calls) call was now c is (inr later) = inr (left_stays calls call was now c is later)

-- what a stop since a moment might have left, of a rig that keeps these calls and stands so
abbrev pub Since : Option Keeping → CrashRecord → ℕ → CrashRecord → Type 0
Since keeping now t c = IsTrue (is_some keeping) × LeftBy (drop t (kept_calls keeping)) now c

-- time goes on over one call, as a rig in memory tells it
pub record GoesOver (old new : Option Keeping) (was now : CrashRecord) (during : CrashRecord → Type 0) : Type 0 where
  pub later : length (kept_calls old) ≤ length (kept_calls new)
  pub nothing_else : (t : ℕ) (c : CrashRecord) → t ≤ length (kept_calls old) → Since new now t c → Since old was t c ⊎ during c
  pub keeps : (t : ℕ) (c : CrashRecord) → t ≤ length (kept_calls old) → Since old was t c → Since new now t c
  pub left_is : (c : CrashRecord) → IsTrue (is_some new) × (c ≡ now) → during c
  pub joins : (t : ℕ) (c : CrashRecord) → t ≤ length (kept_calls old) → Since new now t c → Since old was t c ⊎ Since new now (length (kept_calls old)) c

pub goes_over_none : (was now : CrashRecord) (during : CrashRecord → Type 0) → GoesOver None None was now during
goes_over_none was now during = record {
  later = omega arith;
  nothing_else = λ t c le left. absurd (untold left.0);
  keeps = λ t c le left. absurd (untold left.0);
  left_is = λ c left. absurd (untold left.0);
  joins = λ t c le left. absurd (untold left.0);
}
  where
    untold : IsTrue false → ⊥
    untold told = cc

-- nothing more is kept, and nothing changed
goes_over_same : (k : Keeping) (was now : CrashRecord) (during : CrashRecord → Type 0) → now ≡ was → during now → GoesOver (Some k) (Some k) was now during
goes_over_same k was now during same here = record {
  later = omega arith;
  nothing_else = λ t c le left. inl (left.0, subst (λ (s : CrashRecord). LeftBy (drop t k.kept) s c) same left.1);
  keeps = λ t c le left. (left.0, subst (λ (s : CrashRecord). LeftBy (drop t k.kept) s c) (sym same) left.1);
  left_is = λ c left. subst during (sym left.1) here;
  joins = λ t c le left. inl (left.0, subst (λ (s : CrashRecord). LeftBy (drop t k.kept) s c) same left.1);
}

goes_over_kept : (k new : Keeping) (call : KeptCall) (was now : CrashRecord) (during : CrashRecord → Type 0) → new.kept ≡ k.kept ++ call ∷ [] → undone call now ≡ was
    → ((c : CrashRecord) → LeftWithin call was c → during c) → during now → GoesOver (Some k) (Some new) was now during
goes_over_kept k new call was now during pushed is within here = record {
  later = omega (arith, ap length pushed, length-append k.kept (call ∷ []));
  nothing_else = λ t c le left.
      ⊎_elim (λ past. inl (refl, past)) (λ more. inr (⊎_elim (within c) (λ last. subst during (sym last) here) more)) (split t c le left.1);
  keeps = λ t c le left. (refl, subst (λ (calls : List KeptCall). LeftBy calls now c) (sym (dropped t le)) (left_stays (drop t k.kept) call was now c is left.1));
  left_is = λ c left. subst during (sym left.1) here;
  joins = λ t c le left.
      ⊎_elim (λ past. inl (refl, past)) (λ more. inr (refl, subst (λ (calls : List KeptCall). LeftBy calls now c) (sym last_only) (lasts c more))) (split t c le left.1);
}
  where
    dropped : (t : ℕ) → t ≤ length k.kept → drop t new.kept ≡ drop t k.kept ++ call ∷ []
    dropped t le = ap (drop t) pushed ∙ drop-append-le t k.kept (call ∷ []) le

    split : (t : ℕ) (c : CrashRecord) → t ≤ length k.kept → LeftBy (drop t new.kept) now c → LeftBy (drop t k.kept) was c ⊎ (LeftWithin call was c ⊎ (c ≡ now))
    split t c le left = left-push (drop t k.kept) call was now c is (subst (λ (calls : List KeptCall). LeftBy calls now c) (dropped t le) left)

    last_only : drop (length k.kept) new.kept ≡ call ∷ []
    last_only = dropped (length k.kept) (omega arith) ∙ ap (λ (calls : List KeptCall). calls ++ call ∷ []) (drop_all (length k.kept) k.kept (omega arith))

    lasts : (c : CrashRecord) → LeftWithin call was c ⊎ (c ≡ now) → LeftBy (call ∷ []) now c
    lasts c (inl here) = inl (inr (subst (λ (s : CrashRecord). LeftWithin call s c) (sym is) here))
    lasts c (inr last) = inr last

goes_over_if : (b : Bool) (k new : Keeping) (call : KeptCall) (was now : CrashRecord) (during : CrashRecord → Type 0) → new.kept ≡ k.kept ++ call ∷ [] → undone call now ≡ was
    → ((c : CrashRecord) → LeftWithin call was c → during c) → during now → (b ≡ false → now ≡ was) → GoesOver (Some k) (if b then Some new else Some k) was now during
goes_over_if true k new call was now during pushed is within here same = goes_over_kept k new call was now during pushed is within here
goes_over_if false k new call was now during pushed is within here same = goes_over_same k was now during (same refl) here

-- One call more is kept, where it can be. Where it can't, nothing changed.
pub goes_over : (keeping : Option Keeping) (call : KeptCall) (was now : CrashRecord) (during : CrashRecord → Type 0) → undone call now ≡ was
    → ((c : CrashRecord) → LeftWithin call was c → during c) → during now → (has_space (bytes_kept call) keeping ≡ false → now ≡ was)
    → GoesOver keeping (with_call call keeping) was now during
goes_over None call was now during is within here same = goes_over_none was now during
goes_over (Some k) call was now during is within here same = goes_over_if (has_space (bytes_kept call) (Some k)) k _ call was now during refl is within here same
