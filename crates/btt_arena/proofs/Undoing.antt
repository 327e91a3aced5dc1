-- What one write more that is kept leaves.
use Rattle.std.proofs.Common.{◌≡◌, ◌⊎◌, inl, inr, ⊎_elim, ℕ, ◌≤◌, Bool, true, false, List, [], ◌∷◌, ◌++◌, length, drop, Option, Some, None, if◌then◌else◌, refl, sym, ap, subst, ◌∙◌, arith, length-append}
use Rattle.std.proofs.lemmas.List.{drop_all, drop-append-le}
use Rattle.std.specs.Prelude.{is_some, IsTrue}
use Rattle.btt_arena.specs.Kept.{KeptWrite, Keeping, bytes_kept, has_space, kept_writes, with_write}
use Rattle.btt_arena.specs.Records.{CrashRecord, IsTorn}
use Rattle.btt_arena.specs.Undone.{LeftBy, before, undone, whole}

before-push : (writes : List KeptWrite) (write : KeptWrite) (was now : List ℕ) → undone write now ≡ was → before (writes ++ write ∷ []) now ≡ before writes was
before-push [] write was now is = is
before-push (x ∷ writes) write was now is = ap (undone x) (before-push writes write was now is)

left-push : (writes : List KeptWrite) (write : KeptWrite) (was now : List ℕ) (c : CrashRecord) → undone write now ≡ was → LeftBy (writes ++ write ∷ []) now c
    → LeftBy writes was c ⊎ (IsTorn was write.at write.new c ⊎ (c ≡ whole now))
left-push [] write was now c is (inl (inl start)) = inl (start ∙ ap whole is)
left-push [] write was now c is (inl (inr within)) = inr (inl (subst (λ (s : List ℕ). IsTorn s write.at write.new c) is within))
left-push [] write was now c is (inr last) = inr (inr last)
left-push (x ∷ writes) write was now c is (inl (inl start)) = inl (inl (inl (start ∙ ap whole (before-push (x ∷ writes) write was now is))))
left-push (x ∷ writes) write was now c is (inl (inr within)) = inl (inl (inr (subst (λ (s : List ℕ). IsTorn s x.at x.new c) (before-push (x ∷ writes) write was now is) within)))
left-push (x ∷ writes) write was now c is (inr later) = ⊎_elim (λ past. inl (inr past)) (λ here. inr here) (left-push writes write was now c is later)

left_stays : (writes : List KeptWrite) (write : KeptWrite) (was now : List ℕ) (c : CrashRecord) → undone write now ≡ was → LeftBy writes was c → LeftBy (writes ++ write ∷ []) now c
left_stays [] write was now c is left = inl (inl (left ∙ ap whole (sym is)))
left_stays (x ∷ writes) write was now c is (inl (inl start)) = inl (inl (start ∙ ap whole (sym (before-push (x ∷ writes) write was now is))))
left_stays (x ∷ writes) write was now c is (inl (inr within)) = inl (inr (subst (λ (s : List ℕ). IsTorn s x.at x.new c) (sym (before-push (x ∷ writes) write was now is)) within))
left_stays (x ∷ writes) write was now c is (inr later) = inr (left_stays writes write was now c is later)

-- what a stop since a moment might have left, of a media that keeps these writes and stands so
abbrev pub Since : Option Keeping → List ℕ → ℕ → CrashRecord → Type 0
Since keeping now t c = IsTrue (is_some keeping) × LeftBy (drop t (kept_writes keeping)) now c

-- time goes on over one write, as a media in memory tells it
pub record GoesOver (old new : Option Keeping) (was now : List ℕ) (during : CrashRecord → Type 0) : Type 0 where
  pub later : length (kept_writes old) ≤ length (kept_writes new)
  pub nothing_else : (t : ℕ) (c : CrashRecord) → t ≤ length (kept_writes old) → Since new now t c → Since old was t c ⊎ during c
  pub keeps : (t : ℕ) (c : CrashRecord) → t ≤ length (kept_writes old) → Since old was t c → Since new now t c
  pub left_is : (c : CrashRecord) → IsTrue (is_some new) × (c ≡ whole now) → during c
  pub joins : (t : ℕ) (c : CrashRecord) → t ≤ length (kept_writes old) → Since new now t c → Since old was t c ⊎ Since new now (length (kept_writes old)) c

pub goes_over_none : (was now : List ℕ) (during : CrashRecord → Type 0) → GoesOver None None was now during
goes_over_none was now during = record {
  later = omega arith;
  nothing_else = λ t c le left. absurd (untold left.0);
  keeps = λ t c le left. absurd (untold left.0);
  left_is = λ c left. absurd (untold left.0);
  joins = λ t c le left. absurd (untold left.0);
}
  where
    untold : IsTrue false → ⊥
    untold told = cc

-- nothing more is kept, and nothing changed
goes_over_same : (k : Keeping) (was now : List ℕ) (during : CrashRecord → Type 0) → now ≡ was → during (whole now) → GoesOver (Some k) (Some k) was now during
goes_over_same k was now during same here = record {
  later = omega arith;
  nothing_else = λ t c le left. inl (left.0, subst (λ (s : List ℕ). LeftBy (drop t k.kept) s c) same left.1);
  keeps = λ t c le left. (left.0, subst (λ (s : List ℕ). LeftBy (drop t k.kept) s c) (sym same) left.1);
  left_is = λ c left. subst during (sym left.1) here;
  joins = λ t c le left. inl (left.0, subst (λ (s : List ℕ). LeftBy (drop t k.kept) s c) same left.1);
}

goes_over_kept : (k new : Keeping) (write : KeptWrite) (was now : List ℕ) (during : CrashRecord → Type 0) → new.kept ≡ k.kept ++ write ∷ [] → undone write now ≡ was
    → ((c : CrashRecord) → IsTorn was write.at write.new c → during c) → during (whole now) → GoesOver (Some k) (Some new) was now during
goes_over_kept k new write was now during pushed is within here = record {
  later = omega (arith, ap length pushed, length-append k.kept (write ∷ []));
  nothing_else = λ t c le left.
      ⊎_elim (λ past. inl (refl, past)) (λ more. inr (⊎_elim (within c) (λ last. subst during (sym last) here) more)) (split t c le left.1);
  keeps = λ t c le left. (refl, subst (λ (writes : List KeptWrite). LeftBy writes now c) (sym (dropped t le)) (left_stays (drop t k.kept) write was now c is left.1));
  left_is = λ c left. subst during (sym left.1) here;
  joins = λ t c le left.
      ⊎_elim (λ past. inl (refl, past)) (λ more. inr (refl, subst (λ (writes : List KeptWrite). LeftBy writes now c) (sym last_only) (lasts c more))) (split t c le left.1);
}
  where
    dropped : (t : ℕ) → t ≤ length k.kept → drop t new.kept ≡ drop t k.kept ++ write ∷ []
    dropped t le = ap (drop t) pushed ∙ drop-append-le t k.kept (write ∷ []) le

    split : (t : ℕ) (c : CrashRecord) → t ≤ length k.kept → LeftBy (drop t new.kept) now c → LeftBy (drop t k.kept) was c ⊎ (IsTorn was write.at write.new c ⊎ (c ≡ whole now))
    split t c le left = left-push (drop t k.kept) write was now c is (subst (λ (writes : List KeptWrite). LeftBy writes now c) (dropped t le) left)

    last_only : drop (length k.kept) new.kept ≡ write ∷ []
    last_only = dropped (length k.kept) (omega arith) ∙ ap (λ (writes : List KeptWrite). writes ++ write ∷ []) (drop_all (length k.kept) k.kept (omega arith))

    lasts : (c : CrashRecord) → IsTorn was write.at write.new c ⊎ (c ≡ whole now) → LeftBy (write ∷ []) now c
    lasts c (inl here) = inl (inr (subst (λ (s : List ℕ). IsTorn s write.at write.new c) (sym is) here))
    lasts c (inr last) = inr last

goes_over_if : (b : Bool) (k new : Keeping) (write : KeptWrite) (was now : List ℕ) (during : CrashRecord → Type 0) → new.kept ≡ k.kept ++ write ∷ [] → undone write now ≡ was
    → ((c : CrashRecord) → IsTorn was write.at write.new c → during c) → during (whole now) → (b ≡ false → now ≡ was) → GoesOver (Some k) (if b then Some new else Some k) was now during
goes_over_if true k new write was now during pushed is within here same = goes_over_kept k new write was now during pushed is within here
goes_over_if false k new write was now during pushed is within here same = goes_over_same k was now during (same refl) here

-- One write more is kept, where it can be. Where it can't, nothing changed.
pub goes_over : (keeping : Option Keeping) (write : KeptWrite) (was now : List ℕ) (during : CrashRecord → Type 0) → undone write now ≡ was
    → ((c : CrashRecord) → IsTorn was write.at write.new c → during c) → during (whole now) → (has_space (bytes_kept write) keeping ≡ false → now ≡ was)
    → GoesOver keeping (with_write write keeping) was now during
goes_over None write was now during is within here same = goes_over_none was now during
goes_over (Some k) write was now during is within here same = goes_over_if (has_space (bytes_kept write) (Some k)) k _ write was now during refl is within here same
