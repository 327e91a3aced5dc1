-- A set of offsets has one list of maximal intervals, and each of them is maximal.
use Rattle.std.proofs.Common.{◌≡◌, inl, inr, ℕ, zero, suc, ◌+◌, ◌≤◌, ◌<◌, Bool, true, false, List, [], ◌∷◌, Some, slice_get, refl, sym, ◌∙◌, subst, arith}
use Rattle.std.specs.Prelude.{◌||◌}
use Rattle.std.proofs.lemmas.Bool.{cases_lt}
use Rattle.view_types.specs.declared.extents.Extent.{Extent}
use Rattle.view_types.specs.Intervals.{end_of, is_within, is_free, Ascend, AreMaximal, IsMaximal}
use Rattle.view_types.proofs.Intervals.{within_yes, none_below, free_later, or_true}

-- the first offset of a list is free, and so are those of its first extent
free_in_first : (e : Extent) (es : List Extent) (o : ℕ) → e.start ≤ o → o < end_of e → is_free (e ∷ es) o ≡ true
free_in_first e es o ge lt = λ i. within_yes e.start e.len o ge lt i || is_free es o

below_first : (from whole : ℕ) (e : Extent) (es : List Extent) (o : ℕ) → Ascend from whole (e ∷ es) → o < e.start → is_free (e ∷ es) o ≡ false
below_first from whole e es o up lt = none_below e.start whole (e ∷ es) o (omega arith, up.1, up.2, up.3) lt

behind_first : (from whole : ℕ) (e : Extent) (es : List Extent) → Ascend from whole (e ∷ es) → is_free (e ∷ es) (end_of e) ≡ false
behind_first from whole e es up =
    free_later e es (end_of e) (omega arith) ∙ none_below (end_of e + 1) whole es (end_of e) up.3 (omega arith)

module _ (from whole : ℕ) (e f : Extent) (es fs : List Extent) (up_e : Ascend from whole (e ∷ es)) (up_f : Ascend from whole (f ∷ fs))
    (same : (o : ℕ) → is_free (e ∷ es) o ≡ is_free (f ∷ fs) o) where
  no_later : f.start ≤ e.start
  no_later = elim (cases_lt e.start f.start) [
    | inr le ↦ le
    | inl lt ↦
        let a : is_free (e ∷ es) e.start ≡ true = free_in_first e es e.start (omega arith) (omega (arith, up_e.1)) in
        let b : is_free (f ∷ fs) e.start ≡ false = below_first from whole f fs e.start up_f lt in
        let never : true ≡ false = sym a ∙ same e.start ∙ b in absurd cc
  ]

  no_longer : e.start ≡ f.start → end_of f ≤ end_of e
  no_longer start = elim (cases_lt (end_of e) (end_of f)) [
    | inr le ↦ le
    | inl lt ↦
        let a : is_free (e ∷ es) (end_of e) ≡ false = behind_first from whole e es up_e in
        let b : is_free (f ∷ fs) (end_of e) ≡ true = free_in_first f fs (end_of e) (omega arith) lt in
        let never : false ≡ true = sym a ∙ same (end_of e) ∙ b in absurd cc
  ]

same_later : (whole : ℕ) (e f : Extent) (es fs : List Extent) → end_of e ≡ end_of f → Ascend (end_of e + 1) whole es → Ascend (end_of f + 1) whole fs
    → ((o : ℕ) → is_free (e ∷ es) o ≡ is_free (f ∷ fs) o) → (o : ℕ) → is_free es o ≡ is_free fs o
same_later whole e f es fs ends up_e up_f same o = elim (cases_lt o (end_of e + 1)) [
  | inl lt ↦ none_below (end_of e + 1) whole es o up_e lt ∙ sym (none_below (end_of f + 1) whole fs o up_f (omega arith))
  | inr ge ↦ sym (free_later e es o (omega arith)) ∙ same o ∙ free_later f fs o (omega arith)
]

unique : (from whole : ℕ) (es fs : List Extent) → Ascend from whole es → Ascend from whole fs → ((o : ℕ) → is_free es o ≡ is_free fs o) → es ≡ fs
unique from whole [] [] up_e up_f same = refl
unique from whole [] (f ∷ fs) up_e up_f same =
    let some : is_free (f ∷ fs) f.start ≡ true = free_in_first f fs f.start (omega arith) (omega (arith, up_f.1)) in
    let never : false ≡ true = same f.start ∙ some in absurd cc
unique from whole (e ∷ es) [] up_e up_f same =
    let some : is_free (e ∷ es) e.start ≡ true = free_in_first e es e.start (omega arith) (omega (arith, up_e.1)) in
    let never : true ≡ false = sym some ∙ same e.start in absurd cc
unique from whole (e ∷ es) (f ∷ fs) up_e up_f same =
    let back : (o : ℕ) → is_free (f ∷ fs) o ≡ is_free (e ∷ es) o = λ o. sym (same o) in
    let one : f.start ≤ e.start = no_later from whole e f es fs up_e up_f same in
    let two : e.start ≤ f.start = no_later from whole f e fs es up_f up_e back in
    let start : e.start ≡ f.start = omega arith in
    let three : end_of f ≤ end_of e = no_longer from whole e f es fs up_e up_f same start in
    let four : end_of e ≤ end_of f = no_longer from whole f e fs es up_f up_e back (sym start) in
    let len : e.len ≡ f.len = omega arith in
    let ends : end_of f + 1 ≡ end_of e + 1 = omega arith in
    let rest : es ≡ fs = unique (end_of e + 1) whole es fs up_e.3 (subst (λ x. Ascend x whole fs) ends up_f.3)
    (same_later whole e f es fs (omega arith) up_e.3 up_f.3 same) in
    λ i. record { start = start i; len = len i } ∷ rest i

pub one_list : (whole : ℕ) (free : ℕ → Bool) (es fs : List Extent) → AreMaximal whole free es → AreMaximal whole free fs → es ≡ fs
one_list whole free es fs a b = unique 0 whole es fs a.ascend b.ascend (λ o. a.free_in o ∙ sym (b.free_in o))

-- an extent of an ascending list begins where the list may
start_from : (from whole : ℕ) (es : List Extent) (k : ℕ) (e : Extent) → Ascend from whole es → slice_get es k ≡ Some e → from ≤ e.start
start_from from whole [] k e up is = absurd cc
start_from from whole (h ∷ es) zero e up is =
    let one : h ≡ e = cc in subst (λ (x : Extent). from ≤ x.start) one up.0
start_from from whole (h ∷ es) (suc k) e up is =
    let more : end_of h + 1 ≤ e.start = start_from (end_of h + 1) whole es k e up.3 is in omega (arith, up.0)

maximal_at : (from whole : ℕ) (es : List Extent) (k : ℕ) (e : Extent) → Ascend from whole es → slice_get es k ≡ Some e → IsMaximal (is_free es) e
maximal_at from whole [] k e up is = absurd cc
maximal_at from whole (h ∷ es) zero e up is =
    let one : h ≡ e = cc in
    subst (λ (x : Extent). IsMaximal (is_free (h ∷ es)) x) one (record {
      some = up.1;
      free_in = λ o ge lt. free_in_first h es o ge lt;
      before = λ o next. below_first from whole h es o up (omega arith);
      behind = behind_first from whole h es up;
    })
maximal_at from whole (h ∷ es) (suc k) e up is =
    let past : end_of h + 1 ≤ e.start = start_from (end_of h + 1) whole es k e up.3 is in
    let there : IsMaximal (is_free es) e = maximal_at (end_of h + 1) whole es k e up.3 is in
    record {
      some = there.some;
      free_in = λ o ge lt. or_true (is_within h.start h.len o) (is_free es o) (there.free_in o ge lt);
      before = λ o next. free_later h es o (omega arith) ∙ there.before o next;
      behind = free_later h es (end_of e) (omega arith) ∙ there.behind;
    }

pub each_maximal : (whole : ℕ) (free : ℕ → Bool) (es : List Extent) (k : ℕ) (e : Extent) → AreMaximal whole free es → slice_get es k ≡ Some e → IsMaximal free e
each_maximal whole free es k e all is =
    let here : IsMaximal (is_free es) e = maximal_at 0 whole es k e all.ascend is in
    record {
      some = here.some;
      free_in = λ o ge lt. sym (all.free_in o) ∙ here.free_in o ge lt;
      before = λ o next. sym (all.free_in o) ∙ here.before o next;
      behind = sym (all.free_in (end_of e)) ∙ here.behind;
    }
