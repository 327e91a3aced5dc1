-- Lists of intervals, and the offsets that are in them.
use Rattle.std.proofs.Common.{◌≡◌, ◌⊎◌, inl, inr, ℕ, ◌+◌, ◌≤◌, ◌<◌, Bool, true, false, List, [], ◌∷◌, refl, sym, ◌∙◌, arith}
use Rattle.std.specs.Prelude.{◌||◌}
use Rattle.std.proofs.lemmas.Bool.{cases_lt}
use Rattle.std.proofs.lemmas.Bool.Decides.{nat_tests}
use Rattle.view_types.specs.declared.extents.Extent.{Extent}
use Rattle.view_types.specs.Intervals.{end_of, is_within, is_free, AllFree, Ascend, IsInside}

pub within_yes : (s n o : ℕ) → s ≤ o → o < s + n → is_within s n o ≡ true
within_yes s n o a b = grind (arith, nat_tests)

pub within_below : (s n o : ℕ) → o < s → is_within s n o ≡ false
within_below s n o a = grind (arith, nat_tests)

pub within_above : (s n o : ℕ) → s + n ≤ o → is_within s n o ≡ false
within_above s n o a = grind (arith, nat_tests)

-- nothing is free below the first extent
pub none_below : (from whole : ℕ) (es : List Extent) (o : ℕ) → Ascend from whole es → o < from → is_free es o ≡ false
none_below from whole [] o up lt = refl
none_below from whole (e ∷ es) o up lt =
    let here : is_within e.start e.len o ≡ false = within_below e.start e.len o (omega (arith, up.0)) in
    let there : is_free es o ≡ false = none_below (end_of e + 1) whole es o up.3 (omega (arith, up.0)) in
    λ i. here i || there i

pub ascend_from : (from a whole : ℕ) (es : List Extent) → from ≤ a → Ascend a whole es → Ascend from whole es
ascend_from from a whole [] le up = tt
ascend_from from a whole (e ∷ es) le up = (omega (arith, up.0), up.1, up.2, up.3)

-- an offset up to the first extent's end is free only within it
pub free_first : (from whole : ℕ) (e : Extent) (es : List Extent) (o : ℕ) → Ascend from whole (e ∷ es) → o ≤ end_of e → is_free (e ∷ es) o ≡ is_within e.start e.len o
free_first from whole e es o up le =
    let none : is_free es o ≡ false = none_below (end_of e + 1) whole es o up.3 (omega arith) in
    (λ i. is_within e.start e.len o || none i) ∙ or_false (is_within e.start e.len o)
  where
    or_false : (b : Bool) → (b || false) ≡ b
    or_false true = refl
    or_false false = refl

-- past the first extent, what is free is free in the others
pub free_later : (e : Extent) (es : List Extent) (o : ℕ) → end_of e ≤ o → is_free (e ∷ es) o ≡ is_free es o
free_later e es o past = λ i. within_above e.start e.len o past i || is_free es o

-- a free range that begins before the end of the first extent lies in it
pub inside_first : (from whole : ℕ) (e : Extent) (es : List Extent) (s n : ℕ) → Ascend from whole (e ∷ es) → 0 < n → AllFree (is_free (e ∷ es)) s n → s < end_of e → IsInside e s n
inside_first from whole e es s n up some free lt = record { starts = starts (cases_lt s e.start); ends = ends (cases_lt (end_of e) (s + n)) }
  where
    within : (o : ℕ) → s ≤ o → o < s + n → o ≤ end_of e → is_within e.start e.len o ≡ true
    within o a b le = sym (free_first from whole e es o up le) ∙ free o a b

    starts : (s < e.start) ⊎ (e.start ≤ s) → e.start ≤ s
    starts (inr le) = le
    starts (inl below) =
        let t : is_within e.start e.len s ≡ true = within s (omega arith) (omega arith) (omega arith) in
        let f : is_within e.start e.len s ≡ false = within_below e.start e.len s below in
        absurd cc

    ends : (end_of e < s + n) ⊎ (s + n ≤ end_of e) → s + n ≤ end_of e
    ends (inr le) = le
    ends (inl past) =
        let t : is_within e.start e.len (end_of e) ≡ true = within (end_of e) (omega arith) past (omega arith) in
        let f : is_within e.start e.len (end_of e) ≡ false = within_above e.start e.len (end_of e) (omega arith) in
        absurd cc

pub or_true : (a b : Bool) → b ≡ true → (a || b) ≡ true
or_true true b e = refl
or_true false b e = e
