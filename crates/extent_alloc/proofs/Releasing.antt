-- A range that is not free given back to the free extents.
use Rattle.std.proofs.Common.{◌≡◌, ◌≢◌, ◌⊎◌, inl, inr, ℕ, ◌+◌, ◌≤◌, ◌<◌, Bool, true, false, cond, List, [], ◌∷◌, refl, sym, ap, ◌∙◌, subst, arith}
use Rattle.std.specs.Prelude.{◌||◌, ◌==◌, IfSome, slice_get}
use Rattle.std.proofs.lemmas.Bool.{cases_lt}
use Rattle.std.proofs.lemmas.Bool.Decides.{nat_tests, eqb_tells}
use Rattle.view_types.specs.declared.extents.Extent.{Extent}
use Rattle.view_types.specs.Intervals.{end_of, is_within, is_free, NoneFree, Ascend, AreMaximal, with_range}
use Rattle.view_types.proofs.Intervals.{within_yes}
use Rattle.extent_alloc.specs.declared.pool.Link.{Link}
use Rattle.extent_alloc.specs.Chains.{unwind, extents_of}
use Rattle.extent_alloc.specs.Cuts.{EndBy, joined, joined_ahead, joined_in}
use Rattle.extent_alloc.proofs.Unwinding.{extents_of-unwind}
use Rattle.extent_alloc.proofs.Passing.{ascend_ahead}
use Rattle.extent_alloc.proofs.Replacing.{or_assoc, is_free-unwind, ascend_replaced, free_more}

-- the first extent ahead begins at the end of another, or behind it
abbrev pub StartFrom : ℕ → List Extent → Type 0
StartFrom offset [] = Unit {0}
StartFrom offset (a ∷ es) = offset ≤ a.start

or_last : (a b : Bool) → (a || b) ≡ (b || a)
or_last true true = refl
or_last true false = refl
or_last false true = refl
or_last false false = refl

within_joined : (s n m o : ℕ) (later : Bool) → (is_within s (n + m) o || later) ≡ ((is_within (s + n) m o || later) || is_within s n o)
within_joined s n m o true = one (is_within s (n + m) o) (is_within (s + n) m o) (is_within s n o)
  where
    one : (a b c : Bool) → (a || true) ≡ ((b || true) || c)
    one true true c = refl
    one true false c = refl
    one false true c = refl
    one false false c = refl
within_joined s n m o false = grind (arith, nat_tests)

ascend_joined : (f whole : ℕ) (e : Extent) (es : List Extent) → f ≤ e.start → 0 < e.len → end_of e ≤ whole → StartFrom (end_of e) es
    → Ascend 0 whole es → Ascend f whole (joined_ahead e es)
ascend_joined f whole e [] ge some le from up = (ge, some, le, tt)
ascend_joined f whole e (a ∷ es) ge some le from up = by (eqb_tells a.start (end_of e))
  where
    by : ((a.start == end_of e) ≡ true) × (a.start ≡ end_of e) ⊎ ((a.start == end_of e) ≡ false) × (a.start ≢ end_of e) → Ascend f whole (joined_ahead e (a ∷ es))
    by (inl touch) =
        let end : end_of (joined e a) ≡ end_of a = omega (arith, touch.1) in
        subst (λ b. Ascend f whole (cond b (joined e a ∷ es) (e ∷ a ∷ es))) (sym touch.0)
        (ge, omega arith, omega (arith, end, up.2), subst (λ x. Ascend (x + 1) whole es) (sym end) up.3)
    by (inr apart) =
        let more : end_of e + 1 ≤ a.start = omega (arith, apart.1) in
        subst (λ b. Ascend f whole (cond b (joined e a ∷ es) (e ∷ a ∷ es))) (sym apart.0) (ge, some, le, (more, up.1, up.2, up.3))

free_joined : (o : ℕ) (e : Extent) (es : List Extent) → is_free (joined_ahead e es) o ≡ (is_free es o || is_within e.start e.len o)
free_joined o e [] = or_last (is_within e.start e.len o) false
free_joined o e (a ∷ es) = by (eqb_tells a.start (end_of e))
  where
    by : ((a.start == end_of e) ≡ true) × (a.start ≡ end_of e) ⊎ ((a.start == end_of e) ≡ false) × (a.start ≢ end_of e)
        → is_free (joined_ahead e (a ∷ es)) o ≡ (is_free (a ∷ es) o || is_within e.start e.len o)
    by (inl touch) =
        (λ i. is_free (cond (touch.0 i) (joined e a ∷ es) (e ∷ a ∷ es)) o)
        ∙ within_joined e.start e.len a.len o (is_free es o)
        ∙ (λ i. (is_within (sym touch.1 i) a.len o || is_free es o) || is_within e.start e.len o)
    by (inr apart) =
        (λ i. is_free (cond (apart.0 i) (joined e a ∷ es) (e ∷ a ∷ es)) o)
        ∙ or_last (is_within e.start e.len o) (is_free (a ∷ es) o)

-- the list ahead of a range that is not free begins behind the range
starts_behind : (whole s n : ℕ) (es : List Extent) → 0 < n → Ascend 0 whole es → NoneFree (is_free es) s n → IfSome (slice_get es 0) (λ a. s < end_of a) → StartFrom (s + n) es
starts_behind whole s n [] some up none lt = tt
starts_behind whole s n (a ∷ es) some up none lt = by (cases_lt a.start (s + n)) (cases_lt a.start s)
  where
    met : (o : ℕ) → s ≤ o → o < s + n → a.start ≤ o → o < end_of a → s + n ≤ a.start
    met o ge below from to =
        let free : is_within a.start a.len o ≡ true = within_yes a.start a.len o from to in
        let not_free : (is_within a.start a.len o || is_free es o) ≡ false = none o ge below in
        let never : true ≡ false = (λ i. sym free i || is_free es o) ∙ not_free in absurd cc

    by : (a.start < s + n) ⊎ (s + n ≤ a.start) → (a.start < s) ⊎ (s ≤ a.start) → s + n ≤ a.start
    by (inr ge) which = ge
    by (inl below) (inl before) = met s (omega arith) (omega arith) (omega arith) lt
    by (inl below) (inr from) = met a.start from below (omega arith) (omega (arith, up.1))

grown : (b l n s o : ℕ) (later : Bool) → b + l ≡ s → (later || is_within b (l + n) o) ≡ ((is_within b l o || later) || is_within s n o)
grown b l n s o true touch = one (is_within b l o) (is_within s n o)
  where
    one : (x y : Bool) → true ≡ ((x || true) || y)
    one true y = refl
    one false y = refl
grown b l n s o false touch = grind (arith, nat_tests)

module _ (whole s n : ℕ) (some : 0 < n) (inside : s + n ≤ whole) where
  ascend_in : (done : List Link) (rest : List Extent) → EndBy s done → StartFrom (s + n) rest → Ascend 0 whole rest → Ascend 0 whole (unwind (extents_of done) rest)
      → Ascend 0 whole (joined_in (extents_of done) (record { start = s; len = n }) rest)
  ascend_in [] rest by from ahead up = ascend_joined 0 whole (record { start = s; len = n }) rest (omega arith) some inside from ahead
  ascend_in (b ∷ done) rest by from ahead up = split (eqb_tells (end_of b.extent) s)
    where
      split : ((end_of b.extent == s) ≡ true) × (end_of b.extent ≡ s) ⊎ ((end_of b.extent == s) ≡ false) × (end_of b.extent ≢ s)
          → Ascend 0 whole (joined_in (b.extent ∷ extents_of done) (record { start = s; len = n }) rest)
      split (inl touch) =
          let all : Extent = joined b.extent (record { start = s; len = n }) in
          let end : s + n ≡ end_of all = omega (arith, touch.1) in
          subst (λ t. Ascend 0 whole (unwind (extents_of done) (cond t (joined_ahead all rest) (b.extent ∷ joined_ahead (record { start = s; len = n }) rest)))) (sym touch.0)
          (ascend_replaced 0 whole (extents_of done) (b.extent ∷ rest) (joined_ahead all rest)
          (λ f u. ascend_joined f whole all rest u.0 (omega arith) (omega (arith, end)) (subst (λ x. StartFrom x rest) end from) ahead) up)
      split (inr apart) =
          let all : Extent = joined b.extent (record { start = s; len = n }) in
          let more : end_of b.extent + 1 ≤ s = omega (arith, by.0, apart.1) in
          subst (λ t. Ascend 0 whole (unwind (extents_of done) (cond t (joined_ahead all rest) (b.extent ∷ joined_ahead (record { start = s; len = n }) rest)))) (sym apart.0)
          (ascend_replaced 0 whole (extents_of done) (b.extent ∷ rest) (b.extent ∷ joined_ahead (record { start = s; len = n }) rest)
          (λ f u. (u.0, u.1, u.2, ascend_joined (end_of b.extent + 1) whole (record { start = s; len = n }) rest more some inside from ahead)) up)

free_in : (s n o : ℕ) (done : List Link) (rest : List Extent)
    → is_free (joined_in (extents_of done) (record { start = s; len = n }) rest) o ≡ (is_free (unwind (extents_of done) rest) o || is_within s n o)
free_in s n o [] rest = free_joined o (record { start = s; len = n }) rest
free_in s n o (b ∷ done) rest = split (eqb_tells (end_of b.extent) s)
  where
    split : ((end_of b.extent == s) ≡ true) × (end_of b.extent ≡ s) ⊎ ((end_of b.extent == s) ≡ false) × (end_of b.extent ≢ s)
        → is_free (joined_in (b.extent ∷ extents_of done) (record { start = s; len = n }) rest) o ≡ (is_free (unwind (extents_of done) (b.extent ∷ rest)) o || is_within s n o)
    split (inl touch) =
        let all : Extent = joined b.extent (record { start = s; len = n }) in
        (λ i. is_free (unwind (extents_of done) (cond (touch.0 i) (joined_ahead all rest) (b.extent ∷ joined_ahead (record { start = s; len = n }) rest))) o)
        ∙ free_more o s n (extents_of done) (b.extent ∷ rest) (joined_ahead all rest)
        (free_joined o all rest ∙ grown b.extent.start b.extent.len n s o (is_free rest o) touch.1)
    split (inr apart) =
        let all : Extent = joined b.extent (record { start = s; len = n }) in
        (λ i. is_free (unwind (extents_of done) (cond (apart.0 i) (joined_ahead all rest) (b.extent ∷ joined_ahead (record { start = s; len = n }) rest))) o)
        ∙ free_more o s n (extents_of done) (b.extent ∷ rest) (b.extent ∷ joined_ahead (record { start = s; len = n }) rest)
        (ap (λ t. is_within b.extent.start b.extent.len o || t) (free_joined o (record { start = s; len = n }) rest)
        ∙ sym (or_assoc (is_within b.extent.start b.extent.len o) (is_free rest o) (is_within s n o)))

right_false : (a b : Bool) → (a || b) ≡ false → b ≡ false
right_false true b e = absurd cc
right_false false b e = e

reached_extent : (s : ℕ) (rest : List Link) → IfSome (slice_get rest 0) (λ l. s < end_of l.extent) → IfSome (slice_get (extents_of rest) 0) (λ a. s < end_of a)
reached_extent s [] lt = tt
reached_extent s (l ∷ rest) lt = lt

-- the free extents with a range that met none of them
pub released : (whole : ℕ) (links done rest : List Link) (s n : ℕ) (new : List Extent) → 0 < n → s + n ≤ whole → Ascend 0 whole (extents_of links)
    → links ≡ unwind done rest → EndBy s done → IfSome (slice_get rest 0) (λ l. s < end_of l.extent) → NoneFree (is_free (extents_of links)) s n
    → new ≡ joined_in (extents_of done) (record { start = s; len = n }) (extents_of rest)
    → AreMaximal whole (with_range (is_free (extents_of links)) s n) new
released whole links done rest s n new some inside up is by lt none new_is =
    let was : extents_of links ≡ unwind (extents_of done) (extents_of rest) = ap extents_of is ∙ extents_of-unwind done rest in
    let up_was : Ascend 0 whole (unwind (extents_of done) (extents_of rest)) = subst (Ascend 0 whole) was up in
    let ahead : Ascend 0 whole (extents_of rest) = ascend_ahead 0 whole (extents_of done) (extents_of rest) up_was in
    let none_ahead : NoneFree (is_free (extents_of rest)) s n = λ o ge below.
    right_false (is_free (extents_of done) o) (is_free (extents_of rest) o)
    (sym (is_free-unwind o (extents_of done) (extents_of rest)) ∙ ap (λ es. is_free es o) (sym was) ∙ none o ge below) in
    let behind : StartFrom (s + n) (extents_of rest) = starts_behind whole s n (extents_of rest) some ahead none_ahead (reached_extent s rest lt) in
    record {
      ascend = subst (Ascend 0 whole) (sym new_is) (ascend_in whole s n some inside done (extents_of rest) by behind ahead up_was);
      free_in = λ o. ap (λ es. is_free es o) new_is ∙ free_in s n o done (extents_of rest) ∙ (λ i. is_free (sym was i) o || is_within s n o);
    }
