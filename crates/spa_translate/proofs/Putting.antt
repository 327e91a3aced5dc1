-- Extents with a range behind them.
use Rattle.std.proofs.Common.{◌≡◌, ℕ, ◌+◌, ◌<◌, ◌≤◌, Bool, true, false, List, [], ◌∷◌, ◌++◌, refl, sym, ap, subst, ◌∙◌, append_assoc, arith, inl, inr}
use Rattle.std.specs.Prelude.{◌&&◌, ◌||◌, ◌⊎◌, nat_le}
use Rattle.std.proofs.lemmas.Bool.{cases_lt, le-leb, le-ltb, lt-leb, lt-ltb}
use Rattle.view_types.specs.declared.extents.Extent.{Extent}
use Rattle.view_types.specs.Intervals.{Ascend, end_of, is_free, is_within}
use Rattle.spa_translate.specs.Runs.{IsPutAt}

-- the end of ascending extents, changed
change_end : (done tail tail' : List Extent) (a f g : ℕ) → ((b : ℕ) → Ascend b f tail → Ascend b g tail') → f ≤ g → Ascend a f (done ++ tail) → Ascend a g (done ++ tail')
change_end [] tail tail' a f g change le is = change a is
change_end (e ∷ done) tail tail' a f g change le is = (is.0, is.1, omega (arith, is.2, le), change_end done tail tail' (end_of e + 1) f g change le is.3)

pub longer : (es : List Extent) (a f g : ℕ) → f ≤ g → Ascend a f es → Ascend a g es
longer [] a f g le is = tt
longer (e ∷ es) a f g le is = (is.0, is.1, omega (arith, is.2, le), longer es (end_of e + 1) f g le is.3)

or_assoc : (a b c : Bool) → (a || (b || c)) ≡ ((a || b) || c)
or_assoc true b c = refl
or_assoc false b c = refl

pub or_none : (a : Bool) → (a || false) ≡ a
or_none true = refl
or_none false = refl

free_append : (done tail : List Extent) (o : ℕ) → is_free (done ++ tail) o ≡ (is_free done o || is_free tail o)
free_append [] tail o = refl
free_append (e ∷ done) tail o = ap (λ (b : Bool). is_within e.start e.len o || b) (free_append done tail o) ∙ or_assoc (is_within e.start e.len o) (is_free done o) (is_free tail o)

-- where a number is in a range
pub inside : (start len o : ℕ) → start ≤ o → o < start + len → is_within start len o ≡ true
inside start len o from below = rw (le-leb start o from, lt-ltb o (start + len) below) refl

pub before : (start len o : ℕ) → o < start → is_within start len o ≡ false
before start len o lt = rw (lt-leb start o lt) refl

and_false : (a : Bool) → (a && false) ≡ false
and_false true = refl
and_false false = refl

pub behind : (start len o : ℕ) → start + len ≤ o → is_within start len o ≡ false
behind start len o le = rw (le-ltb o (start + len) le) (and_false (nat_le start o))

-- two ranges that touch
joined : (start len more o : ℕ) → is_within start (len + more) o ≡ (is_within start len o || is_within (start + len) more o)
joined start len more o = elim (cases_lt o start) [
  | inl lt ↦ rw (before start (len + more) o lt, before start len o lt, before (start + len) more o (omega (arith, lt))) refl
  | inr from ↦ elim (cases_lt o (start + len)) [
    | inl lt ↦ rw (inside start (len + more) o from (omega (arith, lt)), inside start len o from lt) refl
    | inr past ↦ elim (cases_lt o (start + len + more)) [
      | inl lt ↦ rw (inside start (len + more) o from (omega (arith, lt)), behind start len o past, inside (start + len) more o past lt) refl
      | inr out ↦ rw (behind start (len + more) o (omega (arith, out)), behind start len o past, behind (start + len) more o out) refl
    ]
  ]
]

-- nothing more
pub put_none : (old : List Extent) (start len : ℕ) → len ≡ 0 → IsPutAt old start len old
put_none old start len none = record {
  ascend = λ whole is le. longer old 0 whole (start + len) (omega (arith, le)) is;
  free_in = λ o. (let out : is_within start len o ≡ false = out_of o (cases_lt o start) in rw out (sym (or_none (is_free old o))));
}
  where
    out_of : (o : ℕ) → (o < start) ⊎ (start ≤ o) → is_within start len o ≡ false
    out_of o (inl lt) = before start len o lt
    out_of o (inr le) = behind start len o (omega (arith, le, none))

-- the first range
pub put_first : (start len : ℕ) → 0 < len → IsPutAt [] start len (record { start = start; len = len } ∷ [])
put_first start len some = record {
  ascend = λ whole is le. (omega arith, some, omega arith, tt);
  free_in = λ o. or_none (is_within start len o);
}

-- behind an extent that ends where it starts
pub put_joined : (done : List Extent) (e : Extent) (start len : ℕ) → end_of e ≡ start → IsPutAt (done ++ e ∷ []) start len (done ++ record { start = e.start; len = e.len + len } ∷ [])
put_joined done e start len touch = record {
  ascend = λ whole is le.
      change_end done (e ∷ []) (record { start = e.start; len = e.len + len } ∷ []) 0 whole (start + len)
      (λ b here. (here.0, omega (arith, here.1), omega (arith, touch), tt)) (omega (arith, le)) is;
  free_in = λ o.
      let new = free_append done (record { start = e.start; len = e.len + len } ∷ []) o in
      let old = free_append done (e ∷ []) o in
      let at : is_within e.start (e.len + len) o ≡ (is_within e.start e.len o || is_within start len o) = joined e.start e.len len o ∙ ap (λ (x : ℕ). is_within e.start e.len o || is_within x len o) touch in
      new ∙ (rw (at, old) (three (is_free done o) (is_within e.start e.len o) (is_within start len o)));
}
  where
    three : (a b c : Bool) → (a || ((b || c) || false)) ≡ ((a || (b || false)) || c)
    three true b c = refl
    three false true c = refl
    three false false c = or_none c

-- behind an extent that ends before it
pub put_behind : (done : List Extent) (e : Extent) (start len : ℕ) → (end_of e ≡ start → ⊥) → 0 < len → IsPutAt (done ++ e ∷ []) start len ((done ++ e ∷ []) ++ record { start = start; len = len } ∷ [])
put_behind done e start len apart some = record {
  ascend = λ whole is le.
      subst (λ (xs : List Extent). Ascend 0 (start + len) xs) (sym (append_assoc done (e ∷ []) (record { start = start; len = len } ∷ [])))
      (change_end done (e ∷ []) (e ∷ record { start = start; len = len } ∷ []) 0 whole (start + len)
      (λ b here. (here.0, here.1, omega (arith, here.2, le), (omega (arith, here.2, le, apart), some, omega arith, tt))) (omega (arith, le)) is);
  free_in = λ o. free_append (done ++ e ∷ []) (record { start = start; len = len } ∷ []) o ∙ ap (λ (b : Bool). is_free (done ++ e ∷ []) o || b) (or_none (is_within start len o));
}
