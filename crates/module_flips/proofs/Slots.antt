-- The slots below one that pass a test.
use Rattle.std.proofs.Common.{◌≡◌, ◌⊎◌, inl, inr, ℕ, zero, suc, ◌+◌, ◌<◌, ◌≤◌, Bool, true, false, ◌++◌, ◌∷◌, [], List, length, get_or, refl, sym, ap, subst, ◌∙◌, eq-eqb, eqb-true, arith}
use Rattle.std.specs.Prelude.{◌==◌, ◌||◌, if◌then◌else◌}
use Rattle.std.specs.List.{All}
use Rattle.std.proofs.lemmas.Bool.{cases_lt}
use Rattle.std.proofs.lemmas.List.{append-nil, get_or_append_left, get_or_push, length-append}
use Rattle.std.proofs.lemmas.List.Elements.{All-append, All-nil}
use Rattle.label_area.specs.Flips.{is_among}
use Rattle.region_labels.specs.SlotLabels.{AreApart}
use Rattle.module_flips.specs.Sweeps.{slots_below}

among-append : (xs ys : List ℕ) (k : ℕ) → is_among (xs ++ ys) k ≡ (is_among xs k || is_among ys k)
among-append [] ys k = refl
among-append (x ∷ xs) ys k = by (k == x) (among-append xs ys k)
  where
    by : (b : Bool) → is_among (xs ++ ys) k ≡ (is_among xs k || is_among ys k) → (b || is_among (xs ++ ys) k) ≡ ((b || is_among xs k) || is_among ys k)
    by true rest = refl
    by false rest = rest

apart : false ≡ true → ⊥
apart e = cc

or-true : (a b : Bool) → (a || b) ≡ true → (a ≡ true) ⊎ (b ≡ true)
or-true true b e = inl refl
or-true false b e = inr e

or-right : (a b : Bool) → b ≡ true → (a || b) ≡ true
or-right true b e = refl
or-right false b e = e

or-left : (a b : Bool) → a ≡ true → (a || b) ≡ true
or-left true b e = refl
or-left false b e = absurd (apart e)

abbrev last_slot : Bool → ℕ → List ℕ
last_slot passes n = if passes then n ∷ [] else []

last-true : (test : ℕ → Bool) (n k : ℕ) (t : Bool) → test n ≡ t → is_among (last_slot t n) k ≡ true → (k < suc n) × (test k ≡ true)
last-true test n k false is e = absurd (apart e)
last-true test n k true is e = elim (or-true (k == n) false e) [
  | inl same ↦ let at : k ≡ n = eqb-true k n same in (omega arith, ap test at ∙ is)
  | inr none ↦ absurd (apart none)
]

last-from : (n k : ℕ) (t : Bool) → k ≡ n → t ≡ true → is_among (last_slot t n) k ≡ true
last-from n k true at is = or-left (k == n) false (eq-eqb k n at)
last-from n k false at is = absurd (apart is)

-- the slots below one that pass a test are these
pub among-true : (test : ℕ → Bool) (n k : ℕ) → is_among (slots_below test n) k ≡ true → (k < n) × (test k ≡ true)
among-true test zero k e = absurd (apart e)
among-true test (suc n) k e = elim (or-true (is_among (slots_below test n) k) (is_among (last_slot (test n) n) k) (sym (among-append (slots_below test n) (last_slot (test n) n) k) ∙ e)) [
  | inl before ↦ let there = among-true test n k before in let lt : k < n = there.0 in (omega arith, there.1)
  | inr last ↦ last-true test n k (test n) refl last
]

pub among-from : (test : ℕ → Bool) (n k : ℕ) → k < n → test k ≡ true → is_among (slots_below test n) k ≡ true
among-from test zero k lt is = absurd (omega arith)
among-from test (suc n) k lt is = among-append (slots_below test n) (last_slot (test n) n) k ∙ elim (cases_lt k n) [
  | inl below ↦ or-left (is_among (slots_below test n) k) (is_among (last_slot (test n) n) k) (among-from test n k below is)
  | inr last ↦ let at : k ≡ n = omega arith in or-right (is_among (slots_below test n) k) (is_among (last_slot (test n) n) k) (last-from n k (test n) at (sym (ap test at) ∙ is))
]

-- the slots below one that pass a test pass it
pub passing : (test : ℕ → Bool) (fact : ℕ → Type 0) → ((k : ℕ) → test k ≡ true → fact k) → (n : ℕ) → All fact (slots_below test n)
passing test fact follows zero = All-nil fact
passing test fact follows (suc n) = All-append fact (slots_below test n) (if test n then n ∷ [] else []) (passing test fact follows n) (by (test n) refl)
  where
    by : (b : Bool) → test n ≡ b → All fact (if b then n ∷ [] else [])
    by true e = λ k d lt. let first : k ≡ 0 = omega arith in subst (λ j. fact (get_or (n ∷ []) j d)) (sym first) (follows n e)
    by false e = All-nil fact

below : (test : ℕ → Bool) (n : ℕ) → All (λ k. k < n) (slots_below test n)
below test zero = All-nil (λ k. k < 0)
below test (suc n) = All-append (λ k. k < suc n) (slots_below test n) (if test n then n ∷ [] else []) (λ k d lt. let less : get_or (slots_below test n) k d < n = below test n k d lt in omega arith) (by (test n))
  where
    by : (b : Bool) → All (λ k. k < suc n) (if b then n ∷ [] else [])
    by true = λ k d lt. let first : k ≡ 0 = omega arith in subst (λ j. get_or (n ∷ []) j d < suc n) (sym first) (omega arith)
    by false = All-nil (λ k. k < suc n)

-- they are no more than the slots
pub few-below : (test : ℕ → Bool) (n : ℕ) → length (slots_below test n) ≤ n
few-below test zero = omega arith
few-below test (suc n) = by (test n) (few-below test n)
  where
    by : (b : Bool) → length (slots_below test n) ≤ n → length (slots_below test n ++ (if b then n ∷ [] else [])) ≤ suc n
    by true less = let len : length (slots_below test n ++ n ∷ []) ≡ length (slots_below test n) + 1 = length-append (slots_below test n) (n ∷ []) in omega (arith, len, less)
    by false less = let len : length (slots_below test n ++ []) ≡ length (slots_below test n) + 0 = length-append (slots_below test n) [] in omega (arith, len, less)

-- and none stands there twice
pub below-apart : (test : ℕ → Bool) (n : ℕ) → AreApart (slots_below test n)
below-apart test zero = record { apart = λ i j less lt. absurd (omega arith) }
below-apart test (suc n) = by (test n) (slots_below test n) (below-apart test n) (below test n)
  where
    by : (b : Bool) (xs : List ℕ) → AreApart xs → All (λ k. k < n) xs → AreApart (xs ++ (if b then n ∷ [] else []))
    by false xs rest less = subst AreApart (sym (append-nil xs)) rest
    by true xs rest less = record {
      apart = λ i j i_lt j_lt same.
          let len : length (xs ++ n ∷ []) ≡ length xs + 1 = length-append xs (n ∷ []) in
          let i_at : get_or (xs ++ n ∷ []) i 0 ≡ get_or xs i 0 = get_or_append_left xs (n ∷ []) 0 i (omega arith) in
          elim (cases_lt j (length xs)) [
            | inl lt ↦ rest.apart i j i_lt lt (sym i_at ∙ same ∙ get_or_append_left xs (n ∷ []) 0 j lt)
            | inr le ↦
                let last : get_or (xs ++ n ∷ []) j 0 ≡ n = get_or_push xs n 0 j (omega arith) in
                let less_i : get_or xs i 0 < n = less i 0 (omega arith) in
                let equal : get_or xs i 0 ≡ n = sym i_at ∙ same ∙ last in
                absurd (omega arith)
          ];
    }
