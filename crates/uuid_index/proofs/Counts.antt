-- How many elements of a list pass a test, by their places.
use Rattle.std.proofs.Common.{◌≡◌, ◌≢◌, ℕ, zero, suc, ◌+◌, ◌≤◌, ◌<◌, Bool, true, false, cond, List, [], ◌∷◌, length, get_or, refl, ap, ◌∙◌, arith}
use Rattle.std.specs.Prelude.{count_by}
use Rattle.std.proofs.lemmas.List.Sums.{sum_by-cons}

module _ {X : Type 0} (p : X → Bool) where
  pub count_by-cons : (x : X) (xs : List X) → count_by p (x ∷ xs) ≡ cond (p x) 1 0 + count_by p xs
  count_by-cons x xs = sum_by-cons (λ y. cond (p y) 1 0) x xs

  one_more : (x : X) (xs : List X) → p x ≡ true → count_by p (x ∷ xs) ≡ 1 + count_by p xs
  one_more x xs here = count_by-cons x xs ∙ ap (λ b. cond {A = ℕ} b 1 0 + count_by p xs) here

  no_more : (x : X) (xs : List X) → p x ≡ false → count_by p (x ∷ xs) ≡ count_by p xs
  no_more x xs here =
      let e : count_by p (x ∷ xs) ≡ 0 + count_by p xs = count_by-cons x xs ∙ ap (λ b. cond {A = ℕ} b 1 0 + count_by p xs) here in omega arith

  pub count_by-none : (xs : List X) → ((k : ℕ) (d : X) → k < length xs → p (get_or xs k d) ≡ false) → count_by p xs ≡ 0
  count_by-none [] none = refl
  count_by-none (x ∷ xs) none =
      no_more x xs (none 0 x (omega arith)) ∙ count_by-none xs (λ k d lt. none (suc k) d (omega arith))

  pub count_by-once : (xs : List X) (at : ℕ) (e : X) → at < length xs → p (get_or xs at e) ≡ true → ((k : ℕ) (d : X) → k < length xs → k ≢ at → p (get_or xs k d) ≡ false) → count_by p xs ≡ 1
  count_by-once [] at e lt passes none = absurd (omega arith)
  count_by-once (x ∷ xs) zero e lt passes none =
      let here : count_by p (x ∷ xs) ≡ 1 + count_by p xs = one_more x xs passes in
      let there : count_by p xs ≡ 0 = count_by-none xs (λ k d below. none (suc k) d (omega arith) (omega arith)) in
      omega arith
  count_by-once (x ∷ xs) (suc at) e lt passes none =
      no_more x xs (none 0 x (omega arith) (omega arith)) ∙ count_by-once xs at e (omega arith) passes (λ k d below other. none (suc k) d (omega arith) (omega arith))

  pub count_by-some : (xs : List X) (at : ℕ) (e : X) → at < length xs → p (get_or xs at e) ≡ true → 1 ≤ count_by p xs
  count_by-some [] at e lt passes = absurd (omega arith)
  count_by-some (x ∷ xs) zero e lt passes =
      let here : count_by p (x ∷ xs) ≡ 1 + count_by p xs = one_more x xs passes in omega arith
  count_by-some (x ∷ xs) (suc at) e lt passes =
      let here : count_by p (x ∷ xs) ≡ cond (p x) 1 0 + count_by p xs = count_by-cons x xs in
      let there : 1 ≤ count_by p xs = count_by-some xs at e (omega arith) passes in
      omega arith

  pub count_by-twice : (xs : List X) (at : ℕ) (e : X) → suc at < length xs → p (get_or xs at e) ≡ true → p (get_or xs (suc at) e) ≡ true → 2 ≤ count_by p xs
  count_by-twice [] at e lt passes next = absurd (omega arith)
  count_by-twice (x ∷ xs) zero e lt passes next =
      let here : count_by p (x ∷ xs) ≡ 1 + count_by p xs = one_more x xs passes in
      let there : 1 ≤ count_by p xs = count_by-some xs 0 e (omega arith) next in
      omega arith
  count_by-twice (x ∷ xs) (suc at) e lt passes next =
      let here : count_by p (x ∷ xs) ≡ cond (p x) 1 0 + count_by p xs = count_by-cons x xs in
      let there : 2 ≤ count_by p xs = count_by-twice xs at e (omega arith) passes next in
      omega arith
