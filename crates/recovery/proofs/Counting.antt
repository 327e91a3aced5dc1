-- Fewer elements of a list pass a test that fails one more of them.
use Rattle.std.proofs.Common.{◌≡◌, ℕ, ◌+◌, ◌<◌, ◌≤◌, Bool, true, false, cond, List, [], ◌∷◌, refl, sym, ap, ◌∙◌, inl, inr, arith}
use Rattle.std.specs.Prelude.{count_by}
use Rattle.std.specs.List.{Contains}
use Rattle.std.proofs.lemmas.List.Sums.{sum_by-cons}
use Rattle.label_table.proofs.ListTests.{Contains-cases, Contains-none}

abbrev weight : Bool → ℕ
weight b = cond {A = ℕ} b 1 0

weight-le : (b c : Bool) → (c ≡ true → b ≡ true) → weight c ≤ weight b
weight-le true true f = omega arith
weight-le true false f = omega arith
weight-le false true f = absurd (never (f refl))
  where
    never : false ≡ true → ⊥
    never e = cc
weight-le false false f = omega arith

module _ {X : Type 0} (p q : X → Bool) (implies : (x : X) → q x ≡ true → p x ≡ true) where
  pub count-le : (xs : List X) → count_by q xs ≤ count_by p xs
  count-le [] = omega arith
  count-le (x ∷ xs) =
      let rest : count_by q xs ≤ count_by p xs = count-le xs in
      let here : weight (q x) ≤ weight (p x) = weight-le (p x) (q x) (implies x) in
      let a : count_by q (x ∷ xs) ≡ weight (q x) + count_by q xs = sum_by-cons (λ y. cond (q y) 1 0) x xs in
      let b : count_by p (x ∷ xs) ≡ weight (p x) + count_by p xs = sum_by-cons (λ y. cond (p y) 1 0) x xs in
      omega (arith, rest, here, a, b)

  pub count-less : (xs : List X) (x : X) → Contains xs x → p x ≡ true → q x ≡ false → count_by q xs < count_by p xs
  count-less [] x c passes fails = Contains-none x c
  count-less (y ∷ xs) x c passes fails =
      let a : count_by q (y ∷ xs) ≡ weight (q y) + count_by q xs = sum_by-cons (λ z. cond (q z) 1 0) y xs in
      let b : count_by p (y ∷ xs) ≡ weight (p y) + count_by p xs = sum_by-cons (λ z. cond (p z) 1 0) y xs in
      elim (Contains-cases y xs x c) [
        | inl is ↦
            let rest : count_by q xs ≤ count_by p xs = count-le xs in
            let one : weight (p y) ≡ 1 = ap weight (ap p (sym is) ∙ passes) in
            let none : weight (q y) ≡ 0 = ap weight (ap q (sym is) ∙ fails) in
            omega (arith, rest, one, none, a, b)
        | inr there ↦
            let rest : count_by q xs < count_by p xs = count-less xs x there passes fails in
            let here : weight (q y) ≤ weight (p y) = weight-le (p y) (q y) (implies y) in
            omega (arith, rest, here, a, b)
      ]

-- none is counted where none passes
pub count-none : {X : Type 0} (p : X → Bool) → ((x : X) → p x ≡ false) → (xs : List X) → count_by p xs ≡ 0
count-none p none [] = refl
count-none p none (x ∷ xs) =
    let rest : count_by p xs ≡ 0 = count-none p none xs in
    let here : weight (p x) ≡ 0 = ap weight (none x) in
    let a : count_by p (x ∷ xs) ≡ weight (p x) + count_by p xs = sum_by-cons (λ y. cond (p y) 1 0) x xs in
    omega (arith, rest, here, a)
