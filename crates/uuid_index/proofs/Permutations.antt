-- Lists that have each element equally often are permutations, so a common element can be left out.
use Rattle.std.proofs.Common.{◌≡◌, ℕ, suc, ◌+◌, ◌<◌, ◌≤◌, Bool, true, false, cond, List, [], ◌∷◌, length, get_or, refl, sym, arith}
use Rattle.std.specs.Prelude.{count_by}
use Rattle.std.specs.List.{remove}
use Rattle.std.specs.List.Sorted.{IsPermutation}
use Rattle.std.proofs.lemmas.List.Sorted.{IsPermutation-cons, IsPermutation-refl, IsPermutation-remove, IsPermutation-sym, IsPermutation-trans, sum_by-IsPermutation, sum_by_popped}
use Rattle.uuid_index.proofs.Counts.{count_by-cons, count_by-some}

-- an element that passes a test, where there is one
record Passing {X : Type 0} (p : X → Bool) (xs : List X) : Type 0 where
  place : ℕ
  within : place < length xs
  passes : (d : X) → p (get_or xs place d) ≡ true

passing : {X : Type 0} (p : X → Bool) (xs : List X) → 1 ≤ count_by p xs → Passing p xs
passing p [] some = absurd (omega arith)
passing {X} p (x ∷ xs) some = by (p x) refl (passing p xs)
  where
    by : (b : Bool) → p x ≡ b → (1 ≤ count_by p xs → Passing p xs) → Passing p (x ∷ xs)
    by true e later = record { place = 0; within = omega arith; passes = λ d. e }
    by false e later =
        let parts : count_by p (x ∷ xs) ≡ cond {A = ℕ} (p x) 1 0 + count_by p xs = count_by-cons p x xs in
        let here : cond {A = ℕ} (p x) 1 0 ≡ 0 = rw e refl in
        let rest = later (omega arith) in
        record { place = suc rest.place; within = let lt = rest.within in omega arith; passes = rest.passes }

module _ {X : Type 0} (same : X → X → Bool) (equal : (x y : X) → same x y ≡ true → y ≡ x) (itself : (x : X) → same x x ≡ true) where
  permutation_by_counts : (xs ys : List X) → ((x : X) → count_by (same x) xs ≡ count_by (same x) ys) → IsPermutation xs ys
  permutation_by_counts [] [] counts = IsPermutation-refl []
  permutation_by_counts [] (y ∷ ys) counts =
      let none = counts y in
      let some = count_by-some (same y) (y ∷ ys) 0 y (omega arith) (itself y) in
      absurd (omega arith)
  permutation_by_counts (x ∷ xs) ys counts =
      let some = count_by-some (same x) (x ∷ xs) 0 x (omega arith) (itself x) in
      let both = counts x in
      let there = passing (same x) ys (omega arith) in
      let moved : IsPermutation ys (x ∷ remove ys there.place) = IsPermutation-remove ys there.place x there.within (sym (equal x (get_or ys there.place x) (there.passes x))) in
      let rest : IsPermutation xs (remove ys there.place) = permutation_by_counts xs (remove ys there.place) (λ z.
      let left = count_by-cons (same z) x xs in
      let right = sum_by_popped (λ y. cond (same z y) 1 0) x ys (remove ys there.place) moved in
      let each = counts z in
      omega arith) in
      IsPermutation-trans _ _ _ (IsPermutation-cons x _ _ rest) (IsPermutation-sym _ _ moved)

  pub permutation-cancel : (x : X) (xs ys : List X) → IsPermutation (x ∷ xs) (x ∷ ys) → IsPermutation xs ys
  permutation-cancel x xs ys moved = permutation_by_counts xs ys (λ z.
      let left = count_by-cons (same z) x xs in
      let right = count_by-cons (same z) x ys in
      let each = sum_by-IsPermutation (λ y. cond (same z y) 1 0) (x ∷ xs) (x ∷ ys) moved in
      omega arith)
