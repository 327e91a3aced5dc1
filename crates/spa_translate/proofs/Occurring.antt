-- A list of n numbers in which each number below n stands once.
use Rattle.std.proofs.Common.{◌≡◌, ℕ, zero, suc, ◌+◌, ◌<◌, ◌≤◌, Bool, true, false, cond, List, [], ◌∷◌, length, get_or, take, drop, refl, sym, ap, ◌∙◌, arith, inl, inr}
use Rattle.std.specs.Prelude.{◌==◌, nat_lt, All, count_by}
use Rattle.std.proofs.lemmas.List.{get_or-take, get_or-drop, length-take-le, length-drop}
use Rattle.std.proofs.lemmas.List.Elements.{All-nil, All-cons}
use Rattle.std.proofs.lemmas.List.Sums.{count_by-le-length, get_or-le-sum_by, sum_by-cons, sum_by-take-drop}
use Rattle.std.proofs.lemmas.Bool.{cases_order, eqb-true, ltb-true}
use Rattle.std.proofs.lemmas.Bool.Decides.{nat_tests}

-- how often a number stands in a list, and how many of its numbers are below one
abbrev pub count : List ℕ → ℕ → ℕ
count xs line = count_by (λ x. x == line) xs

abbrev below : List ℕ → ℕ → ℕ
below xs k = count_by (λ x. nat_lt x k) xs

none_here : (x : ℕ) → cond {A = ℕ} (nat_lt x 0) 1 0 ≡ 0
none_here x = grind (arith, nat_tests)

one_more_here : (x k : ℕ) → cond {A = ℕ} (nat_lt x (suc k)) 1 0 ≡ cond {A = ℕ} (nat_lt x k) 1 0 + cond {A = ℕ} (x == k) 1 0
one_more_here x k = grind (arith, nat_tests)

none_below : (xs : List ℕ) → below xs 0 ≡ 0
none_below [] = refl
none_below (x ∷ xs) =
    let more = sum_by-cons (λ (y : ℕ). cond {A = ℕ} (nat_lt y 0) 1 0) x xs in
    omega (arith, more, none_here x, none_below xs)

one_more_below : (xs : List ℕ) (k : ℕ) → below xs (suc k) ≡ below xs k + count xs k
one_more_below [] k = refl
one_more_below (x ∷ xs) k =
    let a = sum_by-cons (λ (y : ℕ). cond {A = ℕ} (nat_lt y (suc k)) 1 0) x xs in
    let b = sum_by-cons (λ (y : ℕ). cond {A = ℕ} (nat_lt y k) 1 0) x xs in
    let c = sum_by-cons (λ (y : ℕ). cond {A = ℕ} (y == k) 1 0) x xs in
    omega (arith, a, b, c, one_more_here x k, one_more_below xs k)

all_below : (xs : List ℕ) (n k : ℕ) → ((line : ℕ) → line < n → count xs line ≡ 1) → k ≤ n → below xs k ≡ k
all_below xs n zero once le = none_below xs
all_below xs n (suc k) once le =
    let rest = all_below xs n k once (omega (arith, le)) in
    let here = once k (omega (arith, le)) in
    omega (arith, one_more_below xs k, rest, here)

pass_here : (b : Bool) (c n : ℕ) → suc n ≤ cond {A = ℕ} b 1 0 + c → c ≤ n → (b ≡ true) × (n ≤ c)
pass_here true c n h le = (refl, omega (arith, h))
pass_here false c n h le = absurd (omega (arith, h, le))

-- a test that counts all items passes each
all_pass : (p : ℕ → Bool) (xs : List ℕ) → length xs ≤ count_by p xs → All (λ x. p x ≡ true) xs
all_pass p [] h = All-nil (λ x. p x ≡ true)
all_pass p (x ∷ xs) h =
    let more = sum_by-cons (λ (y : ℕ). cond {A = ℕ} (p y) 1 0) x xs in
    let both = pass_here (p x) (count_by p xs) (length xs) (omega (arith, more, h)) (count_by-le-length p xs) in
    All-cons (λ y. p y ≡ true) x xs both.0 (all_pass p xs both.1)

-- each number of the list is below n
pub once_below : (xs : List ℕ) (n i : ℕ) → length xs ≡ n → ((line : ℕ) → line < n → count xs line ≡ 1) → i < n → get_or xs i 0 < n
once_below xs n i long once below =
    let all = all_below xs n n once (omega arith) in
    ltb-true (get_or xs i 0) n (all_pass (λ x. nat_lt x n) xs (omega (arith, all, long)) i 0 (omega (arith, long, below)))

equal : (n : ℕ) → (n == n) ≡ true
equal n = grind arith

-- two places before and behind each other have a number twice
twice : (xs : List ℕ) (i j : ℕ) → i < j → j < length xs → get_or xs i 0 ≡ get_or xs j 0 → 2 ≤ count xs (get_or xs i 0)
twice xs i j before below same =
    let one : ℕ → ℕ = λ y. cond {A = ℕ} (y == get_or xs i 0) 1 0 in
    let split = sum_by-take-drop one xs j in
    let first = get_or-le-sum_by one (take j xs) i 0 (let l : length (take j xs) ≡ j = length-take-le j xs (omega arith) in omega arith) in
    let second = get_or-le-sum_by one (drop j xs) 0 0 (let l = length-drop j xs in omega arith) in
    let at_first : get_or (take j xs) i 0 ≡ get_or xs i 0 = get_or-take j xs i 0 before in
    let at_second : get_or (drop j xs) 0 0 ≡ get_or xs j 0 = get_or-drop j xs 0 0 ∙ ap (λ (k : ℕ). get_or xs k 0) (omega arith) in
    let one_first : one (get_or (take j xs) i 0) ≡ 1 = rw (at_first, equal (get_or xs i 0)) refl in
    let one_second : one (get_or (drop j xs) 0 0) ≡ 1 = rw (at_second, ← same, equal (get_or xs i 0)) refl in
    omega (arith, split, first, second, one_first, one_second)

-- no number stands at two places
pub once_apart : (xs : List ℕ) (n i j : ℕ) → length xs ≡ n → ((line : ℕ) → line < n → count xs line ≡ 1) → i < n → j < n → get_or xs i 0 ≡ get_or xs j 0 → i ≡ j
once_apart xs n i j long once below below' same =
    elim (cases_order i j) [
      | inl is ↦ is
      | inr either ↦ elim either [
        | inl before ↦
            let two = twice xs i j before (omega (arith, long, below')) same in
            let one = once (get_or xs i 0) (once_below xs n i long once below) in
            absurd (omega (arith, two, one))
        | inr behind ↦
            let two = twice xs j i behind (omega (arith, long, below)) (sym same) in
            let one = once (get_or xs j 0) (once_below xs n j long once below') in
            absurd (omega (arith, two, one))
      ]
    ]

-- a number that is counted stands somewhere
abbrev pub Stands : List ℕ → ℕ → Type 0
Stands xs line = (i : ℕ) × (i < length xs) × (get_or xs i 0 ≡ line)

found_here : (b : Bool) (x line : ℕ) (xs : List ℕ) → (x == line) ≡ b → (0 < count xs line → Stands xs line) → 0 < cond {A = ℕ} b 1 0 + count xs line → Stands (x ∷ xs) line
found_here true x line xs is rest some = (0, omega arith, eqb-true x line is)
found_here false x line xs is rest some = let there = rest (omega (arith, some)) in (suc there.0, omega (arith, there.1), there.2)

pub found : (xs : List ℕ) (line : ℕ) → 0 < count xs line → Stands xs line
found [] line some = absurd (omega (arith, some))
found (x ∷ xs) line some =
    let more : count (x ∷ xs) line ≡ cond {A = ℕ} (x == line) 1 0 + count xs line = sum_by-cons (λ (y : ℕ). cond {A = ℕ} (y == line) 1 0) x xs in
    found_here (x == line) x line xs refl (found xs line) (omega (arith, more, some))
