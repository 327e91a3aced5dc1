-- Lemmas on tests of the elements of lists, and on uuids.
use Rattle.std.proofs.Common.{◌≡◌, ◌≢◌, ◌⊎◌, inl, inr, ⊎_elim, ℕ, zero, suc, ◌<◌, ◌≤◌, Bool, true, false, not, List, [], ◌∷◌, length, get_or, Option, Some, None, find, cond, refl, sym, ap, subst, ◌∙◌, arith}
use Rattle.std.specs.Prelude.{◌||◌, ◌==◌, nat_lt, nat_le}
use Rattle.std.specs.List.{Contains, list_all, list_any}
use Rattle.std.specs.Str.{bytes_eq}
use Rattle.std.proofs.lemmas.Bool.{and_parts, and_from}
use Rattle.std.proofs.lemmas.Slice.Eq.{bytes_eq-Decides}

pub not_true : (b : Bool) → not b ≡ true → b ≡ false
not_true true e = absurd cc
not_true false e = refl

pub both : (b : Bool) → (b ≡ true) ⊎ (b ≡ false)
both true = inl refl
both false = inr refl

pub never : {A : Type 0} → (b : Bool) → b ≡ true → b ≡ false → A
never b t f = absurd cc

-- the elements of a list, from its head on
pub Contains-here : {X : Type 0} (x : X) (xs : List X) → Contains (x ∷ xs) x
Contains-here x xs = (zero, omega arith, refl)

pub Contains-there : {X : Type 0} (y : X) (xs : List X) (x : X) → Contains xs x → Contains (y ∷ xs) x
Contains-there y xs x there = (suc there.0, (let lt : there.0 < length xs = there.1 in omega arith), there.2)

pub Contains-cases : {X : Type 0} (y : X) (xs : List X) (x : X) → Contains (y ∷ xs) x → (x ≡ y) ⊎ Contains xs x
Contains-cases y xs x c = by c.0 c.1 c.2
  where
    by : (k : ℕ) → k < length (y ∷ xs) → get_or (y ∷ xs) k x ≡ x → (x ≡ y) ⊎ Contains xs x
    by zero lt e = inl (sym e)
    by (suc k) lt e = inr (k, omega arith, e)

pub Contains-none : {A X : Type 0} (x : X) → Contains [] x → A
Contains-none x c = absurd (let lt : c.0 < 0 = c.1 in omega arith)

pub Contains-get_or : {X : Type 0} (xs : List X) (k : ℕ) (d : X) → k < length xs → Contains xs (get_or xs k d)
Contains-get_or [] k d lt = absurd (omega arith)
Contains-get_or (x ∷ xs) zero d lt = Contains-here x xs
Contains-get_or (x ∷ xs) (suc k) d lt = Contains-there x xs (get_or xs k d) (Contains-get_or xs k d (omega arith))

pub list_all-at : {X : Type 0} (p : X → Bool) (xs : List X) (x : X) → list_all p xs ≡ true → Contains xs x → p x ≡ true
list_all-at p [] x e here = Contains-none x here
list_all-at p (y ∷ ys) x e here =
    let parts = and_parts (p y) (list_all p ys) e in
    ⊎_elim (λ is. ap p is ∙ parts.0) (λ there. list_all-at p ys x parts.1 there) (Contains-cases y ys x here)

pub list_all-from : {X : Type 0} (p : X → Bool) (xs : List X) → ((x : X) → Contains xs x → p x ≡ true) → list_all p xs ≡ true
list_all-from p [] each = refl
list_all-from p (y ∷ ys) each =
    let here : p y ≡ true = each y (Contains-here y ys) in
    let there : list_all p ys ≡ true = list_all-from p ys (λ x is. each x (Contains-there y ys x is)) in
    and_from (p y) (list_all p ys) here there

pub list_all-same : {X : Type 0} (p q : X → Bool) (xs : List X) → ((x : X) → Contains xs x → p x ≡ q x) → list_all p xs ≡ list_all q xs
list_all-same p q [] same = refl
list_all-same p q (y ∷ ys) same =
    let here : p y ≡ q y = same y (Contains-here y ys) in
    let there : list_all p ys ≡ list_all q ys = list_all-same p q ys (λ x is. same x (Contains-there y ys x is)) in
    cc

pub list_any-same : {X : Type 0} (p q : X → Bool) (xs : List X) → ((x : X) → Contains xs x → p x ≡ q x) → list_any p xs ≡ list_any q xs
list_any-same p q [] same = refl
list_any-same p q (y ∷ ys) same =
    let here : p y ≡ q y = same y (Contains-here y ys) in
    let there : list_any p ys ≡ list_any q ys = list_any-same p q ys (λ x is. same x (Contains-there y ys x is)) in
    cc

or_none : (x y : Bool) → (x || y) ≡ false → (x ≡ false) × (y ≡ false)
or_none true y e = absurd cc
or_none false y e = (refl, e)

pub list_any-none : {X : Type 0} (p : X → Bool) (xs : List X) (x : X) → list_any p xs ≡ false → Contains xs x → p x ≡ false
list_any-none p [] x e here = Contains-none x here
list_any-none p (y ∷ ys) x e here =
    let parts = or_none (p y) (list_any p ys) e in
    ⊎_elim (λ is. ap p is ∙ parts.0) (λ there. list_any-none p ys x parts.1 there) (Contains-cases y ys x here)

pub list_any-never : {X : Type 0} (p : X → Bool) (xs : List X) → ((x : X) → Contains xs x → p x ≡ false) → list_any p xs ≡ false
list_any-never p [] none = refl
list_any-never p (y ∷ ys) none =
    let here : p y ≡ false = none y (Contains-here y ys) in
    let there : list_any p ys ≡ false = list_any-never p ys (λ x is. none x (Contains-there y ys x is)) in
    rw (here, there) refl

pub list_any-found : {X : Type 0} (p : X → Bool) (xs : List X) → list_any p xs ≡ true → (x : X) × Contains xs x × (p x ≡ true)
list_any-found p [] e = absurd cc
list_any-found p (y ∷ ys) e = by (λ t. list_any-found p ys t) (p y) refl e
  where
    by : (list_any p ys ≡ true → (x : _) × Contains ys x × (p x ≡ true)) → (b : Bool) → p y ≡ b → (b || list_any p ys) ≡ true → (x : _) × Contains (y ∷ ys) x × (p x ≡ true)
    by rest true here t = (y, Contains-here y ys, here)
    by rest false here t = let found = rest t in (found.0, Contains-there y ys found.0 found.1, found.2)

pub list_any-at : {X : Type 0} (p : X → Bool) (xs : List X) (x : X) → Contains xs x → p x ≡ true → list_any p xs ≡ true
list_any-at p xs x here t = elim (both (list_any p xs)) [
  | inl e ↦ e
  | inr f ↦ never (p x) t (list_any-none p xs x f here)
]

-- a longer list of reasons
pub list_any-more : {X : Type 0} (p q : X → Bool) (xs : List X) → ((x : X) → Contains xs x → p x ≡ true → q x ≡ true) → list_any p xs ≡ true → list_any q xs ≡ true
list_any-more p q xs more e =
    let found = list_any-found p xs e in
    list_any-at q xs found.0 found.1 (more found.0 found.1 found.2)

-- what `find` finds
pub find-some : {X : Type 0} (p : X → Bool) (xs : List X) (x : X) → find p xs ≡ Some x → Contains xs x × (p x ≡ true)
find-some p [] x e = absurd cc
find-some p (y ∷ ys) x e = by (λ is. find-some p ys x is) (p y) refl e
  where
    by : (find p ys ≡ Some x → Contains ys x × (p x ≡ true)) → (b : Bool) → p y ≡ b → cond b (Some y) (find p ys) ≡ Some x → Contains (y ∷ ys) x × (p x ≡ true)
    by rest true t is =
        let same : x ≡ y = cc in
        (subst (λ z. Contains (y ∷ ys) z) (sym same) (Contains-here y ys), ap p same ∙ t)
    by rest false f is = let found = rest is in (Contains-there y ys x found.0, found.1)

pub uuid_is : (u v : List ℕ) → bytes_eq u v ≡ true → u ≡ v
uuid_is u v e = (bytes_eq-Decides u v).0 e

pub uuid_same : (u : List ℕ) → bytes_eq u u ≡ true
uuid_same u = (bytes_eq-Decides u u).1 refl

pub uuid_other : (u v : List ℕ) → bytes_eq u v ≡ false → v ≢ u
uuid_other u v n e = never (bytes_eq u v) (ap (λ w. bytes_eq u w) e ∙ uuid_same u) n

pub uuid_differs : (u v : List ℕ) → v ≢ u → bytes_eq u v ≡ false
uuid_differs u v differ = elim (both (bytes_eq u v)) [
  | inl t ↦ absurd (differ (sym (uuid_is u v t)))
  | inr f ↦ f
]

pub lt_true : (a b : ℕ) → nat_lt a b ≡ true → a < b
lt_true a b e = grind arith

pub le_true : (a b : ℕ) → nat_le a b ≡ true → a ≤ b
le_true a b e = grind arith

pub lt_from : (a b : ℕ) → a < b → nat_lt a b ≡ true
lt_from a b e = grind arith

pub le_from : (a b : ℕ) → a ≤ b → nat_le a b ≡ true
le_from a b e = grind arith

pub lt_not : (a b : ℕ) → b ≤ a → nat_lt a b ≡ false
lt_not a b e = grind arith

pub eq_true : (a b : ℕ) → (a == b) ≡ true → a ≡ b
eq_true a b e = grind arith

pub eq_same : (a b : ℕ) → a ≡ b → (a == b) ≡ true
eq_same a b e = grind arith

pub eq_other : (a b : ℕ) → a ≢ b → (a == b) ≡ false
eq_other a b differ = grind arith

pub some_is : {A : Type 0} {a b : A} → Some a ≡ Some b → a ≡ b
some_is e = cc

pub none_some : {A B : Type 0} {a : A} → (o : Option A) → o ≡ None → o ≡ Some a → B
none_some o n s = absurd cc
