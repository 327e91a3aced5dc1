-- What is found in lists, and refusals of which none applies.
use Rattle.std.proofs.Common.{◌≡◌, ◌⊎◌, inl, inr, Bool, true, false, not, cond, List, [], ◌∷◌, filter, find, Option, Some, None, refl, sym, ap, subst, ◌∙◌}
use Rattle.std.specs.Prelude.{◌||◌, option_map}
use Rattle.std.specs.List.{Contains}
use Rattle.std.specs.Option.{option_or}
use Rattle.view_types.specs.declared.refusal.Refusal.{Refusal}
use Rattle.label_table.proofs.ListTests.{Contains-cases, Contains-here, Contains-none, Contains-there, never}
use Rattle.table_steps.specs.Refusals.{first_of, refused_if}

-- Where nothing is found, nothing passes.
pub find-none : {X : Type 0} (p : X → Bool) (xs : List X) → find p xs ≡ None → (x : X) → Contains xs x → p x ≡ false
find-none p [] none x here = Contains-none x here
find-none p (y ∷ ys) none x here = by (p y) refl none (Contains-cases y ys x here) (λ later there. find-none p ys later x there)
  where
    by : (b : Bool) → p y ≡ b → cond b (Some y) (find p ys) ≡ None → (x ≡ y) ⊎ Contains ys x → (find p ys ≡ None → Contains ys x → p x ≡ false) → p x ≡ false
    by true e none at rest = absurd cc
    by false e none (inl is) rest = subst (λ z. p z ≡ false) (sym is) e
    by false e none (inr there) rest = rest none there

-- Where nothing passes, nothing is found.
pub find-never : {X : Type 0} (p : X → Bool) (xs : List X) → ((x : X) → Contains xs x → p x ≡ false) → find p xs ≡ None
find-never p [] none = refl
find-never p (y ∷ ys) none =
    let here : p y ≡ false = none y (Contains-here y ys) in
    let rest : find p ys ≡ None = find-never p ys (λ x there. none x (Contains-there y ys x there)) in
    (λ i. cond (here i) (Some y) (find p ys)) ∙ rest

-- Tests that are the same on a list find the same.
pub find-same : {X : Type 0} (p q : X → Bool) (xs : List X) → ((x : X) → p x ≡ q x) → find p xs ≡ find q xs
find-same p q xs same = λ i. find (λ x. same x i) xs

-- What a filter keeps passes, and what passes is kept.
pub filter-from : {X : Type 0} (p : X → Bool) (xs : List X) (x : X) → Contains (filter p xs) x → Contains xs x × (p x ≡ true)
filter-from p [] x here = Contains-none x here
filter-from p (y ∷ ys) x here = by (p y) refl here (λ there. filter-from p ys x there)
  where
    by : (b : Bool) → p y ≡ b → Contains (cond b (y ∷ filter p ys) (filter p ys)) x → (Contains (filter p ys) x → Contains ys x × (p x ≡ true)) → Contains (y ∷ ys) x × (p x ≡ true)
    by false e here rest = let found = rest here in (Contains-there y ys x found.0, found.1)
    by true e here rest = elim (Contains-cases y (filter p ys) x here) [
      | inl is ↦ (subst (λ z. Contains (y ∷ ys) z) (sym is) (Contains-here y ys), ap p is ∙ e)
      | inr there ↦ (let found = rest there in (Contains-there y ys x found.0, found.1))
    ]

pub filter-to : {X : Type 0} (p : X → Bool) (xs : List X) (x : X) → Contains xs x → p x ≡ true → Contains (filter p xs) x
filter-to p [] x here t = Contains-none x here
filter-to p (y ∷ ys) x here t = by (p y) refl (Contains-cases y ys x here) (λ there. filter-to p ys x there t)
  where
    by : (b : Bool) → p y ≡ b → (x ≡ y) ⊎ Contains ys x → (Contains ys x → Contains (filter p ys) x) → Contains (cond b (y ∷ filter p ys) (filter p ys)) x
    by true e (inl is) rest = subst (λ z. Contains (y ∷ filter p ys) z) (sym is) (Contains-here y (filter p ys))
    by true e (inr there) rest = Contains-there y (filter p ys) x (rest there)
    by false e (inl is) rest = never (p y) (ap p (sym is) ∙ t) e
    by false e (inr there) rest = rest there

-- Where a filter keeps one element, no other passes.
pub filter-only : {X : Type 0} (p : X → Bool) (xs : List X) (only : X) → filter p xs ≡ only ∷ [] → (x : X) → Contains xs x → p x ≡ true → x ≡ only
filter-only p xs only is x here t = elim (Contains-cases only [] x (subst (λ kept. Contains kept x) is (filter-to p xs x here t))) [
  | inl same ↦ same
  | inr none ↦ Contains-none x none
]

pub map-none : {X Y : Type 0} (f : X → Y) (o : Option X) → option_map f o ≡ None → o ≡ None
map-none f None e = refl
map-none f (Some x) e = absurd cc

pub or-false : (a b : Bool) → (a || b) ≡ false → (a ≡ false) × (b ≡ false)
or-false true b e = absurd cc
or-false false b e = (refl, e)

pub not-false : (b : Bool) → not b ≡ false → b ≡ true
not-false true e = refl
not-false false e = absurd cc

-- a test that gives no refusal does not apply
pub unapplied : (b : Bool) (refusal : Refusal) → refused_if b refusal ≡ None → b ≡ false
unapplied true refusal e = absurd cc
unapplied false refusal e = refl

-- none of some refusals applies
abbrev pub AreNone : List (Option Refusal) → Type 0
AreNone [] = Unit {0}
AreNone (refusal ∷ refusals) = (refusal ≡ None) × AreNone refusals

pub first-none : (refusals : List (Option Refusal)) → first_of refusals ≡ None → AreNone refusals
first-none [] e = tt
first-none (refusal ∷ refusals) e = by refusal e (λ later. first-none refusals later)
  where
    by : (o : Option Refusal) → option_or o (first_of refusals) ≡ None → (first_of refusals ≡ None → AreNone refusals) → (o ≡ None) × AreNone refusals
    by None later rest = (refl, rest later)
    by (Some r) none rest = absurd cc
