-- The first label of a module with a uuid, and the only one.
use Rattle.std.proofs.Common.{◌≡◌, ◌⊎◌, inl, inr, ℕ, zero, suc, ◌+◌, ◌<◌, Bool, true, false, cond, List, [], ◌∷◌, length, get_or, Option, Some, None, refl, sym, ap, subst, ◌∙◌, arith}
use Rattle.std.specs.Prelude.{◌==◌, ◌&&◌, is_some, slice_get}
use Rattle.std.specs.Option.{option_flatten, option_or}
use Rattle.std.proofs.lemmas.Bool.{cases_eq}
use Rattle.label_codec.specs.declared.label.Label.{Label}
use Rattle.label_codec.specs.ModuleLabels.{Module, first, first_below, has, label_if, number, of_uuid, one}
use Rattle.label_codec.proofs.Counting.{IsFirst, Slots, count-none, count-one, count-same, first_below-cases}
use Rattle.label_table.specs.Plain.{HasOnly, IsOnly}
use Rattle.label_table.specs.Wholes.{any_label}
use Rattle.label_table.proofs.Confined.{number-none}
use Rattle.label_table.proofs.ListTests.{some_is}

pub first_below-none : (f : Slots) (n : ℕ) → first_below f n ≡ None → f n ≡ None → first_below f (n + 1) ≡ None
first_below-none f n below here =
    let next : n + 1 ≡ suc n = omega arith in
    subst (λ k. first_below f k ≡ None) (sym next) (λ i. option_or (below i) (here i))

pub first_below-found : (f : Slots) (n m : ℕ) (l : Label) → first_below f n ≡ None → f n ≡ Some l → n < m → first_below f m ≡ Some l
first_below-found f n zero l below here lt = absurd (omega arith)
first_below-found f n (suc m) l below here lt = elim (cases_eq n m) [
  | inl e ↦ λ i. option_or (subst (λ k. first_below f k ≡ None) e below i) (subst (λ k. f k ≡ Some l) e here i)
  | inr differ ↦
      let rest : first_below f m ≡ Some l = first_below-found f n m l below here (omega arith) in
      λ i. option_or (rest i) (f m)
]

-- tests that agree on the labels below a module's slots count the same
number-within : (p q : Label → Bool) (area : Module) → ((k : ℕ) (a : Label) → area.at k ≡ Some a → k < area.slots → p a ≡ q a) → number p area ≡ number q area
number-within p q area same = count-same p q area.at area.at area.slots (λ k lt. by k lt (area.at k) refl)
  where
    by : (k : ℕ) → k < area.slots → (o : Option Label) → area.at k ≡ o → one p o ≡ one q o
    by k lt None e = refl
    by k lt (Some a) e = ap (λ t. cond {A = ℕ} t 1 0) (same k a e lt)

-- where a module has one label with a uuid it is the first
pub only-first : (u : List ℕ) (area : Module) → number any_label (of_uuid u area) ≡ 1 → IsOnly u area (first (of_uuid u area))
only-first u area once = by (first_below-cases (of_uuid u area).at area.slots)
  where
    all_one : (l : Label) → IsFirst (of_uuid u area).at area.slots l → (p : Label → Bool) (k : ℕ) (a : Label) → (of_uuid u area).at k ≡ Some a → k < area.slots → p a ≡ p l
    all_one l found p k a is lt =
        let e : k ≡ found.slot = count-one any_label (of_uuid u area).at area.slots (omega arith) k found.slot a l lt found.within is found.is refl refl in
        ap p (some_is (sym is ∙ ap (of_uuid u area).at e ∙ found.is))

    passes : (l : Label) → IsFirst (of_uuid u area).at area.slots l → (p : Label → Bool) → number p (of_uuid u area) ≡ cond (p l) 1 0
    passes l found p = at (p l) refl
      where
        at : (b : Bool) → p l ≡ b → number p (of_uuid u area) ≡ cond b 1 0
        at true t = number-within p any_label (of_uuid u area) (λ k a is lt. all_one l found p k a is lt ∙ t) ∙ once
        at false f = number-within p (λ a. false) (of_uuid u area) (λ k a is lt. all_one l found p k a is lt ∙ f) ∙ number-none (λ a. false) (of_uuid u area) (λ k a is. refl)

    by : ((first_below (of_uuid u area).at area.slots ≡ None) × ((k : ℕ) → k < area.slots → label_if (has u) (area.at k) ≡ None))
        ⊎ ((l : Label) × (first_below (of_uuid u area).at area.slots ≡ Some l) × IsFirst (of_uuid u area).at area.slots l) → IsOnly u area (first (of_uuid u area))
    by (inl none) =
        let z : number any_label (of_uuid u area) ≡ 0 = count-none any_label (of_uuid u area).at area.slots (λ k lt. ap (one any_label) (none.1 k lt)) in
        absurd (omega arith)
    by (inr found) = subst (λ o. IsOnly u area o) (sym found.1) (record { once = once; passes = passes found.0 found.2; first_is = found.1 })

-- what a test makes of the one label
pub only-passes : (u : List ℕ) (area : Module) (l : Label) (p : Label → Bool) → HasOnly u area l → (number any_label (of_uuid u area) == 1 && number p (of_uuid u area) == 1) ≡ p l
only-passes u area l p only =
    let once : (number any_label (of_uuid u area) == 1) ≡ true = ap (λ n. n == 1) only.once in
    (λ i. once i && only.passes p i == 1) ∙ by (p l)
  where
    by : (b : Bool) → (cond {A = ℕ} b 1 0 == 1) ≡ b
    by true = refl
    by false = refl

-- the labels of a list of slots with a uuid
abbrev pub listed : List ℕ → List (Option Label) → Slots
listed u xs k = label_if (has u) (option_flatten (slice_get xs k))

slot-at : (xs : List (Option Label)) (n : ℕ) → n < length xs → option_flatten (slice_get xs n) ≡ get_or xs n None
slot-at [] n lt = absurd (omega arith)
slot-at (x ∷ xs) zero lt = by x
  where
    by : (o : Option Label) → option_flatten (Some o) ≡ o
    by None = refl
    by (Some l) = refl
slot-at (x ∷ xs) (suc n) lt = slot-at xs n (omega arith)

-- a slot with such a label is the first,
pub slots-found : (u : List ℕ) (xs ys : List (Option Label)) → xs ≡ ys → (n : ℕ) → n < length xs → first_below (listed u ys) n ≡ None → is_some (label_if (has u) (get_or xs n None)) ≡ true → get_or xs n None ≡ first_below (listed u ys) (length ys)
slots-found u xs ys same n lt none found = subst (λ zs. first_below (listed u zs) n ≡ None → get_or xs n None ≡ first_below (listed u zs) (length zs)) same (λ below. by (get_or xs n None) refl found below) none
  where
    by : (o : Option Label) → get_or xs n None ≡ o → is_some (label_if (has u) o) ≡ true → first_below (listed u xs) n ≡ None → o ≡ first_below (listed u xs) (length xs)
    by None e f below = absurd cc
    by (Some l) e f below = sym (first_below-found (listed u xs) n (length xs) l below (ap (label_if (has u)) (slot-at xs n lt ∙ e) ∙ kept (has u l) refl f) lt)
      where
        kept : (b : Bool) → has u l ≡ b → is_some (cond b (Some l) None) ≡ true → cond (has u l) (Some l) None ≡ Some l
        kept true t f = λ i. cond (t i) (Some l) None
        kept false t f = absurd cc

-- and one without goes on.
pub slots-passed : (u : List ℕ) (xs ys : List (Option Label)) → xs ≡ ys → (n : ℕ) → n < length xs → first_below (listed u ys) n ≡ None → is_some (label_if (has u) (get_or xs n None)) ≡ false → first_below (listed u ys) (n + 1) ≡ None
slots-passed u xs ys same n lt none passed = subst (λ zs. first_below (listed u zs) n ≡ None → first_below (listed u zs) (n + 1) ≡ None) same (λ below. first_below-none (listed u xs) n below (ap (label_if (has u)) (slot-at xs n lt) ∙ by (label_if (has u) (get_or xs n None)) passed)) none
  where
    by : (o : Option Label) → is_some o ≡ false → o ≡ None
    by None f = refl
    by (Some l) f = absurd cc
