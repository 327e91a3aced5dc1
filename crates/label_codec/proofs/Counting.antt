-- Lemmas on counting labels.
use Rattle.std.proofs.Common.{◌≡◌, ◌≢◌, ◌⊎◌, inl, inr, ℕ, zero, suc, ◌+◌, ◌≤◌, ◌<◌, Bool, true, false, ◌&&◌, cond, List, Option, Some, None, refl, sym, ap, arith}
use Rattle.std.specs.Option.{option_or}
use Rattle.std.proofs.lemmas.Bool.{cases_eq}
use Rattle.label_codec.specs.declared.label.Label.{Label}
use Rattle.label_codec.specs.ModuleLabels.{Module, one, count, number, has, label_if, with_only, of_uuid, first_below}

-- the labels of a module by slot
abbrev pub Slots : Type 0
Slots = ℕ → Option Label

-- counts that agree slot by slot are the same
pub count-same : (p q : Label → Bool) (f g : Slots) (n : ℕ) → ((k : ℕ) → k < n → one p (f k) ≡ one q (g k)) → count p f n ≡ count q g n
count-same p q f g zero same = refl
count-same p q f g (suc n) same =
    let here : one p (f n) ≡ one q (g n) = same n (omega arith) in
    let below : count p f n ≡ count q g n = count-same p q f g n (λ k lt. same k (omega arith)) in
    cc

-- counts that agree in all slots but one
pub count-change : (p q : Label → Bool) (f g : Slots) (s n : ℕ) → s < n → ((k : ℕ) → k < n → k ≢ s → one p (f k) ≡ one q (g k)) → count q g n + one p (f s) ≡ count p f n + one q (g s)
count-change p q f g s zero lt same = absurd (omega arith)
count-change p q f g s (suc n) lt same = elim (cases_eq s n) [
  | inl e ↦
      let below : count p f n ≡ count q g n = count-same p q f g n (λ k l. same k (omega arith) (omega arith)) in
      let fe : one p (f s) ≡ one p (f n) = ap (λ k. one p (f k)) e in
      let ge : one q (g s) ≡ one q (g n) = ap (λ k. one q (g k)) e in
      omega arith
  | inr differ ↦
      let below : count q g n + one p (f s) ≡ count p f n + one q (g s) = count-change p q f g s n (omega arith) (λ k l. same k (omega arith)) in
      let here : one p (f n) ≡ one q (g n) = same n (omega arith) (λ e. differ (sym e)) in
      omega arith
]

-- a label that passes is counted
pub one-some : (p : Label → Bool) (o : Option Label) (l : Label) → o ≡ Some l → p l ≡ true → one p o ≡ 1
one-some p o l is passes = rw (is, passes) refl

-- a slot counts at most 1
pub one-le : (p : Label → Bool) (o : Option Label) → one p o ≤ 1
one-le p None = omega arith
one-le p (Some l) = by (p l)
  where
    by : (b : Bool) → cond {A = ℕ} b 1 0 ≤ 1
    by true = omega arith
    by false = omega arith

-- no more labels pass than there are slots
pub count-le : (p : Label → Bool) (f : Slots) (n : ℕ) → count p f n ≤ n
count-le p f zero = omega arith
count-le p f (suc n) =
    let here : one p (f n) ≤ 1 = one-le p (f n) in
    let below : count p f n ≤ n = count-le p f n in
    omega arith

-- one slot's label counts in the whole
pub count-least : (p : Label → Bool) (f : Slots) (s n : ℕ) → s < n → one p (f s) ≤ count p f n
count-least p f s zero lt = absurd (omega arith)
count-least p f s (suc n) lt = elim (cases_eq s n) [
  | inl e ↦
      let fe : one p (f s) ≡ one p (f n) = ap (λ k. one p (f k)) e in omega arith
  | inr differ ↦
      let below : one p (f s) ≤ count p f n = count-least p f s n (omega arith) in omega arith
]

-- two slots with labels that pass are two
pub count-two : (p : Label → Bool) (f : Slots) (s t n : ℕ) → s < n → t < n → s ≢ t → one p (f s) + one p (f t) ≤ count p f n
count-two p f s t zero sl tl differ = absurd (omega arith)
count-two p f s t (suc n) sl tl differ = elim (cases_eq s n) [
  | inl e ↦
      let fe : one p (f s) ≡ one p (f n) = ap (λ k. one p (f k)) e in
      let below : one p (f t) ≤ count p f n = count-least p f t n (omega arith) in omega arith
  | inr sn ↦ elim (cases_eq t n) [
    | inl e ↦
        let fe : one p (f t) ≡ one p (f n) = ap (λ k. one p (f k)) e in
        let below : one p (f s) ≤ count p f n = count-least p f s n (omega arith) in omega arith
    | inr tn ↦
        let below : one p (f s) + one p (f t) ≤ count p f n = count-two p f s t n (omega arith) (omega arith) differ in omega arith
  ]
]

-- a slot below n whose label passes
pub record IsAt (p : Label → Bool) (f : Slots) (n : ℕ) : Type 0 where
  pub slot : ℕ
  pub label : Label
  pub within : slot < n
  pub is : f slot ≡ Some label
  pub passes : p label ≡ true

-- a slot counts nothing, or has a label that passes
pub one-cases : (p : Label → Bool) (o : Option Label) → (one p o ≡ 0) ⊎ ((l : Label) × (o ≡ Some l) × (p l ≡ true))
one-cases p None = inl refl
one-cases p (Some l) = by (p l) refl
  where
    by : (b : Bool) → p l ≡ b → (◌≡◌ {A = ℕ} (cond b 1 0) 0) ⊎ ((x : Label) × (Some l ≡ Some x) × (p x ≡ true))
    by true e = inr (l, refl, e)
    by false e = inl refl

-- either none below n passes, or one does
pub count-cases : (p : Label → Bool) (f : Slots) (n : ℕ) → (count p f n ≡ 0) ⊎ IsAt p f n
count-cases p f zero = inl refl
count-cases p f (suc n) = elim (one-cases p (f n)) [
  | inr found ↦ inr (record { slot = n; label = found.0; within = omega arith; is = found.1; passes = found.2 })
  | inl none ↦ elim (count-cases p f n) [
    | inl zero_below ↦ inl (omega arith)
    | inr there ↦ inr (record { slot = there.slot; label = there.label; within = omega arith; is = there.is; passes = there.passes })
  ]
]

-- where the count is at most one, there is one slot
pub count-one : (p : Label → Bool) (f : Slots) (n : ℕ) → count p f n ≤ 1 → (s t : ℕ) (a b : Label) → s < n → t < n → f s ≡ Some a → f t ≡ Some b → p a ≡ true → p b ≡ true → s ≡ t
count-one p f n le s t a b sl tl fa fb pa pb = elim (cases_eq s t) [
  | inl e ↦ e
  | inr differ ↦
      let two : one p (f s) + one p (f t) ≤ count p f n = count-two p f s t n sl tl differ in
      let sa : one p (f s) ≡ 1 = one-some p (f s) a fa pa in
      let tb : one p (f t) ≡ 1 = one-some p (f t) b fb pb in
      absurd (omega arith)
]

-- where no slot counts, none is counted
pub count-none : (p : Label → Bool) (f : Slots) (n : ℕ) → ((k : ℕ) → k < n → one p (f k) ≡ 0) → count p f n ≡ 0
count-none p f zero none = refl
count-none p f (suc n) none =
    let here : one p (f n) ≡ 0 = none n (omega arith) in
    let below : count p f n ≡ 0 = count-none p f n (λ k lt. none k (omega arith)) in
    omega arith

-- a test of the labels that pass another one
pub one-label_if : (q p : Label → Bool) (o : Option Label) → one p (label_if q o) ≡ one (λ l. q l && p l) o
one-label_if q p None = refl
one-label_if q p (Some l) = by (q l)
  where
    by : (b : Bool) → one p (cond b (Some l) None) ≡ cond (b && p l) 1 0
    by true = refl
    by false = refl

-- the number of labels that pass, of those that pass another test
pub number-with_only : (q p : Label → Bool) (m : Module) → number p (with_only q m) ≡ number (λ l. q l && p l) m
number-with_only q p m = count-same p (λ l. q l && p l) (λ k. label_if q (m.at k)) m.at m.slots (λ k lt. one-label_if q p (m.at k))

-- the number of labels of a uuid that pass
pub number-of_uuid : (u : List ℕ) (p : Label → Bool) (m : Module) → number p (of_uuid u m) ≡ number (λ l. has u l && p l) m
number-of_uuid u p m = number-with_only (has u) p m

-- what stands where first_below finds nothing, and where it finds a label
pub record IsFirst (f : Slots) (n : ℕ) (label : Label) : Type 0 where
  pub slot : ℕ
  pub within : slot < n
  pub is : f slot ≡ Some label
  pub before : (k : ℕ) → k < slot → f k ≡ None

pub first_below-cases : (f : Slots) (n : ℕ) → ((first_below f n ≡ None) × ((k : ℕ) → k < n → f k ≡ None)) ⊎ ((l : Label) × (first_below f n ≡ Some l) × IsFirst f n l)
first_below-cases f zero = inl (refl, λ k lt. absurd (omega arith))
first_below-cases f (suc n) = elim (first_below-cases f n) [
  | inr found ↦ inr (found.0, rw found.1 refl, record { slot = found.2.slot; within = (let lt : found.2.slot < n = found.2.within in omega arith); is = found.2.is; before = found.2.before })
  | inl none ↦ here none (f n) refl
]
  where
    last : ((k : ℕ) → k < n → f k ≡ None) → f n ≡ None → (k : ℕ) → k < suc n → f k ≡ None
    last below at k lt = elim (cases_eq k n) [
      | inl e ↦ rw e at
      | inr differ ↦ below k (omega arith)
    ]

    here : ((first_below f n ≡ None) × ((k : ℕ) → k < n → f k ≡ None)) → (o : Option Label) → f n ≡ o → ((option_or (first_below f n) o ≡ None) × ((k : ℕ) → k < suc n → f k ≡ None)) ⊎ ((l : Label) × (option_or (first_below f n) o ≡ Some l) × IsFirst f (suc n) l)
    here none None e = inl (rw none.0 refl, last none.1 e)
    here none (Some l) e = inr (l, rw none.0 refl, record { slot = n; within = omega arith; is = e; before = none.1 })
