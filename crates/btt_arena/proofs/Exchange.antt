-- Numbers that stand each once, and two positions exchanged.
use Rattle.std.proofs.Common.{◌≡◌, inl, inr, ℕ, ◌<◌, refl, sym, ap, subst, ◌∙◌}
use Rattle.std.specs.Prelude.{if◌then◌else◌, ◌==◌}
use Rattle.std.proofs.lemmas.Bool.{cases_eq, eq-eqb, ne_eqb}
use Rattle.btt_arena.specs.Arena.{AreEachOnce}

-- the numbers at other positions, each of which goes back to its own
pub once_by : (n : ℕ) (at new other : ℕ → ℕ) → ((x : ℕ) → x < n → other x < n) → ((x : ℕ) → x < n → other (other x) ≡ x) → ((x : ℕ) → x < n → new x ≡ at (other x)) → AreEachOnce n at → AreEachOnce n new
once_by n at new other within back is once = record {
  below = λ x below. subst (λ (k : ℕ). k < n) (sym (is x below)) (once.below (other x) (within x below));
  distinct = λ x y x_below y_below same.
      let e : other x ≡ other y = once.distinct (other x) (other y) (within x x_below) (within y y_below) (sym (is x x_below) ∙ same ∙ is y y_below) in
      sym (back x x_below) ∙ ap other e ∙ back y y_below;
  each_stands = λ number below.
      let there = once.each_stands number below in
      (other there.0, within there.0 there.1, is (other there.0) (within there.0 there.1) ∙ ap at (back there.0 there.1) ∙ there.2);
}

-- two positions exchanged
abbrev pub exchange : ℕ → ℕ → ℕ → ℕ
exchange p q x = if x == p then q else if x == q then p else x

module _ (p q : ℕ) (differ : q ≡ p → ⊥) where
  pub exchange_first : (x : ℕ) → x ≡ p → exchange p q x ≡ q
  exchange_first x is = rw (eq-eqb x p is) refl

  pub exchange_second : (x : ℕ) → x ≡ q → exchange p q x ≡ p
  exchange_second x is = rw (ne_eqb x p (λ e. differ (sym is ∙ e)), eq-eqb x q is) refl

  pub exchange_other : (x : ℕ) → (x ≡ p → ⊥) → (x ≡ q → ⊥) → exchange p q x ≡ x
  exchange_other x not_p not_q = rw (ne_eqb x p not_p, ne_eqb x q not_q) refl

  pub exchange_back : (x : ℕ) → exchange p q (exchange p q x) ≡ x
  exchange_back x = elim (cases_eq x p) [
    | inl is ↦ ap (exchange p q) (exchange_first x is) ∙ exchange_second q refl ∙ sym is
    | inr not_p ↦ elim (cases_eq x q) [
      | inl is ↦ ap (exchange p q) (exchange_second x is) ∙ exchange_first p refl ∙ sym is
      | inr not_q ↦ ap (exchange p q) (exchange_other x not_p not_q) ∙ exchange_other x not_p not_q
    ]
  ]

  pub exchange_within : (n : ℕ) → p < n → q < n → (x : ℕ) → x < n → exchange p q x < n
  exchange_within n p_below q_below x below = elim (cases_eq x p) [
    | inl is ↦ subst (λ (k : ℕ). k < n) (sym (exchange_first x is)) q_below
    | inr not_p ↦ elim (cases_eq x q) [
      | inl is ↦ subst (λ (k : ℕ). k < n) (sym (exchange_second x is)) p_below
      | inr not_q ↦ subst (λ (k : ℕ). k < n) (sym (exchange_other x not_p not_q)) below
    ]
  ]
