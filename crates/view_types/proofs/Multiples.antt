-- Rounding up and down to a multiple.
use Rattle.std.proofs.Common.{◌≡◌, ◌⊎◌, inl, inr, ℕ, ◌+◌, ◌-◌, ◌*◌, ◌/◌, ◌%◌, ◌≤◌, ◌<◌, ap, ◌∙◌, arith}
use Rattle.std.specs.Int.{next_multiple_of}
use Rattle.std.proofs.Math.Nat.{sub-zero, mod_self, mod-eq_of_lt, mul-mod_left, mul-le-mul_right, lt_of_mul-lt-mul_right}
use Rattle.std.proofs.lemmas.Nat.{div-add-mod', mod_below}
use Rattle.std.proofs.lemmas.Bool.{cases_lt}

-- what the least multiple from a number on is
pub record IsNextMultiple (x align at : ℕ) : Type 0 where
  pub multiple : at % align ≡ 0
  pub from : x ≤ at
  pub least : (p : ℕ) → p % align ≡ 0 → x ≤ p → at ≤ p

near : (x align : ℕ) → 0 < align → (next_multiple_of x align ≡ (x / align + 1) * align) ⊎ ((next_multiple_of x align ≡ x) × (x % align ≡ 0))
near x align some = elim (cases_lt 0 (x % align)) [
  | inl more ↦
      let below = mod_below x align some in
      let same : (align - x % align) % align ≡ align - x % align = mod-eq_of_lt (omega arith) in
      inl (omega (arith, same, div-add-mod' x align))
  | inr none ↦
      let zero_rest : x % align ≡ 0 = omega arith in
      let same : (align - x % align) % align ≡ 0 = ap (λ r. (align - r) % align) zero_rest ∙ ap (λ r. r % align) (sub-zero align) ∙ mod_self align in
      inr (omega (arith, same), zero_rest)
]

pub below_multiple : (p q align : ℕ) → 0 < align → p % align ≡ 0 → q % align ≡ 0 → p < q + align → p ≤ q
below_multiple p q align some p_is q_is lt =
    let p_div : p / align * align ≡ p = omega (arith, div-add-mod' p align) in
    let q_div : q / align * align ≡ q = omega (arith, div-add-mod' q align) in
    let fewer : p / align < q / align + 1 = lt_of_mul-lt-mul_right align (omega (arith, p_div, q_div)) in
    let at_most : p / align * align ≤ q / align * align = mul-le-mul_right align (omega arith) in
    omega arith

pub next_multiple : (x align : ℕ) → 0 < align → IsNextMultiple x align (next_multiple_of x align)
next_multiple x align some = elim (near x align some) [
  | inl up ↦
      let below = mod_below x align some in
      let is : next_multiple_of x align % align ≡ 0 = ap (λ n. n % align) up ∙ mul-mod_left (x / align + 1) align in
      record {
        multiple = is;
        from = omega (arith, div-add-mod' x align);
        least = λ p multiple ge. below_multiple (next_multiple_of x align) p align some is multiple (omega (arith, div-add-mod' x align));
      }
  | inr same ↦ record {
    multiple = ap (λ n. n % align) same.0 ∙ same.1;
    from = omega (arith, same.0);
    least = λ p multiple ge. omega (arith, same.0);
  }
]

-- rounded down, a number is the greatest multiple that is not above it
pub rounded_down : (x align : ℕ) → 0 < align → (p : ℕ) → p % align ≡ 0 → p ≤ x → p ≤ x - x % align
rounded_down x align some p multiple le =
    let down : x - x % align ≡ x / align * align = omega (arith, div-add-mod' x align) in
    let is : (x / align * align) % align ≡ 0 = mul-mod_left (x / align) align in
    let below = mod_below x align some in
    let at_most : p ≤ x / align * align = below_multiple p (x / align * align) align some multiple is (omega (arith, div-add-mod' x align)) in
    omega arith
