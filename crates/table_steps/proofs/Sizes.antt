-- Sizes that are multiples of 2 MiB of each member's part.
use Rattle.std.proofs.Common.{◌≡◌, ℕ, zero, suc, ◌*◌, ◌/◌, ◌%◌, ◌<◌, sym, ap, ◌∙◌, arith}
use Rattle.std.proofs.Math.Nat.{mod-zero, mul-div_cancel_left, mul-mod_left, mul_assoc, mul_comm}
use Rattle.std.proofs.lemmas.Nat.{div-add-mod'}
use Rattle.label_table.specs.Division.{alignment}

-- what each of so many members gives of a size
pub record IsSized (size ways : ℕ) : Type 0 where
  pub some_ways : 0 < ways
  pub whole : ways * (size / ways) ≡ size
  pub multiple : (size / ways) % alignment ≡ 0
  pub some : 0 < size / ways

pub sized : (size ways : ℕ) → 0 < size → size % (ways * alignment) ≡ 0 → IsSized size ways
sized size zero some e = absurd (let z : size % zero ≡ size = mod-zero size in let e' : size % zero ≡ 0 = e in omega (arith, z, e', some))
sized size (suc n) some e =
    let unit = suc n * alignment in
    let units = size / unit in
    let split : size ≡ units * unit = omega (arith, div-add-mod' size unit, e) in
    let parts : suc n * (units * alignment) ≡ size =
    sym (mul_assoc (suc n) units alignment) ∙ ap (λ k. k * alignment) (mul_comm (suc n) units) ∙ mul_assoc units (suc n) alignment ∙ sym split in
    let part : size / suc n ≡ units * alignment = ap (λ k. k / suc n) (sym parts) ∙ mul-div_cancel_left (units * alignment) (omega arith) in
    record {
      some_ways = omega arith;
      whole = ap (λ k. suc n * k) part ∙ parts;
      multiple = ap (λ k. k % alignment) part ∙ mul-mod_left units alignment;
      some = positive (size / suc n) (ap (λ k. suc n * k) part ∙ parts);
    }
  where
    positive : (k : ℕ) → suc n * k ≡ size → 0 < k
    positive zero e = absurd (let z : suc n * zero ≡ size = e in omega (arith, z, some))
    positive (suc k) e = omega arith
