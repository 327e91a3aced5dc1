-- The first module of a region that has no spare slot.
use Rattle.std.proofs.Common.{◌≡◌, ℕ, zero, suc, ◌<◌, ◌≤◌, Bool, true, false, cond, List, [], ◌∷◌, length, get_or, Option, Some, None, refl, sym, ap, subst, ◌∙◌, arith}
use Rattle.std.specs.Prelude.{◌==◌, nat_lt}
use Rattle.std.specs.Option.{option_map}
use Rattle.region_map.specs.declared.platform.Member.{Member}
use Rattle.region_map.specs.declared.platform.Region.{Region}
use Rattle.label_table.specs.Belonging.{no_member}
use Rattle.label_table.proofs.ListTests.{eq_other, eq_same, none_some}
use Rattle.region_labels.specs.declared.positions.ModuleSpare.{ModuleSpare}
use Rattle.region_labels.specs.Positions.{IsFirstWithoutSpare}
use Rattle.label_sets.specs.Sets.{StoredSets, labels_in, platform_in, state_in}
use Rattle.recovery.specs.Recovery.{first_full, pending_count, unhealed_at}

module _ (spare : ℕ → ℕ) where
  full-none : (ms : List Member) → ((k : ℕ) → k < length ms → 1 ≤ spare (get_or ms k no_member).handle) → first_full spare ms ≡ None
  full-none [] each = refl
  full-none (m ∷ ms) each =
      let some : 1 ≤ spare m.handle = each 0 (omega arith) in
      let not_zero : (spare m.handle == 0) ≡ false = eq_other (spare m.handle) 0 (λ e. omega (arith, some, e)) in
      (λ i. cond (not_zero i) (Some m.handle) (first_full spare ms)) ∙ full-none ms (λ k lt. each (suc k) (omega arith))

  full-some : (ms : List Member) (k : ℕ) → k < length ms → spare (get_or ms k no_member).handle < 1 → ((j : ℕ) → j < k → 1 ≤ spare (get_or ms j no_member).handle) → first_full spare ms ≡ Some (get_or ms k no_member).handle
  full-some [] k lt few before = absurd (omega (arith, lt))
  full-some (m ∷ ms) zero lt few before =
      let is_zero : (spare m.handle == 0) ≡ true = eq_same (spare m.handle) 0 (omega (arith, few)) in
      λ i. cond (is_zero i) (Some m.handle) (first_full spare ms)
  full-some (m ∷ ms) (suc k) lt few before =
      let some : 1 ≤ spare m.handle = before 0 (omega arith) in
      let not_zero : (spare m.handle == 0) ≡ false = eq_other (spare m.handle) 0 (λ e. omega (arith, some, e)) in
      (λ i. cond (not_zero i) (Some m.handle) (first_full spare ms)) ∙ full-some ms k (omega (arith, lt)) few (λ j below. before (suc j) (omega (arith, below)))

  -- where there is none, each module has a spare slot
  pub spare-each : (ms : List Member) → first_full spare ms ≡ None → (k : ℕ) → k < length ms → 0 < spare (get_or ms k no_member).handle
  spare-each [] e k lt = absurd (omega (arith, lt))
  spare-each (m ∷ ms) e k lt = by (spare m.handle == 0) refl e k lt (λ rest j below. spare-each ms rest j below)
    where
      by : (b : Bool) → (spare m.handle == 0) ≡ b → cond b (Some m.handle) (first_full spare ms) ≡ None → (k : ℕ) → k < length (m ∷ ms) → (first_full spare ms ≡ None → (j : ℕ) → j < length ms → 0 < spare (get_or ms j no_member).handle)
          → 0 < spare (get_or (m ∷ ms) k no_member).handle
      by true is f k lt rest = none_some None refl (sym f)
      by false is f zero lt rest = some (spare m.handle) is
        where
          some : (n : ℕ) → (n == 0) ≡ false → 0 < n
          some n g = grind arith
      by false is f (suc k) lt rest = rest f k (omega (arith, lt))

abbrev pub dimm_in : ModuleSpare → ℕ
dimm_in short = short.dimm

-- the first position without a spare slot
pub full-by : (sets : StoredSets) (r : Region) (found : Option ModuleSpare) → IsFirstWithoutSpare (platform_in sets) (labels_in sets) r 1 found
    → first_full (state_in sets).table.spare r.members ≡ option_map dimm_in found
full-by sets r None all = full-none (state_in sets).table.spare r.members all
full-by sets r (Some short) first =
    full-some (state_in sets).table.spare r.members short.position first.within (subst (λ n. n < 1) first.spare_is first.few) first.before ∙ ap Some (sym first.dimm_is)

-- the module, where a namespace is pending
pub unhealed-some : (sets : StoredSets) (r : Region) → 0 < pending_count (labels_in sets) r → unhealed_at sets r ≡ first_full (state_in sets).table.spare r.members
unhealed-some sets r some =
    let is : nat_lt 0 (pending_count (labels_in sets) r) ≡ true = ltb-true-from (pending_count (labels_in sets) r) some in
    λ i. cond (is i) (first_full (state_in sets).table.spare r.members) None
  where
    ltb-true-from : (n : ℕ) → 0 < n → nat_lt 0 n ≡ true
    ltb-true-from n lt = grind arith

pub unhealed-none : (sets : StoredSets) (r : Region) → pending_count (labels_in sets) r ≡ 0 → unhealed_at sets r ≡ None
unhealed-none sets r none = λ i. cond (nat_lt 0 (none i)) (first_full (state_in sets).table.spare r.members) None
