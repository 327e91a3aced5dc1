-- A label that replaces another one leaves as many.
use Rattle.std.proofs.Common.{◌≡◌, ◌≢◌, inl, inr, ℕ, zero, suc, ◌+◌, ◌<◌, Bool, true, false, cond, eqb, ◌||◌, [], ◌∷◌, Option, Some, None, refl, sym, ap, ◌∙◌, eq-eqb, arith}
use Rattle.std.proofs.lemmas.Bool.{cases_eq, ne_eqb}
use Rattle.label_codec.specs.declared.label.Label.{Label}
use Rattle.label_codec.specs.ModuleChanges.{without_slots}
use Rattle.label_codec.specs.ModuleChanges as flips
use Rattle.label_codec.specs.ModuleLabels.{Module, count, number, one}
use Rattle.label_area.specs.Flips.{is_among}
use Rattle.label_table.specs.Wholes.{any_label}

same-below : (f g : ℕ → Option Label) (n : ℕ) → ((k : ℕ) → k < n → g k ≡ f k) → count any_label g n ≡ count any_label f n
same-below f g zero same = refl
same-below f g (suc n) same =
    let rest : count any_label g n ≡ count any_label f n = same-below f g n (λ k below. same k (omega (arith, below))) in
    (λ i. one any_label (same n (omega arith) i) + rest i)

one-more : (f g : ℕ → Option Label) (s n : ℕ) (l : Label) → s < n → f s ≡ None → g s ≡ Some l → ((k : ℕ) → k ≢ s → g k ≡ f k) → count any_label g n ≡ count any_label f n + 1
one-more f g s zero l within was now others = absurd (omega (arith, within))
one-more f g s (suc n) l within was now others = elim (cases_eq s n) [
  | inl last ↦
      let rest : count any_label g n ≡ count any_label f n = same-below f g n (λ k below. others k (λ e. absurd (omega (arith, below, e, last)))) in
      let a : one any_label (g n) ≡ 1 = ap (one any_label) (sym (ap g last) ∙ now) in
      let b : one any_label (f n) ≡ 0 = ap (one any_label) (sym (ap f last) ∙ was) in
      omega (arith, rest, a, b)
  | inr differ ↦
      let rest : count any_label g n ≡ count any_label f n + 1 = one-more f g s n l (omega (arith, within, differ)) was now others in
      let here : one any_label (g n) ≡ one any_label (f n) = ap (one any_label) (others n (λ e. differ (sym e))) in
      omega (arith, rest, here)
]

-- a slot loses its label, and a free one gets another
pub put-number : (area : Module) (slot r : ℕ) (label own : Label) → slot < area.slots → r < area.slots → area.at slot ≡ None → area.at r ≡ Some own
    → number any_label (flips.with_label slot label (without_slots (is_among (r ∷ [])) area)) ≡ number any_label area
put-number area slot r label own slot_lt r_lt free there =
    let mid : ℕ → Option Label = λ k. cond (is_among (r ∷ []) k) None (area.at k) in
    let a : count any_label area.at area.slots ≡ count any_label mid area.slots + 1 =
    one-more mid area.at r area.slots own r_lt (ap (λ b. cond (b || false) None (area.at r)) (eq-eqb r r refl)) there (λ k differ. sym (ap (λ b. cond (b || false) None (area.at k)) (ne_eqb k r differ))) in
    let b : count any_label (λ k. cond (eqb k slot) (Some label) (mid k)) area.slots ≡ count any_label mid area.slots + 1 =
    one-more mid (λ k. cond (eqb k slot) (Some label) (mid k)) slot area.slots label slot_lt (none (is_among (r ∷ []) slot)) (ap (λ b. cond b (Some label) (mid slot)) (eq-eqb slot slot refl)) (λ k differ. ap (λ b. cond b (Some label) (mid k)) (ne_eqb k slot differ)) in
    omega (arith, a, b)
  where
    none : (b : Bool) → cond b None (area.at slot) ≡ None
    none true = refl
    none false = free
