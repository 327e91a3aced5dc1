-- In a module the only label with a uuid is replaced by one with the same uuid.
use Rattle.std.proofs.Common.{◌≡◌, ◌≢◌, ℕ, ◌+◌, ◌<◌, ◌≤◌, Bool, true, false, cond, List, [], ◌∷◌, Option, Some, None, refl, sym, ap, subst, ◌∙◌, arith}
use Rattle.std.specs.Prelude.{◌==◌, ◌||◌}
use Rattle.label_codec.specs.declared.label.Label.{Label}
use Rattle.label_codec.specs.ModuleChanges.{with_label, without_slots}
use Rattle.label_codec.specs.ModuleLabels.{Module, count, has, number, one}
use Rattle.label_codec.proofs.Counting.{count-change, one-some}
use Rattle.label_area.specs.Flips.{is_among}
use Rattle.label_table.specs.Flips.{other_labels}
use Rattle.label_table.specs.Plain.{HasOnly}
use Rattle.label_table.proofs.ListTests.{eq_other, eq_same, eq_true, some_is}
use Rattle.label_table.proofs.OneFlip.{freed-other, put-other, with_label-bounded, without_slots-bounded}
use Rattle.region_labels.proofs.Found.{number-with, only-live}

module _ (u : List ℕ) (area : Module) (old slot : ℕ) (own new : Label) (within : old < area.slots) (is : area.at old ≡ Some own) (has_own : has u own ≡ true) (only : HasOnly u area own)
    (slot_within : slot < area.slots) (free : area.at slot ≡ None) (has_new : has u new ≡ true) where
  abbrev between : Module
  between = without_slots (is_among (old ∷ [])) area

  abbrev pub replaced : Module
  replaced = with_label slot new between

  same-slot : (k : ℕ) → (k == old) || false ≡ true → k ≡ old
  same-slot k e = eq_true k old (by (k == old) e)
    where
      by : (b : Bool) → b || false ≡ true → b ≡ true
      by true e = refl
      by false e = absurd cc

  gone : between.at old ≡ None
  gone = let t : (old == old) ≡ true = eq_same old old refl in λ i. cond (t i || false) None (area.at old)

  still : (k : ℕ) → k ≢ old → between.at k ≡ area.at k
  still k differ = let f : (k == old) ≡ false = eq_other k old differ in λ i. cond (f i || false) None (area.at k)

  still-free : between.at slot ≡ None
  still-free = by (is_among (old ∷ []) slot) (area.at slot) free
    where
      by : (b : Bool) (o : Option Label) → o ≡ None → cond b None o ≡ None
      by true o e = refl
      by false o e = e

  comes : replaced.at slot ≡ Some new
  comes = let t : (slot == slot) ≡ true = eq_same slot slot refl in λ i. cond (t i) (Some new) (between.at slot)

  stays : (k : ℕ) → k ≢ slot → replaced.at k ≡ between.at k
  stays k differ = let f : (k == slot) ≡ false = eq_other k slot differ in λ i. cond (f i) (Some new) (between.at k)

  one-none : (o : Option Label) → o ≡ None → one (has u) o ≡ 0
  one-none o e = ap (one (has u)) e

  number-one : number (has u) replaced ≡ 1
  number-one =
      let before : number (has u) area ≡ 1 = sym (number-with u area) ∙ only.once in
      let first : count (has u) between.at area.slots + one (has u) (area.at old) ≡ count (has u) area.at area.slots + one (has u) (between.at old) =
      count-change (has u) (has u) area.at between.at old area.slots within (λ k lt differ. ap (one (has u)) (sym (still k differ))) in
      let second : count (has u) replaced.at area.slots + one (has u) (between.at slot) ≡ count (has u) between.at area.slots + one (has u) (replaced.at slot) =
      count-change (has u) (has u) between.at replaced.at slot area.slots slot_within (λ k lt differ. ap (one (has u)) (sym (stays k differ))) in
      let a : one (has u) (area.at old) ≡ 1 = one-some (has u) (area.at old) own is has_own in
      let b : one (has u) (between.at old) ≡ 0 = one-none (between.at old) gone in
      let c : one (has u) (between.at slot) ≡ 0 = one-none (between.at slot) still-free in
      let d : one (has u) (replaced.at slot) ≡ 1 = one-some (has u) (replaced.at slot) new comes has_new in
      omega (arith, before, first, second, a, b, c, d)

  pub only-new : HasOnly u replaced new
  only-new = only-live u replaced slot number-one (record { within = slot_within; label = new; is = comes; has_uuid = has_new })

  pub others-kept : other_labels u replaced ≡ other_labels u area
  others-kept = put-other u between slot new still-free has_new
      ∙ freed-other u area (is_among (old ∷ [])) (λ k l e at. subst (λ (a : Label). has u a ≡ true) (some_is (sym is ∙ sym (ap area.at (same-slot k e)) ∙ at)) has_own)

  pub still-bounded : ((k : ℕ) → area.slots ≤ k → area.at k ≡ None) → (k : ℕ) → area.slots ≤ k → replaced.at k ≡ None
  still-bounded bounded = with_label-bounded between slot new slot_within (without_slots-bounded area (is_among (old ∷ [])) bounded)
