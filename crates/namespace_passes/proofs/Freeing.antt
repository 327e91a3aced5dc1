-- The only label with a uuid in a module is freed.
use Rattle.std.proofs.Common.{◌≡◌, inl, inr, ℕ, ◌+◌, ◌<◌, Bool, true, false, cond, ◌||◌, eqb, List, [], ◌∷◌, Some, None, refl, sym, ap, subst, ◌∙◌, eq-eqb, eqb-true, arith}
use Rattle.std.proofs.lemmas.Bool.{ne_eqb}
use Rattle.label_codec.specs.declared.label.Label.{Label}
use Rattle.label_codec.specs.ModuleChanges.{without_slots}
use Rattle.label_codec.specs.ModuleLabels.{IsBounded, Labels, Module, has, number, of_uuid, one}
use Rattle.label_codec.proofs.Counting.{count-change, count-one}
use Rattle.label_area.specs.Flips.{is_among}
use Rattle.label_table.specs.Flips.{HasNone, IsConfined}
use Rattle.label_table.specs.Plain.{HasOnly}
use Rattle.label_table.specs.Wholes.{any_label}
use Rattle.label_table.proofs.Leaving.{label_if-passes, within}
use Rattle.label_table.proofs.ListTests.{both, some_is}
use Rattle.label_table.proofs.OneFlip.{confined-by, freed-other, with_module-here}
use Rattle.region_map.specs.declared.platform.Region.{Region}
use Rattle.label_table.specs.Belonging.{member_at}
use Rattle.module_flips.specs.Flips.{without_slots_at}
use Rattle.namespace_passes.specs.Dropping.{LosesLabel}

-- one slot is among those of a list of it
among-one : (slot k : ℕ) → is_among (slot ∷ []) k ≡ true → k ≡ slot
among-one slot k e = eqb-true k slot (by (eqb k slot) e)
  where
    by : (b : Bool) → (b || false) ≡ true → b ≡ true
    by true t = refl
    by false t = t

among-same : (slot : ℕ) → is_among (slot ∷ []) slot ≡ true
among-same slot = ap (λ b. b || false) (eq-eqb slot slot refl)

-- and the module has one less
pub one-label-less : (area : Module) (slot : ℕ) (own : Label) → slot < area.slots → area.at slot ≡ Some own → number any_label (without_slots (is_among (slot ∷ [])) area) + 1 ≡ number any_label area
one-label-less area slot own lt is =
    let changed = count-change any_label any_label area.at (without_slots (is_among (slot ∷ [])) area).at slot area.slots lt (λ k below differ. sym (ap (λ b. one any_label (cond (b || false) None (area.at k))) (ne_eqb k slot differ))) in
    let was : one any_label (area.at slot) ≡ 1 = ap (one any_label) is in
    let now : one any_label ((without_slots (is_among (slot ∷ [])) area).at slot) ≡ 0 = ap (λ b. one any_label (cond b None (area.at slot))) (among-same slot) in
    omega (arith, changed, was, now)

module _ (L : Labels) (bounded : IsBounded L) (u : List ℕ) (m slot : ℕ) (own : Label) (slot_within : slot < (L m).slots) (is : (L m).at slot ≡ Some own) (has_own : has u own ≡ true) (only : HasOnly u (L m) own) where
  abbrev pub M : Labels
  M = without_slots_at m (slot ∷ []) L

  confined : IsConfined u m L M
  confined = confined-by u m (without_slots (is_among (slot ∷ [])) (L m)) L (freed-other u (L m) (is_among (slot ∷ [])) (λ k l freed at.
      let same : k ≡ slot = among-one slot k freed in
      subst (λ (a : Label). has u a ≡ true) (some_is (sym is ∙ sym (ap (L m).at same) ∙ at)) has_own))

  -- another label with the uuid would be a second one
  alone : (k : ℕ) (l : Label) → (L m).at k ≡ Some l → has u l ≡ true → k ≡ slot
  alone k l at h =
      count-one any_label (of_uuid u (L m)).at (L m).slots (omega (arith, only.once)) k slot l own (within L bounded m k l at) slot_within (label_if-passes (has u) ((L m).at k) l at h) (label_if-passes (has u) ((L m).at slot) own is has_own) refl refl

  none-left : HasNone u (without_slots (is_among (slot ∷ [])) (L m))
  none-left k l at = by (is_among (slot ∷ []) k) refl at
    where
      apart : None ≡ Some l → ⊥
      apart e = cc

      clash : true ≡ false → ⊥
      clash e = cc

      by : (b : Bool) → is_among (slot ∷ []) k ≡ b → cond b None ((L m).at k) ≡ Some l → has u l ≡ false
      by true e gone = absurd (apart gone)
      by false e there = elim (both (has u l)) [
        | inl h ↦ absurd (clash (sym (among-same slot) ∙ sym (ap (is_among (slot ∷ [])) (alone k l there h)) ∙ e))
        | inr f ↦ f
      ]

  pub loses : (r : Region) (position : ℕ) → (member_at r position).handle ≡ m → LosesLabel r u position L M
  loses r position handle = record {
    confined = subst (λ h. IsConfined u h L M) (sym handle) confined;
    none = subst (λ h. HasNone u (M h)) (sym handle) (subst (HasNone u) (sym (with_module-here m (without_slots (is_among (slot ∷ [])) (L m)) L)) none-left);
  }
