-- Slots of one module are freed, among the labels of all.
use Rattle.std.proofs.Common.{◌≡◌, ◌≢◌, inl, inr, ℕ, Bool, true, false, cond, eqb, Option, Some, None, refl, sym, ap, subst, ◌∙◌, eq-eqb, eqb-true}
use Rattle.std.proofs.lemmas.Bool.{cases_eq}
use Rattle.label_codec.specs.declared.label.Label.{Label}
use Rattle.label_codec.specs.ModuleChanges.{with_module, without_slots}
use Rattle.label_codec.specs.ModuleLabels.{Labels, Module}

module _ (L : Labels) (dimm : ℕ) (freed : ℕ → Bool) where
  abbrev pub rest : Labels
  rest = with_module dimm (without_slots freed (L dimm)) L

  pub rest-there : rest dimm ≡ without_slots freed (L dimm)
  rest-there = ap (λ b. cond b (without_slots freed (L dimm)) (L dimm)) (eq-eqb dimm dimm refl)

  pub rest-elsewhere : (handle : ℕ) → handle ≢ dimm → rest handle ≡ L handle
  rest-elsewhere handle differ = by (eqb handle dimm) refl
    where
      by : (b : Bool) → eqb handle dimm ≡ b → cond b (without_slots freed (L dimm)) (L handle) ≡ L handle
      by true e = absurd (differ (eqb-true handle dimm e))
      by false e = refl

  -- what a flip keeps of each module
  pub same-part : {A : Type 0} (part : Module → A) → part (without_slots freed (L dimm)) ≡ part (L dimm) → (handle : ℕ) → part (rest handle) ≡ part (L handle)
  same-part part here handle = elim (cases_eq handle dimm) [
    | inl e ↦ subst (λ h. part (rest h) ≡ part (L h)) (sym e) (ap part rest-there ∙ here)
    | inr differ ↦ ap part (rest-elsewhere handle differ)
  ]

  pub at-there : (slot : ℕ) → (rest dimm).at slot ≡ cond (freed slot) None ((L dimm).at slot)
  at-there slot = ap (λ (m : Module). m.at slot) rest-there

-- a label that is left was there
pub left-by : (g : Bool) (o : Option Label) (l : Label) → cond g None o ≡ Some l → (g ≡ false) × (o ≡ Some l)
left-by true o l e = absurd cc
left-by false o l e = (refl, e)

pub none-by : (b : Bool) → cond {A = Option Label} b None None ≡ None
none-by true = refl
none-by false = refl
