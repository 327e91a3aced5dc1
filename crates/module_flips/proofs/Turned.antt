-- What a stop within a flip of one module leaves is seen in the labels of all modules: those before the flip, or those after it.
use Rattle.std.proofs.Common.{◌≡◌, ◌⊎◌, inl, inr, ◌≢◌, ℕ, Bool, true, false, cond, eqb, List, [], ◌∷◌, refl, sym, ap, subst, ◌∙◌, eq-eqb, eqb-true}
use Rattle.std.specs.Prelude.{◌==◌, ◌||◌}
use Rattle.std.specs.List.{list_any}
use Rattle.std.proofs.lemmas.Bool.{cases_eq}
use Rattle.rig_trait.specs.declared.shown.Shown.{Ghosts}
use Rattle.rig_trait.specs.Areas.{Areas}
use Rattle.rig_trait.specs.Frames.{LeavesOnly}
use Rattle.rig_trait.specs.Records.{CrashRecord}
use Rattle.rig_trait.proofs.Moments.{started, weakened}
use Rattle.label_codec.specs.ModuleChanges.{with_module}
use Rattle.label_codec.specs.ModuleLabels.{Labels}
use Rattle.label_codec.specs.declared.kind.AreaKind.TheVariants as kind
use Rattle.label_area.specs.Fair.{IsFair}
use Rattle.label_area.specs.Flips.{LeftByFlip, Standing, is_among}
use Rattle.label_area.specs.Modules.{module_at, module_of}
use Rattle.region_labels.specs.Modules.{without_labels}
use Rattle.module_flips.specs.Stored.{stored_labels}
use Rattle.module_flips.specs.Passes.{LeftByPass}
use Rattle.module_flips.specs.Stops.{LeftIn}

module _ (modules : List ℕ) (areas : Areas) (said : List ℕ) (dimm : ℕ) (after : Standing) (known : list_any (λ h. h == dimm) modules ≡ true) (c : CrashRecord) (left : LeftByFlip areas said dimm after c) where
  same_there : module_at c.areas dimm ≡ module_at areas dimm → (m : ℕ) → stored_labels modules c.areas m ≡ stored_labels modules areas m
  same_there here m = ap (λ N. cond (list_any (λ h. h == m) modules) N (without_labels kind.Missing)) (elim (cases_eq m dimm) [
    | inl e ↦ subst (λ j. module_at c.areas j ≡ module_at areas j) (sym e) here
    | inr differ ↦ ap module_of (left.others m differ)
  ])

  after_there : module_at c.areas dimm ≡ after.labels → (m : ℕ) → stored_labels modules c.areas m ≡ with_module dimm after.labels (stored_labels modules areas) m
  after_there here m = by (eqb m dimm) refl
    where
      by : (b : Bool) → eqb m dimm ≡ b → stored_labels modules c.areas m ≡ cond b after.labels (stored_labels modules areas m)
      by true e = subst (λ j. stored_labels modules c.areas j ≡ after.labels) (sym (eqb-true m dimm e)) ((λ i. cond (known i) (module_at c.areas dimm) (without_labels kind.Missing)) ∙ here)
      by false e = ap (λ N. cond (list_any (λ h. h == m) modules) N (without_labels kind.Missing)) (ap module_of (left.others m (λ same. absurd (false_true (sym e ∙ eq-eqb m dimm same)))))
        where
          false_true : false ≡ true → ⊥
          false_true f = cc

  pub either : (L : Labels) → L ≡ stored_labels modules areas → IsFair c → (stored_labels modules c.areas ≡ L) ⊎ (stored_labels modules c.areas ≡ with_module dimm after.labels L)
  either L stand fair = elim (left.flip fair) [
    | inl before ↦ inl ((λ i m. same_there (ap (λ (s : Standing). s.labels) before) m i) ∙ sym stand)
    | inr now ↦ inr ((λ i m. after_there (ap (λ (s : Standing). s.labels) now) m i) ∙ ap (with_module dimm after.labels) (sym stand))
  ]

pub is-one : (h dimm : ℕ) → h ≡ dimm → is_among (dimm ∷ []) h ≡ true
is-one h dimm same = ap (λ b. b || false) (eq-eqb h dimm same)

pub only-one : (dimm h : ℕ) → is_among (dimm ∷ []) h ≡ true → h ≡ dimm
only-one dimm h among = eqb-true h dimm (by (h == dimm) among)
  where
    by : (b : Bool) → (b || false) ≡ true → b ≡ true
    by true e = refl
    by false e = e

pub other-than : (dimm h : ℕ) → is_among (dimm ∷ []) h ≡ false → h ≢ dimm
other-than dimm h other same = apart (sym (is-one h dimm same) ∙ other)
  where
    apart : true ≡ false → ⊥
    apart e = cc

-- what fits the labels before a flip and those after it fits what a stop within the flip leaves
pub one_flip : {R : Type 0} {m : Ghosts R} {old new : R} (modules : List ℕ) (fits : Labels → Type 0) (dimm : ℕ) (after : Standing) (L : Labels)
    → L ≡ stored_labels modules (m.areas old) → list_any (λ h. h == dimm) modules ≡ true
    → LeavesOnly m old new (LeftByFlip (m.areas old) (m.said old) dimm after) → fits L → fits (with_module dimm after.labels L)
    → LeavesOnly m old new (LeftByPass (dimm ∷ []) modules (m.said old) (m.areas old) fits)
one_flip {R} {m} {old} {new} modules fits dimm after L stand known turn before now =
    weakened _ (LeftByPass (dimm ∷ []) modules (m.said old) (m.areas old) fits) (λ c left. record {
      left = record {
        said_is = left.said_is;
        labels = λ fair. elim (either modules (m.areas old) (m.said old) dimm after known c left L stand fair) [
          | inl e ↦ subst fits (sym e) before
          | inr e ↦ subst fits (sym e) now
        ];
      };
      others = λ h other. left.others h (other-than dimm h other);
    }) turn

-- before the first flip
pub no_flip : {R : Type 0} {m : Ghosts R} {old : R} (modules : List ℕ) (fits : Labels → Type 0) (L : Labels) → L ≡ stored_labels modules (m.areas old) → fits L → LeavesOnly m old old (LeftIn modules (m.said old) fits)
no_flip {R} {m} {old} modules fits L stand has = started {m = m} old (LeftIn modules (m.said old) fits) (λ c left. let is = m.now_is old c left in record {
  said_is = is.1;
  labels = λ fair. subst fits (stand ∙ sym (ap (stored_labels modules) is.0)) has;
})
