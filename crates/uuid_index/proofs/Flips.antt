-- A label that is put into a module's slot, or taken out of it, as the flips of an area do.
use Rattle.std.proofs.Common.{◌≡◌, ◌≢◌, ℕ, ◌<◌, eqb, List, Some, None, length, get_or, refl, subst, sym, eq-eqb}
use Rattle.std.proofs.lemmas.Bool.{cond-true, cond-false, ne_eqb}
use Rattle.label_codec.specs.declared.label.Label.{Label}
use Rattle.label_codec.specs.ModuleChanges.{with_label, with_module, without_slots}
use Rattle.label_codec.specs.ModuleLabels.{Labels, Module}
use Rattle.uuid_index.specs.Entries.{entry_of}
use Rattle.uuid_index.specs.Labels.{GainsLabel, IsOnlyOnce, LosesLabel, PutsLabel}

module _ (labels : Labels) (handle : ℕ) (area : Module) where
  at_handle : with_module handle area labels handle ≡ area
  at_handle = cond-true _ _ _ (eq-eqb handle handle refl)

  elsewhere : (other : ℕ) → other ≢ handle → with_module handle area labels other ≡ labels other
  elsewhere other differs = cond-false _ _ _ (ne_eqb other handle differs)

module _ (modules : List ℕ) (position slot : ℕ) (label : Label) (labels : Labels) (within : position < length modules) (only_once : IsOnlyOnce modules position) where
  abbrev handle : ℕ
  handle = get_or modules position 0

  pub gains_label : slot < (labels handle).slots → (labels handle).at slot ≡ None → GainsLabel modules (entry_of label position slot) labels (with_module handle (with_label slot label (labels handle)) labels)
  gains_label lt free = record {
    within = within;
    only_once = only_once;
    label = label;
    has_uuid = refl;
    puts = subst (λ (area : Module). PutsLabel (labels handle) area slot label) (sym (at_handle labels handle (with_label slot label (labels handle)))) (record {
      slots = refl;
      within = lt;
      was_free = free;
      now_live = cond-true _ _ _ (eq-eqb slot slot refl);
      others = λ k differs. cond-false _ _ _ (ne_eqb k slot differs);
    });
    others = elsewhere labels handle (with_label slot label (labels handle));
  }

  pub loses_label : slot < (labels handle).slots → (labels handle).at slot ≡ Some label → LosesLabel modules (entry_of label position slot) labels (with_module handle (without_slots (λ k. eqb k slot) (labels handle)) labels)
  loses_label lt live = record {
    within = within;
    only_once = only_once;
    label = label;
    has_uuid = refl;
    puts = subst (λ (area : Module). PutsLabel area (labels handle) slot label) (sym (at_handle labels handle (without_slots (λ k. eqb k slot) (labels handle)))) (record {
      slots = refl;
      within = lt;
      was_free = cond-true _ _ _ (eq-eqb slot slot refl);
      now_live = live;
      others = λ k differs. sym (cond-false _ _ _ (ne_eqb k slot differs));
    });
    others = λ other differs. sym (elsewhere labels handle (without_slots (λ k. eqb k slot) (labels handle)) other differs);
  }
