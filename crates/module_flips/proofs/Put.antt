-- A label is put into the module at a seat.
use Rattle.std.proofs.Common.{◌≡◌, inl, inr, ℕ, ◌<◌, Bool, true, false, cond, eqb, List, [], ◌∷◌, length, get_or, set, map, Option, Some, None, refl, sym, ap, subst, ◌∙◌, eq-eqb, arith}
use Rattle.std.specs.List.{All, cons_option}
use Rattle.std.specs.Option.{option_map}
use Rattle.std.specs.Prelude.{◌==◌, IfSome, IsSome}
use Rattle.std.proofs.lemmas.Bool.{cond-false, cond-true, ne_eqb}
use Rattle.std.proofs.lemmas.List.{length-map}
use Rattle.std.proofs.lemmas.List.Folds.{list_any_at}
use Rattle.rig_trait.specs.declared.shown.Shown.{Ghosts}
use Rattle.rig_trait.specs.Frames.{LeavesOnly}
use Rattle.label_codec.specs.declared.label.Label.{Label}
use Rattle.label_codec.specs.ModuleChanges.{with_module, without_slots}
use Rattle.label_codec.specs.ModuleChanges as labels_flip
use Rattle.label_codec.specs.ModuleLabels.{Module}
use Rattle.label_area.specs.Flips.{LeftByFlip, Standing, after_put, at_slot, is_among, replaced}
use Rattle.label_area.specs.LoadedAreas.{LoadedArea}
use Rattle.region_labels.specs.declared.modules.LoadedModule.{LoadedModule}
use Rattle.region_labels.specs.declared.modules.ModuleArea.{ModuleArea}
use Rattle.region_labels.specs.declared.modules.ModuleArea.TheVariants.{Ready}
use Rattle.region_labels.specs.declared.region.RegionLabels.{RegionLabels}
use Rattle.region_labels.specs.Modules.{EachOnce, dimm_of, labels_in, module_in}
use Rattle.region_labels.specs.Regions.{IsOver}
use Rattle.region_labels.specs.declared.by_slot.SlotLabel.{SlotLabel}
use Rattle.region_labels.specs.Changes.{dimm_at}
use Rattle.region_labels.specs.Flips.{LosesLabels, ReplacesLabel, StoodBeforePut, lost_labels}
use Rattle.region_labels.specs.SlotLabels.{AreApart, replaced_label, slot_labels}
use Rattle.region_labels.proofs.AreaFlips.{loses-slots}
use Rattle.region_labels.proofs.ChangedModules.{labels-after}
use Rattle.module_flips.specs.Flips.{CanPut, first_slot_in, standing_in, with_put, with_put_at}
use Rattle.module_flips.specs.Stored.{StandsIn}
use Rattle.module_flips.specs.Passes.{LeftByPass}
use Rattle.module_flips.specs.Stops.{IsOneOf}
use Rattle.module_flips.proofs.Freed.{at-seat, changed, in_use-bounded, new-at, own-labels, seat-dimm}
use Rattle.module_flips.proofs.Standing.{stands}
use Rattle.module_flips.proofs.Turned.{one_flip}

-- what a stop leaves of a put into the area of a module
pub put-left : {R : Type 0} (m : Ghosts R) (old new : R) (dimm : ℕ) (stored : ModuleArea) (area : LoadedArea) (label : Label) (replaces : Option ℕ) → stored ≡ Ready area → area.dimm ≡ dimm
    → LeavesOnly m old new (LeftByFlip (m.areas old) (m.said old) area.dimm (after_put area label replaces))
    → LeavesOnly m old new (LeftByFlip (m.areas old) (m.said old) dimm
    (with_put (first_slot_in (record { dimm = dimm; area = stored })) label replaces (standing_in (record { dimm = dimm; area = stored }))))
put-left m old new dimm stored area label replaces is own left =
    subst (λ (a : ModuleArea). LeavesOnly m old new (LeftByFlip (m.areas old) (m.said old) dimm (with_put (first_slot_in (record { dimm = dimm; area = a })) label replaces (standing_in (record { dimm = dimm; area = a }))))) (sym is)
    (subst (λ d. LeavesOnly m old new (LeftByFlip (m.areas old) (m.said old) d (after_put area label replaces))) own left)

replaced-apart : (replaces : Option ℕ) → AreApart (replaced replaces)
replaced-apart None = record { apart = λ i j i_lt j_lt. absurd (omega arith) }
replaced-apart (Some slot) = record { apart = λ i j i_lt j_lt. absurd (omega arith) }

lost-are : (area : Module) (replaces : Option ℕ) → slot_labels area (replaced replaces) ≡ lost_labels (replaced_label area replaces)
lost-are area None = refl
lost-are area (Some slot) = by (area.at slot)
  where
    by : (label : Option Label) → cons_option (option_map (λ (l : Label). record { uuid = l.uuid; slot = slot }) label) []
        ≡ lost_labels (option_map (λ (l : Label). record { uuid = l.uuid; slot = slot }) label)
    by None = refl
    by (Some l) = refl

free-between : (b : Bool) (o : Option Label) → o ≡ None → cond b None o ≡ None
free-between true o e = refl
free-between false o e = e

module _ (ms : List LoadedModule) (seat : ℕ) (lt : seat < length ms) (once : EachOnce ms) (x new : LoadedModule) (is : x ≡ get_or ms seat x) (dimm : new.dimm ≡ (get_or ms seat x).dimm)
    (label : Label) (replaces : Option ℕ) (can : CanPut (get_or ms seat x) replaces) (within : first_slot_in (get_or ms seat x) < (module_in (get_or ms seat x)).slots)
    (was_free : (module_in (get_or ms seat x)).at (first_slot_in (get_or ms seat x)) ≡ None) where
  abbrev pub here : LoadedModule
  here = get_or ms seat x

  abbrev pub slot : ℕ
  slot = first_slot_in here

  abbrev pub between : Module
  between = without_slots (is_among (replaced replaces)) (module_in here)

  abbrev pub after : Module
  after = labels_flip.with_label slot (at_slot slot label) between

  replaces-label : ReplacesLabel (module_in here) after (record { uuid = label.uuid; slot = slot }) (replaced_label (module_in here) replaces)
  replaces-label = record {
    between = between;
    loses = subst (LosesLabels (module_in here) between) (lost-are (module_in here) replaces)
        (loses-slots (module_in here) (in_use-bounded here can.in_use) (replaced replaces) (replaced-apart replaces));
    gains = record {
      label = at_slot slot label;
      has_uuid = refl;
      puts = record {
        slots = refl;
        within = within;
        was_free = free-between (is_among (replaced replaces) slot) ((module_in here).at slot) was_free;
        now_live = cond-true (eqb slot slot) _ _ (eq-eqb slot slot refl);
        others = λ k differ. cond-false (eqb k slot) _ _ (ne_eqb k slot differ);
      };
    };
  }

  -- what a stop leaves
  pub either-put : {R : Type 0} (m : Ghosts R) (old now : R) → All (StandsIn (m.areas old)) ms
      → (StandsIn (m.areas old) here → LeavesOnly m old now (LeftByFlip (m.areas old) (m.said old) here.dimm (with_put slot label replaces (standing_in here))))
      → LeavesOnly m old now (LeftByPass (dimm_at ms seat ∷ []) (map dimm_of ms) (m.said old) (m.areas old) (IsOneOf (labels_in ms) (with_put_at (dimm_at ms seat) slot label replaces (labels_in ms))))
  either-put m old now all flip = subst (λ h. LeavesOnly m old now (LeftByPass (h ∷ []) (map dimm_of ms) (m.said old) (m.areas old) (IsOneOf (labels_in ms) (with_put_at (dimm_at ms seat) slot label replaces (labels_in ms))))) (sym (seat-dimm ms seat lt once x new is dimm)) (one_flip (map dimm_of ms) (IsOneOf (labels_in ms) (with_put_at (dimm_at ms seat) slot label replaces (labels_in ms))) here.dimm (with_put slot label replaces (standing_in here)) (labels_in ms)
      (stands ms (m.areas old) all)
      (list_any_at (λ h. h == here.dimm) (map dimm_of ms) seat 0 (subst (λ n. seat < n) (sym (length-map ms dimm_of)) lt) (eq-eqb (get_or (map dimm_of ms) seat 0) here.dimm (seat-dimm ms seat lt once x new is dimm)))
      (flip (subst (StandsIn (m.areas old)) (at-seat ms seat lt once x new is dimm here) (all seat here lt)))
      (inl refl)
      (inr ((λ i. with_module (sym (seat-dimm ms seat lt once x new is dimm) i) (labels_flip.with_label slot (at_slot slot label) (without_slots (is_among (replaced replaces)) (sym (own-labels ms seat lt once x new is dimm) i))) (labels_in ms)))))

  module _ (put : standing_in new ≡ with_put slot label replaces (standing_in here)) where
    now-labels : module_in new ≡ after
    now-labels = ap (λ (s : Standing). s.labels) put

    pub labels-put : labels_in (set ms seat new) ≡ with_put_at (dimm_at ms seat) slot label replaces (labels_in ms)
    labels-put = labels-after ms (set ms seat new) seat new once (changed ms seat lt once x new is dimm)
        ∙ ap (λ (m : Module). with_module (dimm_at ms seat) m (labels_in ms)) (ap module_in (new-at ms seat lt once x new is dimm new) ∙ now-labels
        ∙ ap (λ (m : Module). labels_flip.with_label slot (at_slot slot label) (without_slots (is_among (replaced replaces)) m)) (sym (own-labels ms seat lt once x new is dimm)))

    pub stood-put : (regions : List RegionLabels) (lost : Option SlotLabel) → lost ≡ replaced_label (module_in here) replaces → All (IsOver ms) regions → StoodBeforePut (set ms seat new) seat (record { uuid = label.uuid; slot = slot }) lost regions
    stood-put regions lost lost_is over = record {
      before = ms;
      over = over;
      changed = changed ms seat lt once x new is dimm;
      flip = λ d. subst (λ m. ReplacesLabel (module_in m) (module_in (get_or (set ms seat new) seat d)) (record { uuid = label.uuid; slot = slot }) lost) (sym (at-seat ms seat lt once x new is dimm d))
          (subst (λ m. ReplacesLabel (module_in here) (module_in m) (record { uuid = label.uuid; slot = slot }) lost) (sym (new-at ms seat lt once x new is dimm d))
          (subst (λ a. ReplacesLabel (module_in here) a (record { uuid = label.uuid; slot = slot }) lost) (sym now-labels)
          (subst (λ o. ReplacesLabel (module_in here) after (record { uuid = label.uuid; slot = slot }) o) (sym lost_is) replaces-label)));
    }

-- where no label is lost, none is replaced
pub none-replaced : (area : Module) (replaces : Option ℕ) → IfSome replaces (λ slot. IsSome (area.at slot)) → replaced_label area replaces ≡ None → replaces ≡ None
none-replaced area None there none = refl
none-replaced area (Some k) there none = absurd (by (area.at k) there none)
  where
    apart : {A : Type 0} → false ≡ true → A
    apart e = absurd cc

    by : (o : Option Label) → IsSome o → option_map {U = SlotLabel} (λ (l : Label). record { uuid = l.uuid; slot = k }) o ≡ None → ⊥
    by None some e = apart some
    by (Some l) some e = cc
