-- All modules and regions after a sweep of one module, and what a stop leaves.
use Rattle.std.proofs.Common.{◌≡◌, inl, inr, ℕ, zero, suc, ◌<◌, ◌≤◌, ◌&&◌, ◌++◌, Bool, true, false, cond, is_some, [], ◌∷◌, List, length, get_or, Option, Some, None, refl, sym, ap, subst, ◌∙◌, arith}
use Rattle.std.specs.List.{All, AllZip}
use Rattle.std.specs.Option.{option_map_or}
use Rattle.std.proofs.lemmas.Bool.{and_parts}
use Rattle.label_codec.specs.declared.label.Label.{Label}
use Rattle.label_codec.specs.ModuleLabels.{Labels, Module}
use Rattle.label_area.specs.Flips.{is_among}
use Rattle.region_map.specs.declared.platform.Platform.{Platform}
use Rattle.label_table.specs.Fates.{is_dead}
use Rattle.label_table.specs.Tables.{state}
use Rattle.region_labels.specs.declared.modules.LoadedModule.{LoadedModule}
use Rattle.region_labels.specs.declared.region.RegionLabels.{RegionLabels}
use Rattle.region_labels.specs.Fates.{platform_of, with_regions}
use Rattle.region_labels.specs.Modules.{dimm_of, labels_in, module_in}
use Rattle.region_labels.specs.Regions.{IsOver}
use Rattle.region_labels.specs.Changes.{dimm_at}
use Rattle.region_labels.specs.Rooms.{KeepsRegion}
use Rattle.region_labels.proofs.ChangedModules.{dimm-at, labels-at}
use Rattle.module_flips.specs.Flips.{IsFreedAt, is_used_in, standing_in, with_free, without_slots_at}
use Rattle.module_flips.specs.Stops.{IsOneOf}
use Rattle.module_flips.specs.Together.{IsTogether}
use Rattle.module_flips.proofs.Together.{same-regions}
use Rattle.module_flips.specs.Sweeps.{IsSwept, IsSweptTo, is_dead_of, is_unwanted, slots_below, unwanted_slots}
use Rattle.module_flips.proofs.FreedModules.{get_or-any, no-more-entries, others-stay, stays-together}
use Rattle.module_flips.proofs.Slots.{among-true}
use Rattle.module_flips.proofs.Sweeping.{all-bounded, swept}
use Rattle.module_flips.proofs.Unwanted.{dead-as-before, state-kept}

none-below : (test : ℕ → Bool) (n : ℕ) → ((k : ℕ) → test k ≡ false) → slots_below test n ≡ []
none-below test zero none = refl
none-below test (suc n) none = (λ i. none-below test n none i ++ (cond (none n i) (n ∷ []) []))

and-false : (b : Bool) → (b && false) ≡ false
and-false true = refl
and-false false = refl

module _ (ms : List LoadedModule) (rs : List RegionLabels) (seat : ℕ) (lt : seat < length ms) (together : IsTogether ms rs) (x : LoadedModule) where
  abbrev P : Platform
  P = platform_of rs

  abbrev L : Labels
  L = labels_in ms

  abbrev pub here : LoadedModule
  here = get_or ms seat x

  abbrev pub freed_slots : List ℕ
  freed_slots = unwanted_slots (is_dead_of P L here) here

  abbrev pub left : Labels
  left = without_slots_at (dimm_at ms seat) freed_slots L

  unwanted : (k : ℕ) → is_among freed_slots k ≡ true → option_map_or (is_dead P L (dimm_at ms seat)) ((L (dimm_at ms seat)).at k) true ≡ true
  unwanted k among =
      let there = among-true (is_unwanted (is_dead_of P L here) here) (module_in here).slots k among in
      let dead : option_map_or (is_dead P L here.dimm) ((module_in here).at k) true ≡ true = (and_parts _ _ there.1).1 in
      subst (λ h. option_map_or (is_dead P L h) ((L (dimm_at ms seat)).at k) true ≡ true) (sym (dimm-at ms seat x lt))
      (subst (λ (m : Module). option_map_or (is_dead P L here.dimm) (m.at k) true ≡ true) (sym (labels-at ms seat x together.once lt)) dead)

  left-state : state P left ≡ state P L
  left-state = state-kept P L (dimm_at ms seat) (is_among freed_slots) unwanted together.disjoint (all-bounded ms together.in_use)

  left-dead : (handle : ℕ) (label : Label) → is_dead P left handle label ≡ is_dead P L handle label
  left-dead = dead-as-before P L (dimm_at ms seat) (is_among freed_slots) unwanted together.disjoint (all-bounded ms together.in_use)

  -- the module is swept already
  pub swept-already : freed_slots ≡ [] → IsSweptTo ms rs ms rs seat
  swept-already none = record {
    others = record { each = refl; others = λ place d differ. refl };
    together = record { dimms = refl; sizes = refl; slots = refl; same_regions = refl; together = together };
    same_state = refl;
    swept = λ d.
        let same : get_or ms seat d ≡ here = sym (get_or-any ms seat lt x d) in
        swept here (together.in_use seat x lt) (is_dead_of P L here) P L (get_or ms seat d) (ap dimm_of same) (λ l alive. alive)
        (ap standing_in same ∙ ap (λ slots. with_free slots (standing_in here)) (sym none));
    entries = λ place d p_lt. record { region = refl; entries = omega arith; room = omega arith };
  }

  -- labels before the sweep, or after it, stand for the same state
  pub keeps-state : (slots : List ℕ) → slots ≡ freed_slots → (labels : Labels) → IsOneOf L (without_slots_at (dimm_at ms seat) slots L) labels → state P labels ≡ state P L
  keeps-state slots same labels one = elim one [
    | inl e ↦ ap (state P) e
    | inr e ↦ ap (state P) e ∙ ap (λ ss. state P (without_slots_at (dimm_at ms seat) ss L)) same ∙ left-state
  ]

  -- a module that is swept has no slot to be freed
  pub none-unwanted : ((d : LoadedModule) → IsSwept P L (get_or ms seat d)) → freed_slots ≡ []
  none-unwanted clean = none-below (is_unwanted (is_dead_of P L here) here) (module_in here).slots (λ k. by k ((module_in here).at k) refl)
    where
      swept_here : IsSwept P L here
      swept_here = clean x

      by : (k : ℕ) (o : Option Label) → (module_in here).at k ≡ o → is_unwanted (is_dead_of P L here) here k ≡ false
      by k None e = ap (λ b. b && option_map_or (is_dead_of P L here) ((module_in here).at k) true) (swept_here.no_junk k ∙ ap is_some e)
      by k (Some l) e = ap (λ o. is_used_in here k && option_map_or (is_dead_of P L here) o true) e ∙ ap (λ b. is_used_in here k && b) (swept_here.no_dead k l e) ∙ and-false (is_used_in here k)

  module _ (now : List LoadedModule) (regions : List RegionLabels) (freed : IsFreedAt ms now seat freed_slots) (labels : labels_in now ≡ left) (room : RegionLabels → ℕ) (kept : AllZip (KeepsRegion room) rs regions)
      (over : All (IsOver now) regions) (grows : (r : RegionLabels) → r.index.room ≤ room r) where
    same-platform : platform_of regions ≡ P
    same-platform = ap with_regions (same-regions room rs regions kept)

    now-swept : (d : LoadedModule) → IsSwept (platform_of regions) (labels_in now) (get_or now seat d)
    now-swept d =
        let same : get_or ms seat d ≡ here = sym (get_or-any ms seat lt x d) in
        subst (λ (q : Platform). IsSwept q (labels_in now) (get_or now seat d)) (sym same-platform)
        (swept here (together.in_use seat x lt) (is_dead_of P L here) P (labels_in now) (get_or now seat d) (freed.changed.dimm d ∙ ap dimm_of same)
        (λ l alive. ap (λ (q : Labels). is_dead P q here.dimm l) labels ∙ left-dead here.dimm l ∙ alive)
        (freed.standing d ∙ ap (λ (m : LoadedModule). with_free freed_slots (standing_in m)) same))

    pub swept-to : IsSweptTo ms rs now regions seat
    swept-to = record {
      others = others-stay ms rs seat lt together freed_slots now freed;
      together = stays-together ms rs seat lt together freed_slots now freed room regions kept over;
      same_state = (λ i. state (same-platform i) (labels i)) ∙ left-state;
      swept = now-swept;
      entries = no-more-entries ms rs seat lt together freed_slots now freed room regions kept over labels grows;
    }
