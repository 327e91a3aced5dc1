-- All modules and regions once a module has given up its held labels with a uuid, and what a stop leaves.
use Rattle.std.proofs.Common.{◌≡◌, inl, inr, ℕ, ◌<◌, false, List, length, get_or, sym, ap, subst, ◌∙◌}
use Rattle.std.specs.Prelude.{◌||◌, Some}
use Rattle.std.specs.List.{All, AllZip}
use Rattle.label_codec.specs.declared.label.Label.{Label}
use Rattle.label_codec.specs.ModuleLabels.{Labels, Module, has, number}
use Rattle.label_area.specs.Flips.{is_among}
use Rattle.region_map.specs.declared.platform.Platform.{Platform}
use Rattle.label_table.specs.Fates.{held_count, is_dead}
use Rattle.label_table.specs.Tables.{state}
use Rattle.region_labels.specs.declared.modules.LoadedModule.{LoadedModule}
use Rattle.region_labels.specs.declared.region.RegionLabels.{RegionLabels}
use Rattle.region_labels.specs.Fates.{platform_of, with_regions}
use Rattle.region_labels.specs.Modules.{dimm_of, labels_in, module_in}
use Rattle.region_labels.specs.Regions.{IsOver}
use Rattle.region_labels.specs.Changes.{dimm_at}
use Rattle.region_labels.specs.Rooms.{KeepsRegion}
use Rattle.region_labels.proofs.ChangedModules.{dimm-at, labels-at}
use Rattle.module_flips.specs.Flips.{IsFreedAt, standing_in, with_free, without_slots_at}
use Rattle.module_flips.specs.Stops.{IsOneOf}
use Rattle.module_flips.specs.Together.{IsTogether}
use Rattle.module_flips.proofs.Together.{same-regions}
use Rattle.module_flips.specs.Releases.{IsBeforeOrReleased, IsReleasedTo, has_or_is_dead, released_slots, released_state}
use Rattle.module_flips.specs.Sweeps.{IsSwept}
use Rattle.module_flips.proofs.FreedModules.{get_or-any, others-stay, stays-together}
use Rattle.module_flips.proofs.Released.{count-held, dead-otherwise, or_neither, state-released}
use Rattle.module_flips.proofs.Sweeping.{all-bounded, among-label, swept}

module _ (ms : List LoadedModule) (rs : List RegionLabels) (seat : ℕ) (lt : seat < length ms) (together : IsTogether ms rs) (u : List ℕ) (some : 0 < held_count (platform_of rs) (labels_in ms) (dimm_at ms seat) (has u)) (x : LoadedModule) where
  abbrev P : Platform
  P = platform_of rs

  abbrev L : Labels
  L = labels_in ms

  abbrev pub here : LoadedModule
  here = get_or ms seat x

  abbrev pub freed_slots : List ℕ
  freed_slots = released_slots P L u here

  abbrev pub left : Labels
  left = without_slots_at (dimm_at ms seat) freed_slots L

  here-is : L (dimm_at ms seat) ≡ module_in here
  here-is = labels-at ms seat x together.once lt

  named : here.dimm ≡ dimm_at ms seat
  named = sym (dimm-at ms seat x lt)

  -- the labels with the uuid are counted
  pub count-is : number (has u) (module_in here) ≡ held_count P L (dimm_at ms seat) (has u)
  count-is = ap (number (has u)) (sym here-is) ∙ count-held P L (all-bounded ms together.in_use) (dimm_at ms seat) u some

  each : (k : ℕ) (l : Label) → (L (dimm_at ms seat)).at k ≡ Some l → is_among freed_slots k ≡ (has u l || is_dead P L (dimm_at ms seat) l)
  each k l at =
      among-label here (together.in_use seat x lt) (has_or_is_dead P L u here) k l (sym (ap (λ (N : Module). N.at k) here-is) ∙ at) ∙ ap (λ h. has u l || is_dead P L h l) named

  left-state : state P left ≡ released_state P (dimm_at ms seat) u (state P L)
  left-state = state-released P L (all-bounded ms together.in_use) (dimm_at ms seat) u some together.disjoint (is_among freed_slots) each

  left-dead : (l : Label) → has_or_is_dead P L u here l ≡ false → is_dead P left here.dimm l ≡ false
  left-dead l neither =
      let alive = or_neither (has u l) (is_dead P L here.dimm l) neither in
      dead-otherwise P L (all-bounded ms together.in_use) (dimm_at ms seat) u some together.disjoint (is_among freed_slots) each here.dimm l alive.0 ∙ alive.1

  -- labels before the release, or after it
  pub keeps-or-releases : (slots : List ℕ) → slots ≡ freed_slots → (labels : Labels) → IsOneOf L (without_slots_at (dimm_at ms seat) slots L) labels → IsBeforeOrReleased P (dimm_at ms seat) u L labels
  keeps-or-releases slots same labels one = elim one [
    | inl e ↦ inl (ap (state P) e)
    | inr e ↦ inr (ap (state P) e ∙ ap (λ ss. state P (without_slots_at (dimm_at ms seat) ss L)) same ∙ left-state)
  ]

  module _ (now : List LoadedModule) (regions : List RegionLabels) (freed : IsFreedAt ms now seat freed_slots) (labels : labels_in now ≡ left) (room : RegionLabels → ℕ) (kept : AllZip (KeepsRegion room) rs regions)
      (over : All (IsOver now) regions) where
    same-platform : platform_of regions ≡ P
    same-platform = ap with_regions (same-regions room rs regions kept)

    now-swept : (d : LoadedModule) → IsSwept (platform_of regions) (labels_in now) (get_or now seat d)
    now-swept d =
        let same : get_or ms seat d ≡ here = sym (get_or-any ms seat lt x d) in
        subst (λ (q : Platform). IsSwept q (labels_in now) (get_or now seat d)) (sym same-platform)
        (swept here (together.in_use seat x lt) (has_or_is_dead P L u here) P (labels_in now) (get_or now seat d) (freed.changed.dimm d ∙ ap dimm_of same)
        (λ l neither. ap (λ (q : Labels). is_dead P q here.dimm l) labels ∙ left-dead l neither)
        (freed.standing d ∙ ap (λ (m : LoadedModule). with_free freed_slots (standing_in m)) same))

    pub released-to : IsReleasedTo ms rs now regions seat u
    released-to = record {
      others = others-stay ms rs seat lt together freed_slots now freed;
      together = stays-together ms rs seat lt together freed_slots now freed room regions kept over;
      state_is = (λ i. state (same-platform i) (labels i)) ∙ left-state;
      swept = now-swept;
    }
