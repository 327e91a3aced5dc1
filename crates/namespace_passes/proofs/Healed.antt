-- The label of one position is healed by a flip.
use Rattle.std.proofs.Common.{◌≡◌, inl, inr, ℕ, zero, suc, ◌<◌, List, length, None, refl, sym, subst, arith}
use Rattle.std.proofs.lemmas.Bool.{cases_eq}
use Rattle.std.specs.Prelude.{slice_index_or}
use Rattle.label_codec.specs.declared.label.Label.{Label}
use Rattle.region_map.specs.declared.platform.Region.{Region}
use Rattle.region_labels.specs.declared.modules.LoadedModule.{LoadedModule}
use Rattle.region_labels.specs.declared.region.RegionLabels.{RegionLabels}
use Rattle.region_labels.specs.Fates.{platform_of}
use Rattle.region_labels.specs.Modules.{labels_in, module_in}
use Rattle.module_flips.specs.Flips.{first_slot_in}
use Rattle.namespace_passes.specs.declared.places.LabelPlace.{LabelPlace}
use Rattle.namespace_passes.specs.Healing.{CanTurn, StandsAt}
use Rattle.namespace_passes.specs.Labels.{healed_label}
use Rattle.namespace_passes.specs.Namespaces.{IsTurned}
use Rattle.namespace_passes.proofs.HealFlips.{after, flip-makes, led-at}
use Rattle.namespace_passes.proofs.Replaced.{IsLedAt}
use Rattle.namespace_passes.proofs.HealTurns.{turn-behind, turn-first}

module _ (ms : List LoadedModule) (rs : List RegionLabels) (region : Region) (u : List ℕ) (lead : Label) (position : ℕ) (lt : position < length region.members) (turn : CanTurn ms rs region u lead position)
    (place : LabelPlace) (at : StandsAt ms region u position place) where
  pub flip-turn : (healed : Label) → healed ≡ healed_label lead place.label → (within : (d : LoadedModule) → first_slot_in (slice_index_or ms place.seat d) < (module_in (slice_index_or ms place.seat d)).slots)
      → (was_free : (d : LoadedModule) → (module_in (slice_index_or ms place.seat d)).at (first_slot_in (slice_index_or ms place.seat d)) ≡ None)
      → (d : LoadedModule) → IsTurned (platform_of rs) region u lead position (labels_in ms) (after ms rs region u position lt turn.can place at healed within was_free d)
  flip-turn healed healed_is within was_free =
      subst (λ (l : Label). (d : LoadedModule) → IsTurned (platform_of rs) region u lead position (labels_in ms) (after ms rs region u position lt turn.can place at l within was_free d)) (sym healed_is)
      (flip-makes ms rs region u position lt turn.can place at (healed_label lead place.label) within was_free (IsTurned (platform_of rs) region u lead position (labels_in ms)) (λ slot places.
      elim (cases_eq position 0) [
        | inl first ↦ turn-first (platform_of rs) region u (labels_in ms) lead position led turn.can.same_sizes place.slot slot place.label places first (turn.last first)
        | inr behind ↦ turn-behind (platform_of rs) region u (labels_in ms) lead position led turn.can.same_sizes place.slot slot place.label places (above position behind)
      ]))
    where
      led : IsLedAt (platform_of rs) region u (labels_in ms) lead position
      led = led-at ms rs region u position lt turn.can place at lead turn.leads

      above : (k : ℕ) → (k ≡ 0 → ⊥) → 0 < k
      above zero differ = absurd (differ refl)
      above (suc k) differ = omega arith
