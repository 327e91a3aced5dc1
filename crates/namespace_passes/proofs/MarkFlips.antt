-- A flip of the module at a position marks the label there, or gives that of position 0 another name, too.
use Rattle.std.proofs.Common.{◌≡◌, inl, inr, ℕ, zero, suc, ◌<◌, true, List, length, Some, None, refl, sym, subst, arith}
use Rattle.std.specs.Prelude.{slice_index_or}
use Rattle.std.proofs.lemmas.Bool.{cases_eq}
use Rattle.label_codec.specs.declared.label.Label.{Label}
use Rattle.label_codec.specs.Flags.{is_updating}
use Rattle.label_codec.specs.ModuleLabels.{Labels}
use Rattle.region_map.specs.declared.platform.Platform.{Platform}
use Rattle.region_map.specs.declared.platform.Region.{Region}
use Rattle.label_table.specs.Belonging.{member_at}
use Rattle.label_table.specs.Wholes.{labels_with}
use Rattle.label_table.proofs.WholeUuids.{IsLed, whole-led}
use Rattle.region_labels.specs.declared.modules.LoadedModule.{LoadedModule}
use Rattle.region_labels.specs.declared.region.RegionLabels.{RegionLabels}
use Rattle.region_labels.specs.Fates.{platform_of}
use Rattle.region_labels.specs.Modules.{labels_in, module_in}
use Rattle.module_flips.specs.Flips.{first_slot_in, with_put_at}
use Rattle.namespace_passes.specs.declared.places.LabelPlace.{LabelPlace}
use Rattle.namespace_passes.specs.Healing.{CanHeal, StandsAt}
use Rattle.namespace_passes.proofs.HealFlips.{after, flip-makes, led-at}
use Rattle.namespace_passes.proofs.Replaced.{IsLedAt}
use Rattle.namespace_passes.specs.MarkedLabels.{marked_label, renamed_label}
use Rattle.namespace_passes.specs.Marking.{IsMarkedAt}
use Rattle.namespace_passes.specs.Renaming.{HasName}
use Rattle.namespace_passes.proofs.MarkTurns.{kept-mark, mark-behind, mark-first, named}

module _ (ms : List LoadedModule) (rs : List RegionLabels) (region : Region) (u : List ℕ) (position : ℕ) (lt : position < length region.members) (can : CanHeal ms rs region u)
    (place : LabelPlace) (at : StandsAt ms region u position place) where
  abbrev pub P : Platform
  P = platform_of rs

  abbrev pub L : Labels
  L = labels_in ms

  leader : IsLed region (labels_with u L)
  leader = whole-led region (labels_with u L) can.whole

  led : IsLedAt P region u L leader.lead position
  led = led-at ms rs region u position lt can place at leader.lead leader.leads

  pub kept-turn : is_updating place.label ≡ true → IsMarkedAt P region u position L L
  kept-turn = kept-mark P region u L leader.lead position led place.label at.only

  module _ (label : Label) (within : (d : LoadedModule) → first_slot_in (slice_index_or ms place.seat d) < (module_in (slice_index_or ms place.seat d)).slots)
      (was_free : (d : LoadedModule) → (module_in (slice_index_or ms place.seat d)).at (first_slot_in (slice_index_or ms place.seat d)) ≡ None) where
    abbrev made : LoadedModule → Labels
    made = after ms rs region u position lt can place at label within was_free

    pub mark-turn : label ≡ marked_label place.label → (d : LoadedModule) → IsMarkedAt P region u position L (made d)
    mark-turn label_is = flip-makes ms rs region u position lt can place at label within was_free (IsMarkedAt P region u position L) (λ slot places.
        subst (λ (l : Label). IsMarkedAt P region u position L (with_put_at (member_at region position).handle slot l (Some place.slot) L)) (sym label_is)
        (elim (cases_eq position 0) [
          | inl first ↦ mark-first P region u L leader.lead position led place.slot slot place.label places first
          | inr behind ↦ mark-behind P region u L leader.lead position led place.slot slot place.label places (above position behind)
        ]))
      where
        above : (k : ℕ) → (k ≡ 0 → ⊥) → 0 < k
        above zero differ = absurd (differ refl)
        above (suc k) differ = omega arith

    pub rename-turn : (name : List ℕ) → label ≡ renamed_label name place.label → position ≡ 0 → (d : LoadedModule) → HasName P region u name L (made d)
    rename-turn name label_is first = flip-makes ms rs region u position lt can place at label within was_free (HasName P region u name L) (λ slot places.
        subst (λ (l : Label). HasName P region u name L (with_put_at (member_at region position).handle slot l (Some place.slot) L)) (sym label_is)
        (named P region u L leader.lead position led name place.slot slot place.label places first))
