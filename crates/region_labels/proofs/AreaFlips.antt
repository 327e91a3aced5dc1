-- What the flips of an area make of the labels of its module.
use Rattle.std.proofs.Common.{◌≡◌, ◌≢◌, ℕ, zero, suc, ◌<◌, Bool, true, false, ◌||◌, cond, eqb, List, [], ◌∷◌, length, get_or, Option, Some, None, refl, sym, ap, subst, ◌∙◌, eq-eqb, arith}
use Rattle.std.specs.FinMap.{get}
use Rattle.std.specs.List.{All, cons_option}
use Rattle.std.specs.Option.{option_map}
use Rattle.std.specs.Prelude.{IsSome, map}
use Rattle.std.proofs.lemmas.Bool.{and_parts, cond-false, cond-true, ltb-true, ne_eqb}
use Rattle.std.proofs.lemmas.List.Elements.{All-cons, All-nil}
use Rattle.std.proofs.lemmas.Slice.Eq.{bytes_eq-Decides}
use Rattle.label_table.proofs.ListTests.{none_some}
use Rattle.label_codec.specs.declared.label.Label.{Label}
use Rattle.label_codec.specs.ModuleChanges.{without_slots}
use Rattle.label_codec.specs.ModuleLabels.{Module}
use Rattle.label_area.specs.Flips.{Standing, after_free, after_put, at_slot, first_slot, is_among, replaced, shown_by}
use Rattle.label_area.specs.LoadedAreas.{IsSound, LoadedArea, is_used}
use Rattle.region_labels.specs.declared.by_slot.SlotLabel.{SlotLabel}
use Rattle.region_labels.specs.Flips.{IsLiveIn, LosesLabels, ReplacesLabel, lost_labels}
use Rattle.region_labels.specs.SlotLabels.{AreApart, has_slot, replaced_label, slot_labels}

-- no live label stands past the slots
pub record IsBoundedModule (area : Module) : Type 0 where
  pub within : (slot : ℕ) (label : Label) → area.at slot ≡ Some label → slot < area.slots

sound-bounded : (area : LoadedArea) → IsSound area → IsBoundedModule (shown_by area).labels
sound-bounded area sound = record {
  within = λ slot label is.
      let used : is_used area slot ≡ true = sound.live_in_use slot (subst (λ o. IsSome o) (sym is) refl) in
      ltb-true slot area.geometry.slots (and_parts _ _ used).0;
}

-- the label of a slot is live there
live-at : (area : Module) → IsBoundedModule area → (slot : ℕ) (label : Label) → area.at slot ≡ Some label
    → IsLiveIn area (record { uuid = label.uuid; slot = slot })
live-at area bounded slot label is = record {
  within = bounded.within slot label is;
  label = label;
  is = is;
  has_uuid = (bytes_eq-Decides label.uuid label.uuid).1 refl;
}

abbrev slot-of : SlotLabel → ℕ
slot-of one = one.slot

-- the label of a slot, before others
abbrev before_others : ℕ → Option Label → List SlotLabel → List SlotLabel
before_others slot label rest = cons_option (option_map (λ (l : Label). record { uuid = l.uuid; slot = slot }) label) rest

module _ (area : Module) where
  -- what holds of some slots holds of those of their labels
  holds-of_slots : (P : ℕ → Type 0) (slots : List ℕ) → ((k : ℕ) → k < length slots → P (get_or slots k 0))
      → (k : ℕ) → k < length (map slot-of (slot_labels area slots)) → P (get_or (map slot-of (slot_labels area slots)) k 0)
  holds-of_slots P [] all k lt = absurd (omega arith)
  holds-of_slots P (s ∷ ss) all k lt =
      by (holds-of_slots P ss (λ k lt. all (suc k) (omega arith))) (area.at s) k lt
    where
      Holds : List SlotLabel → Type 0
      Holds labels = (k : ℕ) → k < length (map slot-of labels) → P (get_or (map slot-of labels) k 0)

      by : Holds (slot_labels area ss) → (label : Option Label) → Holds (before_others s label (slot_labels area ss))
      by rest None k lt = rest k lt
      by rest (Some l) zero lt = all 0 (omega arith)
      by rest (Some l) (suc k) lt = rest k (omega arith)

  apart-cons : (x : ℕ) (xs : List ℕ) → ((k : ℕ) → k < length xs → x ≢ get_or xs k 0) → AreApart xs → AreApart (x ∷ xs)
  apart-cons x xs differ rest = record { apart = by }
    where
      by : (i j : ℕ) → i < j → j < length (x ∷ xs) → get_or (x ∷ xs) i 0 ≢ get_or (x ∷ xs) j 0
      by i zero lt below = absurd (omega arith)
      by zero (suc j) lt below = differ j (omega arith)
      by (suc i) (suc j) lt below = rest.apart i j (omega arith) (omega arith)

  apart-labels : (slots : List ℕ) → AreApart slots → AreApart (map slot-of (slot_labels area slots))
  apart-labels [] apart = apart
  apart-labels (s ∷ ss) apart =
      by (apart-labels ss (record { apart = λ i j lt below. apart.apart (suc i) (suc j) (omega arith) (omega arith) }))
      (area.at s)
    where
      by : AreApart (map slot-of (slot_labels area ss)) → (label : Option Label)
          → AreApart (map slot-of (before_others s label (slot_labels area ss)))
      by rest None = rest
      by rest (Some l) = apart-cons s (map slot-of (slot_labels area ss))
          (holds-of_slots (λ slot. s ≢ slot) ss (λ k lt. apart.apart 0 (suc k) (omega arith) (omega arith))) rest

  labels-live : IsBoundedModule area → (slots : List ℕ) → All (IsLiveIn area) (slot_labels area slots)
  labels-live bounded [] = All-nil (IsLiveIn area)
  labels-live bounded (s ∷ ss) = by (labels-live bounded ss) (area.at s) refl
    where
      by : All (IsLiveIn area) (slot_labels area ss) → (label : Option Label) → area.at s ≡ label
          → All (IsLiveIn area) (before_others s label (slot_labels area ss))
      by rest None is = rest
      by rest (Some l) is = All-cons (IsLiveIn area) _ (slot_labels area ss) (live-at area bounded s l is) rest

  -- the labels have the slots that have a label
  same-slots : (slots : List ℕ) (k : ℕ) (label : Label) → area.at k ≡ Some label
      → is_among slots k ≡ has_slot (slot_labels area slots) k
  same-slots [] k label is = refl
  same-slots (s ∷ ss) k label is = by (same-slots ss k label is) (area.at s) refl
    where
      by : is_among ss k ≡ has_slot (slot_labels area ss) k → (here : Option Label) → area.at s ≡ here
          → (eqb k s || is_among ss k) ≡ has_slot (before_others s here (slot_labels area ss)) k
      by rest None none =
          let differ : k ≢ s = λ e. none_some (area.at s) none (sym (ap area.at e) ∙ is) in
          ap (λ b. b || is_among ss k) (ne_eqb k s differ) ∙ rest
      by rest (Some l) there = ap (λ b. eqb k s || b) rest

  -- so the labels go where slots are freed
  freed-at : (slots : List ℕ) (k : ℕ)
      → cond (is_among slots k) None (area.at k) ≡ cond (has_slot (slot_labels area slots) k) None (area.at k)
  freed-at slots k = by (area.at k) refl
    where
      none : (b : Bool) → cond {A = Option Label} b None None ≡ None
      none true = refl
      none false = refl

      by : (label : Option Label) → area.at k ≡ label
          → cond (is_among slots k) None label ≡ cond (has_slot (slot_labels area slots) k) None label
      by None is = none (is_among slots k) ∙ sym (none (has_slot (slot_labels area slots) k))
      by (Some l) is = ap (λ b. cond b None (Some l)) (same-slots slots k l is)

  pub loses-slots : IsBoundedModule area → (slots : List ℕ) → AreApart slots
      → LosesLabels area (without_slots (is_among slots) area) (slot_labels area slots)
  loses-slots bounded slots apart = record {
    live = labels-live bounded slots;
    apart = apart-labels slots apart;
    is = λ i. record { kind = area.kind; slots = area.slots; at = λ k. freed-at slots k i };
  }

abbrev area-of : LoadedArea → Module
area-of area = (shown_by area).labels

-- the labels that a module loses where slots of its area are freed
pub free-loses : (before after : LoadedArea) (slots : List ℕ) → IsSound before → AreApart slots
    → shown_by after ≡ after_free before slots
    → LosesLabels (area-of before) (area-of after) (slot_labels (area-of before) slots)
free-loses before after slots sound apart flip =
    subst (λ (s : Standing). LosesLabels (area-of before) s.labels (slot_labels (area-of before) slots)) (sym flip)
    (loses-slots (area-of before) (sound-bounded before sound) slots apart)

one-apart : (slot : ℕ) → AreApart (slot ∷ [])
one-apart slot = record { apart = λ i j lt below. absurd (omega arith) }

none-apart : AreApart []
none-apart = record { apart = λ i j lt below. absurd (omega arith) }

replaced-apart : (replaces : Option ℕ) → AreApart (replaced replaces)
replaced-apart None = none-apart
replaced-apart (Some slot) = one-apart slot

lost-are : (area : LoadedArea) (replaces : Option ℕ)
    → slot_labels (area-of area) (replaced replaces) ≡ lost_labels (replaced_label (area-of area) replaces)
lost-are area None = refl
lost-are area (Some slot) = by (get area.live slot)
  where
    by : (label : Option Label) → before_others slot label []
        ≡ lost_labels (option_map (λ (l : Label). record { uuid = l.uuid; slot = slot }) label)
    by None = refl
    by (Some l) = refl

-- what a module gets and loses where a label is put into a slot of its area
pub put-replaces : (before after : LoadedArea) (label : Label) (replaces : Option ℕ) → IsSound before
    → first_slot before < before.geometry.slots → get before.live (first_slot before) ≡ None
    → shown_by after ≡ after_put before label replaces
    → ReplacesLabel (area-of before) (area-of after) (record { uuid = label.uuid; slot = first_slot before })
    (replaced_label (area-of before) replaces)
put-replaces before after label replaces sound within free flip =
    subst (λ (s : Standing). ReplacesLabel (area-of before) s.labels (record { uuid = label.uuid; slot = slot })
    (replaced_label (area-of before) replaces)) (sym flip) (record {
      between = between;
      loses = subst (LosesLabels (area-of before) between) (lost-are before replaces)
          (loses-slots (area-of before) (sound-bounded before sound) (replaced replaces) (replaced-apart replaces));
      gains = record {
        label = at_slot slot label;
        has_uuid = refl;
        puts = record {
          slots = refl;
          within = within;
          was_free = by (is_among (replaced replaces) slot);
          now_live = cond-true (eqb slot slot) _ _ (eq-eqb slot slot refl);
          others = λ k differ. cond-false (eqb k slot) _ _ (ne_eqb k slot differ);
        };
      };
    })
  where
    slot : ℕ
    slot = first_slot before

    between : Module
    between = without_slots (is_among (replaced replaces)) (area-of before)

    by : (b : Bool) → cond b None (get before.live slot) ≡ None
    by true = refl
    by false = free
