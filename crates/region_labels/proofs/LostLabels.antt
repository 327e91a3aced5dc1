-- A module loses labels one after another, and may get one.
use Rattle.std.proofs.Common.{◌≡◌, ◌≢◌, ℕ, ◌+◌, ◌<◌, Bool, true, false, ◌||◌, cond, eqb, List, [], ◌∷◌, length, get_or, take, None, refl, sym, ap, subst, ◌∙◌, eq-eqb, eqb-true, arith}
use Rattle.std.specs.List.{Contains}
use Rattle.std.specs.Prelude.{map}
use Rattle.std.proofs.Math.Seq.{take-length}
use Rattle.label_table.proofs.ListTests.{list_any-found}
use Rattle.std.proofs.lemmas.Bool.{cond-false, cond-true, ne_eqb}
use Rattle.std.proofs.lemmas.List.{get_or-map, get_or-take, length-map, length-take-le, take_more}
use Rattle.std.proofs.lemmas.List.Elements.{All-contains}
use Rattle.std.proofs.lemmas.List.Folds.{list_any-append}
use Rattle.std.proofs.lemmas.Slice.Eq.{bytes_eq-Decides}
use Rattle.label_codec.specs.ModuleChanges.{with_module, without_slots}
use Rattle.label_codec.specs.ModuleLabels.{Labels, Module}
use Rattle.region_labels.specs.declared.by_slot.SlotLabel.{SlotLabel}
use Rattle.region_labels.specs.Flips.{GainsLabel, IsLiveIn, LosesLabels}
use Rattle.region_labels.specs.Followed.{LosesAt}
use Rattle.region_labels.specs.SlotLabels.{has_slot}

pub at_handle : (labels : Labels) (handle : ℕ) (area : Module) → with_module handle area labels handle ≡ area
at_handle labels handle area = cond-true (eqb handle handle) _ _ (eq-eqb handle handle refl)

pub elsewhere : (labels : Labels) (handle : ℕ) (area : Module) (other : ℕ) → other ≢ handle
    → with_module handle area labels other ≡ labels other
elsewhere labels handle area other differs = cond-false (eqb other handle) _ _ (ne_eqb other handle differs)

abbrev slot-of : SlotLabel → ℕ
slot-of one = one.slot

module _ (area after : Module) (lost : List SlotLabel) (loses : LosesLabels area after lost) where
  -- the module without the first of the labels
  abbrev pub without : ℕ → Module
  without i = without_slots (has_slot (take i lost)) area

  module _ (i : ℕ) (one : SlotLabel) (lt : i < length lost) (is : one ≡ get_or lost i one) where
    more : (k : ℕ) → has_slot (take (i + 1) lost) k ≡ (has_slot (take i lost) k || (eqb k one.slot || false))
    more k = ap (λ xs. has_slot xs k) (take_more lost i one lt)
        ∙ list_any-append (λ (x : SlotLabel). eqb k x.slot) (take i lost) (get_or lost i one ∷ [])
        ∙ ap (λ (x : SlotLabel). has_slot (take i lost) k || (eqb k x.slot || false)) (sym is)

    live : IsLiveIn area one
    live = All-contains (IsLiveIn area) lost one loses.live (i, lt, sym is)

    -- its slot is that of none before it
    first : has_slot (take i lost) one.slot ≡ false
    first = by (has_slot (take i lost) one.slot) refl
      where
        slot-at : (k : ℕ) (d : SlotLabel) → k < length lost → get_or (map slot-of lost) k 0 ≡ (get_or lost k d).slot
        slot-at k d below = get_or-map slot-of lost k d 0 below

        earlier : (x : SlotLabel) → Contains (take i lost) x → eqb one.slot x.slot ≡ true → ⊥
        earlier x there same =
            let short : length (take i lost) ≡ i = length-take-le i lost (omega arith) in
            let k : ℕ = there.0 in
            let below : k < i = subst (λ n. k < n) short there.1 in
            let at : get_or lost k x ≡ x = sym (get_or-take i lost k x below) ∙ there.2 in
            let all : length (map slot-of lost) ≡ length lost = length-map lost slot-of in
            loses.apart.apart k i below (subst (λ n. i < n) (sym all) lt)
            (slot-at k x (omega arith) ∙ ap slot-of at ∙ sym (eqb-true one.slot x.slot same)
            ∙ ap slot-of is ∙ sym (slot-at i one lt))

        by : (b : Bool) → has_slot (take i lost) one.slot ≡ b → b ≡ false
        by false e = refl
        by true e =
            let found = list_any-found (λ (x : SlotLabel). eqb one.slot x.slot) (take i lost) e in
            absurd (earlier found.0 found.1 found.2)

    gone : has_slot (take (i + 1) lost) one.slot ≡ true
    gone = more one.slot ∙ by (has_slot (take i lost) one.slot) (eqb one.slot one.slot) (eq-eqb one.slot one.slot refl)
      where
        by : (a b : Bool) → b ≡ true → (a || (b || false)) ≡ true
        by true b e = refl
        by false b e = ap (λ c. c || false) e

    others : (k : ℕ) → k ≢ one.slot → has_slot (take (i + 1) lost) k ≡ has_slot (take i lost) k
    others k differ = more k ∙ by (has_slot (take i lost) k) (eqb k one.slot) (ne_eqb k one.slot differ)
      where
        by : (a b : Bool) → b ≡ false → (a || (b || false)) ≡ a
        by true b e = refl
        by false b e = ap (λ c. c || false) e

    -- read backwards, it is a label that comes to a free slot
    pub gains-back : GainsLabel (without (i + 1)) (without i) one
    gains-back = record {
      label = live.label;
      has_uuid = sym ((bytes_eq-Decides one.uuid live.label.uuid).0 live.has_uuid);
      puts = record {
        slots = refl;
        within = live.within;
        was_free = cond-true (has_slot (take (i + 1) lost) one.slot) _ _ gone;
        now_live = cond-false (has_slot (take i lost) one.slot) _ _ first ∙ live.is;
        others = λ k differ. ap (λ b. cond b None (area.at k)) (sym (others k differ));
      };
    }

  pub none-lost : without 0 ≡ area
  none-lost = refl

  pub all-lost : without (length lost) ≡ after
  all-lost = ap (λ xs. without_slots (has_slot xs) area) (take-length lost) ∙ sym loses.is

  -- the labels of all modules, with the first ones lost
  module _ (labels : Labels) (dimm : ℕ) where
    abbrev pub labels-without : ℕ → Labels
    labels-without i = with_module dimm (without i) labels

    pub loses-next : (i : ℕ) (one : SlotLabel) → i < length lost → one ≡ get_or lost i one
        → LosesAt dimm one (labels-without i) (labels-without (i + 1))
    loses-next i one lt is = record {
      gains = subst (λ (was : Module). GainsLabel was (labels-without i dimm) one)
          (sym (at_handle labels dimm (without (i + 1))))
          (subst (λ (now : Module). GainsLabel (without (i + 1)) now one)
          (sym (at_handle labels dimm (without i))) (gains-back i one lt is));
      others = λ other differ. elsewhere labels dimm (without i) other differ
          ∙ sym (elsewhere labels dimm (without (i + 1)) other differ);
    }
