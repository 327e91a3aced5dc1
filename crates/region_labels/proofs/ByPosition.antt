-- An index over the modules of a region, each position for itself, so that a module that stands at two positions is
-- changed at one after the other.
use Rattle.std.proofs.Common.{◌≡◌, ◌≢◌, inl, inr, ℕ, suc, ◌+◌, ◌<◌, ◌≤◌, ltb, List, [], ◌∷◌, ◌++◌, length, get_or, refl, sym, ap, subst, ◌∙◌, arith}
use Rattle.std.specs.List.{range_with_len}
use Rattle.std.specs.List.Sorted.{IsPermutation}
use Rattle.std.proofs.lemmas.Bool.{cases_lt, cond-false, cond-true, le-ltb, lt-ltb}
use Rattle.std.proofs.lemmas.List.FromFn.{get_or-range_with_len, length-range_with_len}
use Rattle.label_codec.specs.ModuleLabels.{Labels, Module}
use Rattle.region_map.specs.declared.platform.Region.{Region}
use Rattle.uuid_index.specs.declared.entry.Entry.{Entry}
use Rattle.uuid_index.specs.Labels.{IsIndex, PutsLabel, entries_from, entries_of}
use Rattle.uuid_index.specs.Labels as index
use Rattle.uuid_index.proofs.Changes.{index-same}
use Rattle.region_labels.specs.Regions.{handles}
use Rattle.region_labels.proofs.Seated.{length-handles}
use Rattle.region_labels.specs.declared.by_slot.SlotLabel.{SlotLabel}
use Rattle.region_labels.specs.Flips.{GainsLabel}
use Rattle.region_labels.specs.Followed.{GainsAt, IsIndexBelow, LosesAt, changed_below, entry_at, handle_at}

-- modules by position have the entries that they have by handle
entries-by_position : (from : ℕ) (hs : List ℕ) (labels own : Labels)
    → ((k p : ℕ) → k < length hs → p ≡ from + k → own p ≡ labels (get_or hs k 0))
    → entries_from from (range_with_len from (length hs)) own ≡ entries_from from hs labels
entries-by_position from [] labels own same = refl
entries-by_position from (h ∷ hs) labels own same =
    let here : own from ≡ labels h = same 0 from (omega arith) (omega arith) in
    let rest : entries_from (from + 1) (range_with_len (from + 1) (length hs)) own ≡ entries_from (from + 1) hs labels =
    entries-by_position (from + 1) hs labels own (λ k p lt is. same (suc k) p (omega arith) (omega arith)) in
    λ i. entries_of from (here i) ++ rest i

module _ (region : Region) (before after : Labels) where
  abbrev n : ℕ
  n = length region.members

  abbrev positions : List ℕ
  positions = range_with_len 0 n

  abbrev at : ℕ → Labels
  at = changed_below region before after

  as-after : (end p : ℕ) → p < end → at end p ≡ after (handle_at region p)
  as-after end p lt = cond-true (ltb p end) _ _ (lt-ltb p end lt)

  as-before : (end p : ℕ) → end ≤ p → at end p ≡ before (handle_at region p)
  as-before end p le = cond-false (ltb p end) _ _ (le-ltb p end le)

  -- at the other positions the step from a position to the next changes nothing
  as-next : (position p : ℕ) → p ≢ position → at (position + 1) p ≡ at position p
  as-next position p differ = elim (cases_lt p position) [
    | inl lt ↦ as-after (position + 1) p (omega arith) ∙ sym (as-after position p lt)
    | inr le ↦ as-before (position + 1) p (omega arith) ∙ sym (as-before position p le)
  ]

  len : length (handles region) ≡ n
  len = length-handles region

  same-entries : (labels own : Labels) → ((p : ℕ) → p < n → own p ≡ labels (handle_at region p))
      → entries_from 0 positions own ≡ entries_from 0 (handles region) labels
  same-entries labels own same =
      subst (λ m. entries_from 0 (range_with_len 0 m) own ≡ entries_from 0 (handles region) labels) len
      (entries-by_position 0 (handles region) labels own
      (λ k p lt is. let l : k < n = omega (arith, len) in let e : k ≡ p = omega arith in
      subst (λ q. own q ≡ labels (handle_at region k)) e (same k l)))

  pub index-starts : (entries : List Entry) → IsIndex (handles region) before entries
      → IsIndexBelow region before after 0 entries
  index-starts entries is = record {
    live = subst (λ es. IsPermutation es entries)
        (sym (same-entries before (at 0) (λ p lt. as-before 0 p (omega arith)))) is.live;
    ordered = is.ordered;
  }

  pub index-ends : (entries : List Entry) → IsIndexBelow region before after n entries
      → IsIndex (handles region) after entries
  index-ends entries is = record {
    live = subst (λ es. IsPermutation es entries)
        (same-entries after (at n) (λ p lt. as-after n p lt)) is.live;
    ordered = is.ordered;
  }

  -- at a position of another module nothing changes
  pub index-passes : (position : ℕ) (entries : List Entry)
      → after (handle_at region position) ≡ before (handle_at region position)
      → IsIndexBelow region before after position entries → IsIndexBelow region before after (position + 1) entries
  index-passes position entries same is =
      index-same positions (at position) (at (position + 1)) entries (λ k lt. stays (get_or positions k 0)) is
    where
      stays : (p : ℕ) → at (position + 1) p ≡ at position p
      stays p = elim (cases_lt p position) [
        | inl lt ↦ as-next position p (omega arith)
        | inr le ↦ elim (cases_lt position p) [
          | inl lt ↦ as-next position p (omega arith)
          | inr ge ↦
              let e : position ≡ p = omega arith in
              subst (λ q. at (position + 1) q ≡ at position q) e
              (as-after (position + 1) position (omega arith) ∙ same ∙ sym (as-before position position (omega arith)))
        ]
      ]

  position-at : (p : ℕ) → p < n → get_or positions p 0 ≡ p
  position-at p lt = let e = get_or-range_with_len 0 n p 0 lt in omega arith

  -- one position alone changes
  gains : (position : ℕ) (one : SlotLabel) (old new : Labels) → position < n
      → GainsLabel (old position) (new position) one → ((p : ℕ) → p ≢ position → new p ≡ old p)
      → index.GainsLabel positions (entry_at position one) old new
  gains position one old new lt gain others = record {
    within = subst (λ m. position < m) (sym (length-range_with_len 0 n)) lt;
    only_once = λ k below same.
        let l : k < n = subst (λ m. k < m) (length-range_with_len 0 n) below in
        sym (position-at k l) ∙ same ∙ position-at position lt;
    label = gain.label;
    has_uuid = gain.has_uuid;
    puts = subst (λ p. PutsLabel (old p) (new p) one.slot gain.label) (sym (position-at position lt)) gain.puts;
    others = subst (λ q. (p : ℕ) → p ≢ q → new p ≡ old p) (sym (position-at position lt)) others;
  }

  pub gains-here : (dimm position : ℕ) (gained : SlotLabel) → position < n → handle_at region position ≡ dimm
      → GainsAt dimm gained before after
      → index.GainsLabel positions (entry_at position gained) (at position) (at (position + 1))
  gains-here dimm position gained lt here gain =
      gains position gained (at position) (at (position + 1)) lt
      (subst (λ (was : Module). GainsLabel was (at (position + 1) position) gained)
      (sym (as-before position position (omega arith) ∙ ap before here))
      (subst (λ (is : Module). GainsLabel (before dimm) is gained)
      (sym (as-after (position + 1) position (omega arith) ∙ ap after here)) gain.gains))
      (as-next position)

  pub loses-here : (dimm position : ℕ) (lost : SlotLabel) → position < n → handle_at region position ≡ dimm
      → LosesAt dimm lost before after
      → index.LosesLabel positions (entry_at position lost) (at position) (at (position + 1))
  loses-here dimm position lost lt here loss =
      gains position lost (at (position + 1)) (at position) lt
      (subst (λ (was : Module). GainsLabel was (at position position) lost)
      (sym (as-after (position + 1) position (omega arith) ∙ ap after here))
      (subst (λ (is : Module). GainsLabel (after dimm) is lost)
      (sym (as-before position position (omega arith) ∙ ap before here)) loss.gains))
      (λ p differ. sym (as-next position p differ))
