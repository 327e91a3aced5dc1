-- The labels by slot, as a map.
use Rattle.std.proofs.Common.{◌≡◌, ◌≢◌, inl, inr, ℕ, zero, suc, ◌+◌, ◌<◌, ◌≤◌, Bool, true, false, ◌&&◌, cond, List, [], ◌∷◌, length, get_or, eqb, eq-eqb, eqb-true, Option, Some, None, refl, sym, ap, subst, ◌∙◌, arith}
use Rattle.std.specs.Prelude.{◌==◌, if◌then◌else◌, nat_lt, not, IsSome, IsTrue}
use Rattle.std.specs.Ordering.{nat_cmp, eq_by_cmp}
use Rattle.std.specs.Cmp.{nat_cmp_total}
use Rattle.std.specs.FinMap as finite
use Rattle.std.specs.FinMap.{get, get-from_entries}
use Rattle.std.specs.List.{cons_option}
use Rattle.std.specs.Option.{option_map}
use Rattle.std.proofs.lemmas.Bool.{and_parts, cases_lt, false≢true}
use Rattle.std.proofs.lemmas.Bool.Decides.{nat_tests}
use Rattle.std.proofs.lemmas.List.{get_or_past}
use Rattle.std.proofs.lemmas.List.FromFn.{get_or-map-range_with_len, length-map-range_with_len}
use Rattle.index_block.specs.Bitmap.{is_free_in}
use Rattle.label_codec.specs.declared.label.Label.{Label}
use Rattle.label_area.specs.declared.blocks.Current.{Current}
use Rattle.label_area.specs.Kept.{entries_from, live_of}
use Rattle.label_area.specs.Slots.{free_bits, is_in_use, label_at, live_label, live_labels}

module _ (slot : ℕ) where
  here : (n : ℕ) → n ≡ slot → eq_by_cmp nat_cmp slot n ≡ true
  here n e = grind arith

  elsewhere : (n : ℕ) → n ≢ slot → eq_by_cmp nat_cmp slot n ≡ false
  elsewhere n other = grind arith

  skip : (label : Option Label) (n : ℕ) (es : List (ℕ × Label)) → n ≢ slot → finite.find nat_cmp slot (cons_option (option_map (λ l. (n, l)) label) es) ≡ finite.find nat_cmp slot es
  skip None n es other = refl
  skip (Some label) n es other = rw (elsewhere n other) refl

  take_it : (label : Option Label) (n : ℕ) (es : List (ℕ × Label)) → n ≡ slot → finite.find nat_cmp slot es ≡ None → finite.find nat_cmp slot (cons_option (option_map (λ l. (n, l)) label) es) ≡ label
  take_it None n es e none = none
  take_it (Some label) n es e none = rw (here n e) refl

  none_below : (from : ℕ) (labels : List (Option Label)) → slot < from → finite.find nat_cmp slot (entries_from from labels) ≡ None
  none_below from [] lt = refl
  none_below from (o ∷ labels) lt = skip o from (entries_from (from + 1) labels) (λ e. omega (arith, e, lt)) ∙ none_below (from + 1) labels (omega arith)

  find_from : (from i : ℕ) (labels : List (Option Label)) → from + i ≡ slot → finite.find nat_cmp slot (entries_from from labels) ≡ get_or labels i None
  find_from from i [] e = refl
  find_from from zero (o ∷ labels) e = take_it o from (entries_from (from + 1) labels) (omega (arith, e)) (none_below (from + 1) labels (omega (arith, e)))
  find_from from (suc i) (o ∷ labels) e = skip o from (entries_from (from + 1) labels) (λ same. omega (arith, same, e)) ∙ find_from (from + 1) i labels (omega (arith, e))

  -- the label of a slot is what stands in its place
  pub get-live_of : (labels : List (Option Label)) → get (live_of labels) slot ≡ get_or labels slot None
  get-live_of labels = get-from_entries nat_cmp_total (entries_from 0 labels) slot ∙ find_from 0 slot labels (omega arith)

-- the labels of the slots below one
abbrev pub below : (ℕ → Option Label) → ℕ → ℕ → Option Label
below live n k = if nat_lt k n then live k else None

module _ (current : Current) (area : List ℕ) (slot : ℕ) where
  in_place : get_or (live_labels current area) slot None ≡ live_label current area slot
  in_place = elim (cases_lt slot current.geometry.slots) [
    | inl lt ↦ get_or-map-range_with_len (live_label current area) 0 current.geometry.slots slot slot None lt (omega arith)
    | inr le ↦
        let past : nat_lt slot current.geometry.slots ≡ false = grind (arith, nat_tests) in
        let count : length (live_labels current area) ≡ current.geometry.slots = length-map-range_with_len (live_label current area) 0 current.geometry.slots in
        get_or_past (live_labels current area) slot None (omega arith)
        ∙ sym (λ i. cond (past i && not (is_free_in (free_bits current area) slot)) (label_at current.geometry area slot) None)
  ]

  -- a slot behind the last one has no live label
  pub live_label-below : below (live_label current area) current.geometry.slots slot ≡ live_label current area slot
  live_label-below = elim (cases_lt slot current.geometry.slots) [
    | inl lt ↦
        let inside : nat_lt slot current.geometry.slots ≡ true = grind (arith, nat_tests) in
        λ i. cond (inside i) (live_label current area slot) None
    | inr le ↦
        let past : nat_lt slot current.geometry.slots ≡ false = grind (arith, nat_tests) in
        (λ i. cond (past i) (live_label current area slot) None)
        ∙ sym (λ i. cond (past i && not (is_free_in (free_bits current area) slot)) (label_at current.geometry area slot) None)
  ]

  -- the map of the live labels has the live label of each slot
  pub get-live_labels : get (live_of (live_labels current area)) slot ≡ live_label current area slot
  get-live_labels = get-live_of slot (live_labels current area) ∙ in_place

  -- and a slot with one is in use
  pub live_label-in_use : IsSome (live_label current area slot) → IsTrue (is_in_use (free_bits current area) current.geometry.slots slot)
  live_label-in_use some = by (is_in_use (free_bits current area) current.geometry.slots slot) refl some
    where
      by : (b : Bool) → is_in_use (free_bits current area) current.geometry.slots slot ≡ b → IsSome (if b then label_at current.geometry area slot else None)
          → IsTrue (is_in_use (free_bits current area) current.geometry.slots slot)
      by true is s = is
      by false is s = absurd cc

-- A slot that keeps its label while others are cleared is in use still.
pub cleared_in_use : (labels new : List (Option Label)) (gone : ℕ → Bool) (free now : List ℕ) (n : ℕ) → ((k : ℕ) → get_or new k None ≡ (if gone k then None else get_or labels k None))
    → ((k : ℕ) → IsSome (get_or labels k None) → IsTrue (is_in_use free n k)) → ((k : ℕ) → k < n → gone k ≡ false → is_free_in free k ≡ false → is_free_in now k ≡ false)
    → (k : ℕ) → IsSome (get_or new k None) → IsTrue (is_in_use now n k)
cleared_in_use labels new gone free now n cleared used bits k some = by (gone k) refl (subst IsSome (cleared k) some)
  where
    below : nat_lt k n ≡ true → k < n
    below is = grind (arith, nat_tests)

    not_free : (is_free : Bool) → not is_free ≡ true → is_free ≡ false
    not_free true is = absurd cc
    not_free false is = refl

    by : (g : Bool) → gone k ≡ g → IsSome (cond g None (get_or labels k None)) → IsTrue (is_in_use now n k)
    by true e s = absurd cc
    by false e s =
        let parts = and_parts (nat_lt k n) (not (is_free_in free k)) (used k s) in
        let still = bits k (below parts.0) e (not_free (is_free_in free k) parts.1) in
        λ i. parts.0 i && not (still i)

module _ (live : ℕ → Option Label) (slot k : ℕ) where
  one_more : k ≢ slot → nat_lt k slot ≡ nat_lt k (slot + 1)
  one_more other = elim (cases_lt k slot) [
    | inl lt ↦
        let now : nat_lt k slot ≡ true = grind (arith, nat_tests) in
        let next : nat_lt k (slot + 1) ≡ true = grind (arith, nat_tests) in
        now ∙ sym next
    | inr le ↦
        let past : slot + 1 ≤ k = omega (arith, le, other) in
        let now : nat_lt k slot ≡ false = grind (arith, nat_tests) in
        let next : nat_lt k (slot + 1) ≡ false = grind (arith, nat_tests) in
        now ∙ sym next
  ]

  -- with that of this slot
  pub below-more : (o : Option Label) → live slot ≡ o → (if k == slot then o else below live slot k) ≡ below live (slot + 1) k
  below-more o is = by (eqb k slot) refl
    where
      by : (same : Bool) → eqb k slot ≡ same → cond same o (below live slot k) ≡ below live (slot + 1) k
      by true e =
          let same : k ≡ slot = eqb-true k slot e in
          let lt : nat_lt k (slot + 1) ≡ true = grind (arith, nat_tests) in
          sym is ∙ ap live (sym same) ∙ sym (λ i. cond (lt i) (live k) None)
      by false e = λ i. cond (one_more (λ same. absurd (false≢true (sym e ∙ eq-eqb k slot same))) i) (live k) None

  -- a slot without a label adds none
  pub below-none : live slot ≡ None → below live slot k ≡ below live (slot + 1) k
  below-none none = by (eqb k slot) refl ∙ below-more None none
    where
      by : (same : Bool) → eqb k slot ≡ same → below live slot k ≡ cond same None (below live slot k)
      by true e =
          let same : k ≡ slot = eqb-true k slot e in
          let past : nat_lt k slot ≡ false = grind (arith, nat_tests) in
          λ i. cond (past i) (live k) None
      by false e = refl

-- A slot with a label is in use still where one more in use gets a label.
pub set_in_use : (labels new : List (Option Label)) (slot : ℕ) (label : Label) (free : List ℕ) (n : ℕ)
    → ((k : ℕ) → get_or new k None ≡ (if k == slot then Some label else get_or labels k None))
    → ((k : ℕ) → IsSome (get_or labels k None) → IsTrue (is_in_use free n k)) → IsTrue (is_in_use free n slot)
    → (k : ℕ) → IsSome (get_or new k None) → IsTrue (is_in_use free n k)
set_in_use labels new slot label free n set_there used here_used k some = by (eqb k slot) refl (subst IsSome (set_there k) some)
  where
    by : (same : Bool) → eqb k slot ≡ same → IsSome (cond same (Some label) (get_or labels k None)) → IsTrue (is_in_use free n k)
    by true e s = subst (λ (j : ℕ). IsTrue (is_in_use free n j)) (sym (eqb-true k slot e)) here_used
    by false e s = used k s
