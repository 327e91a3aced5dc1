-- The least free slot of an area.
use Rattle.std.proofs.Common.{◌≡◌, inl, inr, ℕ, zero, suc, ◌+◌, ◌<◌, ◌≤◌, Bool, true, false, ◌&&◌, cond, List, Option, Some, None, refl, sym, ap, ◌∙◌, arith}
use Rattle.std.specs.Prelude.{IsSome, find, nat_lt, not, unwrap_or}
use Rattle.std.specs.FinMap.{get}
use Rattle.std.specs.List.{range_with_len}
use Rattle.std.proofs.lemmas.Bool.{and_right, cases_eq, false≢true}
use Rattle.index_block.specs.Bitmap.{IsFirstFree, NoneFree, free_count, is_free_in}
use Rattle.index_block.proofs.FreeSlots.{free_count-more}
use Rattle.label_codec.specs.declared.label.Label.{Label}
use Rattle.label_area.specs.Flips.{first_slot}
use Rattle.label_area.specs.LoadedAreas.{IsSound, LoadedArea, is_used}

-- where no slot is free, none is counted
pub free_count-none : (map : List ℕ) (n : ℕ) → NoneFree map n → free_count map n ≡ 0
free_count-none map zero none = refl
free_count-none map (suc n) none =
    let e : suc n ≡ n + 1 = omega arith in
    ap (free_count map) e ∙ free_count-more map n ∙ ap (λ b. free_count map n + cond {A = ℕ} b 1 0) (none n (omega arith))
    ∙ omega (arith, free_count-none map n (λ k below. none k (omega arith)))

found : (p : ℕ → Bool) (slot a n : ℕ) → a ≤ slot → slot < a + n → p slot ≡ true → ((k : ℕ) → a ≤ k → k < slot → p k ≡ false) → find p (range_with_len a n) ≡ Some slot
found p slot a zero from below passes least = absurd (omega arith)
found p slot a (suc n) from below passes least = elim (cases_eq a slot) [
  | inl same ↦
      let here : p a ≡ true = ap p same ∙ passes in
      ap (λ b. cond b (Some a) (find p (range_with_len (a + 1) n))) here ∙ ap (λ (k : ℕ). Some k) same
  | inr other ↦
      let not_yet : p a ≡ false = least a (omega arith) (omega (arith, from, other)) in
      ap (λ b. cond b (Some a) (find p (range_with_len (a + 1) n))) not_yet
      ∙ found p slot (a + 1) n (omega (arith, from, other)) (omega arith) passes (λ k later before. least k (omega arith) before)
]

pub first_slot-is : (area : LoadedArea) (slot : ℕ) → IsFirstFree area.free area.geometry.slots slot → slot ≡ first_slot area
first_slot-is area slot first =
    sym (ap (λ o. unwrap_or o 0) (found (is_free_in area.free) slot 0 area.geometry.slots (omega arith) (omega (arith, first.below)) first.free (λ k from before. first.least k before)))

-- no label is in a slot that is not in use
pub none_unused : (area : LoadedArea) → IsSound area → (slot : ℕ) → is_used area slot ≡ false → get area.live slot ≡ None
none_unused area sound slot unused = by (get area.live slot) refl
  where
    by : (label : Option Label) → get area.live slot ≡ label → get area.live slot ≡ None
    by None is = is
    by (Some label) is =
        let some : IsSome (get area.live slot) = rw is refl in
        absurd (false≢true (sym unused ∙ sound.live_in_use slot some))

-- nor in one that is free
pub none_in_free : (area : LoadedArea) → IsSound area → (slot : ℕ) → is_free_in area.free slot ≡ true → get area.live slot ≡ None
none_in_free area sound slot free = none_unused area sound slot ((λ i. nat_lt slot area.geometry.slots && not (free i)) ∙ and_right (nat_lt slot area.geometry.slots) false refl)
