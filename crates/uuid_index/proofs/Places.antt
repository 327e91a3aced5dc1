-- Entries stay in order with one more or one less.
use Rattle.std.proofs.Common.{◌≡◌, inl, inr, ℕ, zero, suc, ◌+◌, ◌<◌, ◌≤◌, false, List, [], ◌∷◌, length, get_or, Err, refl, ap, ◌∙◌, Ordering, Less, Equal, Greater, arith}
use Rattle.std.specs.List.{Contains, insert, remove}
use Rattle.std.specs.List.Sorted.{IsBinarySearchResult, IsNonDecreasingBy}
use Rattle.std.specs.Ordering.{is_lt, ordering_index, ordering_reverse}
use Rattle.std.proofs.lemmas.Bool.{cases_lt}
use Rattle.std.proofs.lemmas.List.Edits.{get_or-remove_above, get_or-remove_below, length-remove}
use Rattle.std.proofs.lemmas.List.Sorted.{IsNonDecreasingBy-insert}
use Rattle.uuid_index.specs.declared.entry.Entry.{Entry}
use Rattle.uuid_index.specs.Entries.{IsOrdered, IsPlace, entry_cmp}
use Rattle.uuid_index.proofs.Order.{entries_total, entry_rank, entry_rank-itself, entry_ranks-rise}

not_less : (o : Ordering) → 1 ≤ ordering_index o → is_lt o ≡ false
not_less Less le = absurd (omega arith)
not_less Equal le = refl
not_less Greater le = refl

turned : (o p : Ordering) → o ≡ ordering_reverse p → ordering_index p ≤ 1 → is_lt o ≡ false
turned Less Less e le = absurd cc
turned Less Equal e le = absurd cc
turned Less Greater e le = absurd (omega arith)
turned Equal p e le = refl
turned Greater p e le = refl

-- the entry is not less than one of a rank up to 1
not_below : (entry other : Entry) → entry_rank entry other ≤ 1 → is_lt (entry_cmp entry other) ≡ false
not_below entry other le = turned (entry_cmp entry other) (entry_cmp other entry) (entries_total.antisymm entry other) le

not_above : (entry other : Entry) → 1 ≤ entry_rank entry other → is_lt (entry_cmp other entry) ≡ false
not_above entry other le = not_less (entry_cmp other entry) le

-- where the ranks to each entry rise, the entries are in order
ordered_by_ranks : (entries : List Entry) → ((entry : Entry) → IsNonDecreasingBy (entry_rank entry) entries) → IsOrdered entries
ordered_by_ranks entries rise k d low lt =
    let entry = get_or entries k d in
    let own : entry_rank entry entry ≡ 1 = entry_rank-itself entry in
    let more : entry_rank entry entry ≤ entry_rank entry (get_or entries (k + 1) d) = rise entry k (k + 1) d (omega arith) lt in
    not_above entry (get_or entries (k + 1) d) (omega arith)

-- of two entries the one that is not less has a rank to any third that is not less
rank_rises : (entry x y : Entry) → is_lt (entry_cmp y x) ≡ false → entry_rank entry x ≤ entry_rank entry y
rank_rises entry x y up = entry_ranks-rise entry (x ∷ y ∷ []) pair 0 1 x (omega arith) (omega arith)
  where
    pair : IsOrdered (x ∷ y ∷ [])
    pair zero d low lt = up
    pair (suc k) d low lt = absurd (omega arith)

pub ordered-insert : (entry : Entry) (entries : List Entry) (at : ℕ) → IsOrdered entries → IsPlace entry entries at → IsOrdered (insert entries at entry)
ordered-insert entry entries at up place = ordered_by_ranks (insert entries at entry) (λ other. IsNonDecreasingBy-insert (entry_rank other) entries at entry (entry_ranks-rise other entries up) place.within
    (λ k d lt. rank_rises other (get_or entries k d) entry (place.before k d lt))
    (λ k d le lt. rank_rises other entry (get_or entries k d) (place.after k d le lt)))

-- where an entry stood that is at a place after a removal
record Stood (entries : List Entry) (at k : ℕ) (d : Entry) : Type 0 where
  place : ℕ
  is : get_or (remove entries at) k d ≡ get_or entries place d
  below : k < at → place ≡ k
  from : at ≤ k → place ≡ k + 1

stood : (entries : List Entry) (at k : ℕ) (d : Entry) → at < length entries → Stood entries at k d
stood entries at k d lt = elim (cases_lt k at) [
  | inl before ↦ record { place = k; is = get_or-remove_below entries at d k before lt; below = λ _. refl; from = λ from. absurd (omega arith) }
  | inr after ↦ record { place = k + 1; is = get_or-remove_above entries at d k after lt; below = λ before. absurd (omega arith); from = λ _. refl }
]

rises-remove : (n : Entry → ℕ) (entries : List Entry) (at : ℕ) → at < length entries → IsNonDecreasingBy n entries → IsNonDecreasingBy n (remove entries at)
rises-remove n entries at lt rise i j d le below =
    let len : length (remove entries at) + 1 ≡ length entries = length-remove entries at lt in
    let a = stood entries at i d lt in
    let b = stood entries at j d lt in
    let here : n (get_or (remove entries at) i d) ≡ n (get_or entries a.place d) = ap n a.is in
    let there : n (get_or (remove entries at) j d) ≡ n (get_or entries b.place d) = ap n b.is in
    let order : a.place ≤ b.place = elim (cases_lt i at) [
      | inl ib ↦ let ia : a.place ≡ i = a.below ib in elim (cases_lt j at) [
        | inl jb ↦ let ja : b.place ≡ j = b.below jb in omega arith
        | inr jf ↦ let ja : b.place ≡ j + 1 = b.from jf in omega arith
      ]
      | inr if ↦ let ia : a.place ≡ i + 1 = a.from if in let ja : b.place ≡ j + 1 = b.from (omega arith) in omega arith
    ] in
    let within : b.place < length entries = elim (cases_lt j at) [
      | inl jb ↦ let ja : b.place ≡ j = b.below jb in omega arith
      | inr jf ↦ let ja : b.place ≡ j + 1 = b.from jf in omega arith
    ] in
    let up : n (get_or entries a.place d) ≤ n (get_or entries b.place d) = rise a.place b.place d order within in
    omega arith

pub ordered-remove : (entries : List Entry) (at : ℕ) → at < length entries → IsOrdered entries → IsOrdered (remove entries at)
ordered-remove entries at lt up = ordered_by_ranks (remove entries at) (λ entry. rises-remove (entry_rank entry) entries at lt (entry_ranks-rise entry entries up))

module _ (entry : Entry) (entries : List Entry) (at : ℕ) (up : IsOrdered entries) where
  -- what a binary search answers is a place
  pub place_found : at < length entries → ((d : Entry) → entry_cmp (get_or entries at d) entry ≡ Equal) → IsPlace entry entries at
  place_found lt equal =
      let here : (d : Entry) → entry_rank entry (get_or entries at d) ≡ 1 = λ d. ap ordering_index (equal d) in record {
        within = omega arith;
        before = λ k d less. let one = here d in let rise = entry_ranks-rise entry entries up k at d (omega arith) lt in not_below entry (get_or entries k d) (omega arith);
        after = λ k d from below. let one = here d in let rise = entry_ranks-rise entry entries up at k d from below in not_above entry (get_or entries k d) (omega arith);
      }

  pub place_missing : at ≤ length entries → IsBinarySearchResult (λ y. entry_cmp y entry) entries (Err at) → IsPlace entry entries at
  place_missing le point =
      let parted = point (entry_ranks-rise entry entries up) in record {
        within = le;
        before = λ k d lt. let low = ap ordering_index (parted.0 k d (omega arith) lt) in not_below entry (get_or entries k d) (omega arith);
        after = λ k d from lt. let high = ap ordering_index (parted.1 k d from lt) in not_above entry (get_or entries k d) (omega arith);
      }

  -- an entry that stands there is found
  pub not_missing : Contains entries entry → IsBinarySearchResult (λ y. entry_cmp y entry) entries (Err at) → ⊥
  not_missing there point =
      let parted = point (entry_ranks-rise entry entries up) in
      let k = there.0 in
      let here : entry_rank entry (get_or entries k entry) ≡ 1 = ap (entry_rank entry) there.2 ∙ entry_rank-itself entry in
      elim (cases_lt k at) [
        | inl lt ↦ let low = ap ordering_index (parted.0 k entry (omega arith) lt) in absurd (omega arith)
        | inr from ↦ let high = ap ordering_index (parted.1 k entry from there.1) in absurd (omega arith)
      ]
