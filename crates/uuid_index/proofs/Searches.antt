-- What stands from the place on that a search for a uuid at a position gives.
use Rattle.std.proofs.Common.{◌≡◌, ◌≢◌, inl, inr, ℕ, suc, ◌+◌, ◌≤◌, ◌<◌, Bool, true, false, List, length, get_or, refl, sym, ap, subst, ◌∙◌, Ordering, Less, Equal, Greater, arith}
use Rattle.std.specs.List.{Contains}
use Rattle.std.specs.List.Sorted.{IsPartitionedBy}
use Rattle.std.specs.Option.{option_map_or}
use Rattle.std.specs.Ordering.{is_lt, ordering_index}
use Rattle.std.proofs.lemmas.Bool.{cases_lt}
use Rattle.std.proofs.lemmas.List.{get_or_default}
use Rattle.std.proofs.lemmas.Option.{get_or_from_slice_get, slice_get_cases, slice_get-get_or}
use Rattle.uuid_index.specs.declared.entry.Entry.{Entry}
use Rattle.uuid_index.specs.Entries.{IsOrdered, IsStart, cmp_to, has_at, is_of, times}
use Rattle.uuid_index.proofs.Counts.{count_by-none, count_by-once, count_by-twice}
use Rattle.uuid_index.proofs.Order.{rank, ranks-rise, rank-of, is_of-ranked, same_uuid, same_position}

index-less : (o : Ordering) → is_lt o ≡ true → ordering_index o ≡ 0
index-less Less e = refl
index-less Equal e = absurd cc
index-less Greater e = absurd cc

less-index : (o : Ordering) → ordering_index o ≡ 0 → is_lt o ≡ true
less-index Less e = refl
less-index Equal e = absurd (omega arith)
less-index Greater e = absurd (omega arith)

index-not_less : (o : Ordering) → is_lt o ≡ false → 1 ≤ ordering_index o
index-not_less Less e = absurd cc
index-not_less Equal e = omega arith
index-not_less Greater e = omega arith

never : {b : Bool} → b ≡ true → b ≡ false → ⊥
never one other = cc

abbrev pub is_before : List ℕ → ℕ → Entry → Bool
is_before uuid position entry = is_lt (cmp_to uuid position entry)

module _ (uuid : List ℕ) (position : ℕ) (entries : List Entry) (up : IsOrdered entries) where
  pub partitioned : IsPartitionedBy (is_before uuid position) entries
  partitioned i j d le lt before =
      let later : rank uuid position (get_or entries j d) ≡ 0 = index-less _ before in
      let earlier : rank uuid position (get_or entries i d) ≤ rank uuid position (get_or entries j d) = ranks-rise uuid position entries up i j d le lt in
      less-index _ (omega arith)

  not_of : (entry : Entry) → rank uuid position entry ≢ 1 → is_of uuid position entry ≡ false
  not_of entry differs = by (is_of uuid position entry) refl
    where
      by : (b : Bool) → is_of uuid position entry ≡ b → b ≡ false
      by true e = absurd (differs (rank-of uuid position entry e))
      by false e = refl

  -- the entry at a place is of the uuid at the position
  record HasAt (es : List Entry) (at : ℕ) : Type 0 where
    entry : Entry
    within : at < length es
    is : (d : Entry) → is_of uuid position (get_or es at d) ≡ true

  has : (es : List Entry) (at : ℕ) → has_at uuid position es at ≡ true → HasAt es at
  has es at here = elim ((slice_get_cases es at).1) [
    | inl there ↦ record {
      entry = there.0;
      within = there.1;
      is = λ d. ap (is_of uuid position) (get_or_from_slice_get es at there.0 d there.2) ∙ (ap (λ o. option_map_or (is_of uuid position) o false) (sym there.2) ∙ here);
    }
    | inr past ↦ absurd (never here (ap (λ o. option_map_or (is_of uuid position) o false) past.1))
  ]

  has_not : (es : List Entry) (at : ℕ) (d : Entry) → at < length es → has_at uuid position es at ≡ false → is_of uuid position (get_or es at d) ≡ false
  has_not es at d lt other = ap (λ o. option_map_or (is_of uuid position) o false) (sym (slice_get-get_or es at d lt)) ∙ other

  module _ (at : ℕ) (start : IsStart uuid position entries at) where
    -- none before the place is of the uuid at the position
    earlier : (k : ℕ) (d : Entry) → k < at → is_of uuid position (get_or entries k d) ≡ false
    earlier k d lt = not_of (get_or entries k d) (λ one. let low : rank uuid position (get_or entries k d) ≡ 0 = index-less _ (start.before k d lt) in absurd (omega arith))

    -- nor is one past an entry from there on that is not
    later : (j k : ℕ) (e d : Entry) → at ≤ j → j ≤ k → k < length entries → is_of uuid position (get_or entries j e) ≡ false → is_of uuid position (get_or entries k d) ≡ false
    later j k e d le more lt other =
        let same : get_or entries j e ≡ get_or entries j d = get_or_default entries j e d (omega arith) in
        let low : 1 ≤ rank uuid position (get_or entries j d) = index-not_less _ (start.from j d le (omega arith)) in
        let rise : rank uuid position (get_or entries j d) ≤ rank uuid position (get_or entries k d) = ranks-rise uuid position entries up j k d more lt in
        not_of (get_or entries k d) (λ one. let equal : rank uuid position (get_or entries j d) ≡ 1 = omega arith in never (is_of-ranked uuid position (get_or entries j d) equal) (ap (is_of uuid position) (sym same) ∙ other))

    pub found_nowhere : has_at uuid position entries at ≡ false → times uuid position entries ≡ 0
    found_nowhere first = count_by-none (is_of uuid position) entries (λ k d lt. elim (cases_lt k at) [
      | inl before ↦ earlier k d before
      | inr from ↦ later at k d d (omega arith) from lt (has_not entries at d (omega arith) first)
    ])

    pub found_twice : has_at uuid position entries at ≡ true → has_at uuid position entries (at + 1) ≡ true → 2 ≤ times uuid position entries
    found_twice first second =
        let here = has entries at first in
        let there = has entries (at + 1) second in
        let next : at + 1 ≡ suc at = omega arith in
        count_by-twice (is_of uuid position) entries at here.entry (let lt = there.within in omega arith) (here.is here.entry) (subst (λ j. is_of uuid position (get_or entries j here.entry) ≡ true) next (there.is here.entry))

    pub found_once : has_at uuid position entries at ≡ true → has_at uuid position entries (at + 1) ≡ false → times uuid position entries ≡ 1
    found_once first second =
        let here = has entries at first in
        count_by-once (is_of uuid position) entries at here.entry here.within (here.is here.entry) (λ k d below differ. elim (cases_lt k at) [
          | inl before ↦ earlier k d before
          | inr from ↦ later (at + 1) k d d (omega arith) (omega arith) below (has_not entries (at + 1) d (omega arith) second)
        ])

    pub first_stands : (e : Entry) → has_at uuid position entries at ≡ true → Contains entries (record { uuid = uuid; position = position; slot = (get_or entries at e).slot })
    first_stands e first =
        let here = has entries at first in
        let entry : Entry = record { uuid = uuid; position = position; slot = (get_or entries at e).slot } in
        let is : get_or entries at e ≡ entry = λ i. record { uuid = same_uuid uuid position (get_or entries at e) (here.is e) i; position = same_position uuid position (get_or entries at e) (here.is e) i; slot = (get_or entries at e).slot } in
        (at, here.within, get_or_default entries at entry e here.within ∙ is)
