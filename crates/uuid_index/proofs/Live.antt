-- The entries of an index are those of live labels: how many there are of a uuid at a position, and where one stands.
use Rattle.std.proofs.Common.{◌≡◌, ◌≢◌, ℕ, zero, suc, ◌+◌, ◌<◌, ◌≤◌, Bool, true, false, ◌&&◌, cond, eqb, List, [], ◌∷◌, ◌++◌, length, get_or, Option, Some, None, refl, sym, ◌∙◌, subst, eq-eqb, eqb-true, arith}
use Rattle.std.specs.Cmp.{both_ways}
use Rattle.std.specs.List.{All, Contains}
use Rattle.std.specs.Str.{bytes_eq}
use Rattle.std.proofs.lemmas.List.Elements.{All-append, All-contains, All-nil, All-push, All-weaker}
use Rattle.std.proofs.lemmas.List.Sorted.{Contains-permutation, IsPermutation-sym, sum_by-IsPermutation}
use Rattle.std.proofs.lemmas.List.Sums.{sum_by-append}
use Rattle.std.proofs.lemmas.Slice.Eq.{bytes_eq-Decides}
use Rattle.label_codec.specs.declared.label.Label.{Label}
use Rattle.label_codec.specs.ModuleLabels.{Labels, Module, count, has, label_if, number, of_uuid, one}
use Rattle.label_codec.proofs.Counting.{count-same}
use Rattle.uuid_index.specs.declared.entry.Entry.{Entry}
use Rattle.uuid_index.specs.declared.index.Found.{Found}
use Rattle.uuid_index.specs.declared.index.Found.TheVariants.{Nowhere, Once, Repeated}
use Rattle.uuid_index.specs.Entries.{entry_of, is_of, times}
use Rattle.uuid_index.specs.Found.{IsFound, IsFoundLabel, IsLive}
use Rattle.uuid_index.specs.Labels.{IsIndex, entries_below, entries_from, entries_of, entry_at, live_entries}

times-append : (uuid : List ℕ) (position : ℕ) (xs ys : List Entry) → times uuid position (xs ++ ys) ≡ times uuid position xs + times uuid position ys
times-append uuid position xs ys = sum_by-append (λ e. cond (is_of uuid position e) 1 0) xs ys

bytes_eq-flip : (u v : List ℕ) → bytes_eq u v ≡ bytes_eq v u
bytes_eq-flip u v = both_ways (bytes_eq u v) (bytes_eq v u) (turn u v) (turn v u)
  where
    turn : (u v : List ℕ) → bytes_eq u v ≡ true → bytes_eq v u ≡ true
    turn u v t = (bytes_eq-Decides v u).1 (sym ((bytes_eq-Decides u v).0 t))

module _ (uuid : List ℕ) (position : ℕ) where
  -- a slot of the module at the position
  times-entry_at : (slot : ℕ) (label : Option Label) → times uuid position (entry_at position slot label) ≡ one (has uuid) label
  times-entry_at slot None = refl
  times-entry_at slot (Some l) = by (bytes_eq l.uuid uuid) (bytes_eq-flip uuid l.uuid) (eq-eqb position position refl)
    where
      by : (b : Bool) → bytes_eq uuid l.uuid ≡ b → eqb position position ≡ true → 0 + cond {A = ℕ} (b && eqb position position) 1 0 ≡ cond (bytes_eq uuid l.uuid) 1 0
      by true t e = rw (t, e) refl
      by false f e = rw f refl

  -- a slot of the module at another
  times-elsewhere : (other slot : ℕ) (label : Option Label) → other ≢ position → times uuid position (entry_at other slot label) ≡ 0
  times-elsewhere other slot None differ = refl
  times-elsewhere other slot (Some l) differ = by (bytes_eq l.uuid uuid) (eqb other position) refl
    where
      by : (a b : Bool) → eqb other position ≡ b → 0 + cond {A = ℕ} (a && b) 1 0 ≡ 0
      by true true e = absurd (differ (eqb-true other position e))
      by true false e = refl
      by false b e = refl

  times-below : (at : ℕ → Option Label) (n : ℕ) → times uuid position (entries_below position at n) ≡ count (has uuid) at n
  times-below at zero = refl
  times-below at (suc n) =
      let parts = times-append uuid position (entries_below position at n) (entry_at position n (at n)) in
      let before = times-below at n in
      let last = times-entry_at n (at n) in
      omega arith

  times-below_elsewhere : (other : ℕ) (at : ℕ → Option Label) (n : ℕ) → other ≢ position → times uuid position (entries_below other at n) ≡ 0
  times-below_elsewhere other at zero differ = refl
  times-below_elsewhere other at (suc n) differ =
      let parts = times-append uuid position (entries_below other at n) (entry_at other n (at n)) in
      let before = times-below_elsewhere other at n differ in
      let last = times-elsewhere other n (at n) differ in
      omega arith

  -- the modules past a position have no entries of it
  times-past : (from : ℕ) (handles : List ℕ) (labels : Labels) → position < from → times uuid position (entries_from from handles labels) ≡ 0
  times-past from [] labels lt = refl
  times-past from (h ∷ hs) labels lt =
      let parts = times-append uuid position (entries_of from (labels h)) (entries_from (from + 1) hs labels) in
      let here = times-below_elsewhere from (labels h).at (labels h).slots (omega arith) in
      let rest = times-past (from + 1) hs labels (omega arith) in
      omega arith

times-from : (uuid : List ℕ) (position from place : ℕ) (handles : List ℕ) (labels : Labels) → position ≡ from + place → place < length handles → times uuid position (entries_from from handles labels) ≡ number (has uuid) (labels (get_or handles place 0))
times-from uuid position from place [] labels is lt = absurd (omega arith)
times-from uuid position from zero (h ∷ hs) labels is lt =
    let parts = times-append uuid position (entries_of from (labels h)) (entries_from (from + 1) hs labels) in
    let same : position ≡ from = omega arith in
    let here : times uuid position (entries_of from (labels h)) ≡ number (has uuid) (labels h) = subst (λ p. times uuid position (entries_of p (labels h)) ≡ number (has uuid) (labels h)) same (times-below uuid position (labels h).at (labels h).slots) in
    let rest = times-past uuid position (from + 1) hs labels (omega arith) in
    omega arith
times-from uuid position from (suc place) (h ∷ hs) labels is lt =
    let parts = times-append uuid position (entries_of from (labels h)) (entries_from (from + 1) hs labels) in
    let here = times-below_elsewhere uuid position from (labels h).at (labels h).slots (omega arith) in
    let rest = times-from uuid position (from + 1) place hs labels (omega arith) (omega arith) in
    omega arith

-- how many entries of an index are of a uuid at a position
times-index : (uuid : List ℕ) (position : ℕ) (modules : List ℕ) (labels : Labels) (entries : List Entry) → IsIndex modules labels entries → position < length modules → times uuid position entries ≡ number (has uuid) (labels (get_or modules position 0))
times-index uuid position modules labels entries index lt =
    sum_by-IsPermutation (λ e. cond (is_of uuid position e) 1 0) (live_entries modules labels) entries index.live
    ∙ times-from uuid position 0 position modules labels (omega arith) lt

record IsOf (position : ℕ) (area : Module) (entry : Entry) : Type 0 where
  at_position : entry.position ≡ position
  live : IsLive entry.uuid area entry.slot

record IsAmong (from : ℕ) (handles : List ℕ) (labels : Labels) (entry : Entry) : Type 0 where
  place : ℕ
  within : place < length handles
  at_position : entry.position ≡ from + place
  live : IsLive entry.uuid (labels (get_or handles place 0)) entry.slot

live-below : (position : ℕ) (area : Module) (n : ℕ) → n ≤ area.slots → All (IsOf position area) (entries_below position area.at n)
live-below position area zero le = All-nil (IsOf position area)
live-below position area (suc n) le = All-append (IsOf position area) (entries_below position area.at n) _ (live-below position area n (omega arith)) (last (area.at n) refl)
  where
    last : (label : Option Label) → area.at n ≡ label → All (IsOf position area) (entry_at position n label)
    last None is = All-nil (IsOf position area)
    last (Some l) is = All-push (IsOf position area) [] (entry_of l position n) (All-nil (IsOf position area)) (record {
      at_position = refl;
      live = record { within = omega arith; label = l; is = is; has_uuid = (bytes_eq-Decides l.uuid l.uuid).1 refl };
    })

live-from : (from : ℕ) (handles : List ℕ) (labels : Labels) → All (IsAmong from handles labels) (entries_from from handles labels)
live-from from [] labels = All-nil (IsAmong from [] labels)
live-from from (h ∷ hs) labels = All-append (IsAmong from (h ∷ hs) labels) (entries_of from (labels h)) (entries_from (from + 1) hs labels)
    (All-weaker (IsOf from (labels h)) (IsAmong from (h ∷ hs) labels) (λ e here. record { place = 0; within = omega arith; at_position = let same : e.position ≡ from = here.at_position in omega arith; live = here.live }) (entries_of from (labels h)) (live-below from (labels h) (labels h).slots (omega arith)))
    (All-weaker (IsAmong (from + 1) hs labels) (IsAmong from (h ∷ hs) labels) (λ e there. record { place = suc there.place; within = let lt : there.place < length hs = there.within in omega arith; at_position = let same : e.position ≡ from + 1 + there.place = there.at_position in omega arith; live = there.live }) (entries_from (from + 1) hs labels) (live-from (from + 1) hs labels))

-- a live label stands where an entry of an index says
live-index : (modules : List ℕ) (labels : Labels) (entries : List Entry) (entry : Entry) → IsIndex modules labels entries → Contains entries entry → IsLive entry.uuid (labels (get_or modules entry.position 0)) entry.slot
live-index modules labels entries entry index here =
    let there = Contains-permutation entries (live_entries modules labels) entry (IsPermutation-sym (live_entries modules labels) entries index.live) here in
    let among = All-contains (IsAmong 0 modules labels) (live_entries modules labels) entry (live-from 0 modules labels) there in
    let same : among.place ≡ entry.position = let is : entry.position ≡ 0 + among.place = among.at_position in omega arith in
    subst (λ place. IsLive entry.uuid (labels (get_or modules place 0)) entry.slot) same among.live

-- what is found among the entries of an index is so among the labels
pub found_label : (uuid : List ℕ) (position : ℕ) (modules : List ℕ) (labels : Labels) (entries : List Entry) (found : Found) → IsIndex modules labels entries → position < length modules → IsFound uuid position entries found → IsFoundLabel uuid (labels (get_or modules position 0)) found
found_label uuid position modules labels entries Nowhere index lt none = sym (times-index uuid position modules labels entries index lt) ∙ none
found_label uuid position modules labels entries (Once slot) index lt once =
    (sym (times-index uuid position modules labels entries index lt) ∙ once.0, live-index modules labels entries (record { uuid = uuid; position = position; slot = slot }) index once.1)
found_label uuid position modules labels entries Repeated index lt more = subst (λ n. 2 ≤ n) (times-index uuid position modules labels entries index lt) more

-- the labels of the uuid, counted after the others are left out
pub number-of_uuid-any : (uuid : List ℕ) (area : Module) → number (λ _. true) (of_uuid uuid area) ≡ number (has uuid) area
number-of_uuid-any uuid area = count-same (λ _. true) (has uuid) (λ slot. label_if (has uuid) (area.at slot)) area.at area.slots (λ k lt. one-if (area.at k))
  where
    one-if : (label : Option Label) → one (λ _. true) (label_if (has uuid) label) ≡ one (has uuid) label
    one-if None = refl
    one-if (Some l) = by (has uuid l)
      where
        by : (b : Bool) → one (λ _. true) (cond b (Some l) None) ≡ cond b 1 0
        by true = refl
        by false = refl
