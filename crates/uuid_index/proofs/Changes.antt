-- An index after a module has got a label. (After it has lost one, the same is read backwards.)
use Rattle.std.proofs.Common.{◌≡◌, ◌≢◌, inl, inr, ℕ, zero, suc, ◌+◌, ◌<◌, Bool, true, Ordering, Less, Equal, Greater, List, [], ◌∷◌, ◌++◌, length, get_or, Option, Some, None, refl, sym, ap, subst, ◌∙◌, append-nil, arith}
use Rattle.std.specs.Cmp.{tied_itself}
use Rattle.std.specs.List.{Contains}
use Rattle.std.specs.List.Sorted.{IsPermutation}
use Rattle.std.specs.Ordering.{is_eq}
use Rattle.std.proofs.lemmas.Bool.{cases_eq}
use Rattle.std.proofs.lemmas.List.Sorted.{Contains-permutation, IsPermutation-append_left, IsPermutation-append_right, IsPermutation-cons, IsPermutation-middle, IsPermutation-sym, IsPermutation-to_front, IsPermutation-trans}
use Rattle.label_codec.specs.declared.label.Label.{Label}
use Rattle.label_codec.specs.ModuleLabels.{Labels, Module}
use Rattle.uuid_index.specs.declared.entry.Entry.{Entry}
use Rattle.uuid_index.specs.Entries.{IsOrdered, entry_cmp, entry_of}
use Rattle.uuid_index.specs.Labels.{GainsLabel, IsIndex, LosesLabel, PutsLabel, entries_below, entries_from, entries_of, entry_at, live_entries}
use Rattle.uuid_index.proofs.Order.{entries_total, exact_entries}
use Rattle.uuid_index.proofs.Permutations.{permutation-cancel}

-- slots that hold the same have the same entries
entries-same : (position : ℕ) (f g : ℕ → Option Label) (n : ℕ) → ((k : ℕ) → k < n → g k ≡ f k) → entries_below position g n ≡ entries_below position f n
entries-same position f g zero same = refl
entries-same position f g (suc n) same =
    let below : entries_below position g n ≡ entries_below position f n = entries-same position f g n (λ k lt. same k (omega arith)) in
    let here : g n ≡ f n = same n (omega arith) in
    λ i. below i ++ entry_at position n (here i)

-- a slot more that holds a label has an entry more
module _ (position : ℕ) (f g : ℕ → Option Label) (slot : ℕ) (label : Label) (free : f slot ≡ None) (live : g slot ≡ Some label) (others : (k : ℕ) → k ≢ slot → g k ≡ f k) where
  abbrev new : Entry
  new = entry_of label position slot

  entries-put : (n : ℕ) → slot < n → IsPermutation (new ∷ entries_below position f n) (entries_below position g n)
  entries-put zero lt = absurd (omega arith)
  entries-put (suc n) lt = elim (cases_eq slot n) [
    | inl e ↦
        let below : entries_below position g n ≡ entries_below position f n = entries-same position f g n (λ k less. others k (omega arith)) in
        let was : f n ≡ None = ap f (sym e) ∙ free in
        let now : g n ≡ Some label = ap g (sym e) ∙ live in
        let after : entries_below position g (suc n) ≡ entries_below position f n ++ new ∷ [] = λ i. below i ++ entry_at position (sym e i) (now i) in
        let before : entries_below position f (suc n) ≡ entries_below position f n = ap (λ o. entries_below position f n ++ entry_at position n o) was ∙ append-nil (entries_below position f n) in
        subst (λ es. IsPermutation (new ∷ es) (entries_below position g (suc n))) (sym before)
        (subst (IsPermutation (new ∷ entries_below position f n)) (sym after) (IsPermutation-sym _ _ (IsPermutation-to_front (entries_below position f n) new)))
    | inr differ ↦
        let below = entries-put n (omega arith) in
        let here : g n ≡ f n = others n (λ e. differ (sym e)) in
        subst (λ o. IsPermutation (new ∷ entries_below position f (suc n)) (entries_below position g n ++ entry_at position n o)) (sym here)
        (IsPermutation-append_left (entry_at position n (f n)) (new ∷ entries_below position f n) (entries_below position g n) below)
  ]

entries_of-put : (position : ℕ) (before after : Module) (slot : ℕ) (label : Label) → PutsLabel before after slot label → IsPermutation (entry_of label position slot ∷ entries_of position before) (entries_of position after)
entries_of-put position before after slot label puts =
    subst (λ n. IsPermutation (entry_of label position slot ∷ entries_of position before) (entries_below position after.at n)) (sym puts.slots)
    (entries-put position before.at after.at slot label puts.was_free puts.now_live puts.others before.slots puts.within)

-- modules that stay have the same entries
entries_from-same : (from : ℕ) (handles : List ℕ) (before after : Labels) → ((k : ℕ) → k < length handles → after (get_or handles k 0) ≡ before (get_or handles k 0)) → entries_from from handles after ≡ entries_from from handles before
entries_from-same from [] before after same = refl
entries_from-same from (h ∷ hs) before after same =
    let here : after h ≡ before h = same 0 (omega arith) in
    let rest : entries_from (from + 1) hs after ≡ entries_from (from + 1) hs before = entries_from-same (from + 1) hs before after (λ k lt. same (suc k) (omega arith)) in
    λ i. entries_of from (here i) ++ rest i

entries_from-put : (from place slot : ℕ) (label : Label) (handles : List ℕ) (before after : Labels) → place < length handles
    → PutsLabel (before (get_or handles place 0)) (after (get_or handles place 0)) slot label
    → ((k : ℕ) → k < length handles → k ≢ place → after (get_or handles k 0) ≡ before (get_or handles k 0))
    → (position : ℕ) → position ≡ from + place → IsPermutation (entry_of label position slot ∷ entries_from from handles before) (entries_from from handles after)
entries_from-put from place slot label [] before after lt puts others position is = absurd (omega arith)
entries_from-put from zero slot label (h ∷ hs) before after lt puts others position is =
    let rest : entries_from (from + 1) hs after ≡ entries_from (from + 1) hs before = entries_from-same (from + 1) hs before after (λ k below. others (suc k) (omega arith) (omega arith)) in
    let same : from ≡ position = omega arith in
    let here : IsPermutation (entry_of label position slot ∷ entries_of from (before h)) (entries_of from (after h)) = subst (λ p. IsPermutation (entry_of label p slot ∷ entries_of from (before h)) (entries_of from (after h))) same (entries_of-put from (before h) (after h) slot label puts) in
    subst (λ es. IsPermutation (entry_of label position slot ∷ entries_from from (h ∷ hs) before) (entries_of from (after h) ++ es)) (sym rest)
    (IsPermutation-append_left (entries_from (from + 1) hs before) (entry_of label position slot ∷ entries_of from (before h)) (entries_of from (after h)) here)
entries_from-put from (suc place) slot label (h ∷ hs) before after lt puts others position is =
    let here : after h ≡ before h = others 0 (omega arith) (omega arith) in
    let entry = entry_of label position slot in
    let rest : IsPermutation (entry ∷ entries_from (from + 1) hs before) (entries_from (from + 1) hs after) = entries_from-put (from + 1) place slot label hs before after (omega arith) puts (λ k below differ. others (suc k) (omega arith) (omega arith)) position (omega arith) in
    let along = IsPermutation-append_right (entries_of from (before h)) _ _ rest in
    let front = IsPermutation-sym _ _ (IsPermutation-middle (entries_of from (before h)) entry (entries_from (from + 1) hs before)) in
    subst (λ (area : Module). IsPermutation (entry ∷ entries_from from (h ∷ hs) before) (entries_of from area ++ entries_from (from + 1) hs after)) (sym here) (IsPermutation-trans _ _ _ front along)

-- the entries of the modules are one more
live_entries-gain : (modules : List ℕ) (entry : Entry) (before after : Labels) → GainsLabel modules entry before after → IsPermutation (entry ∷ live_entries modules before) (live_entries modules after)
live_entries-gain modules entry before after gain =
    let is : entry_of gain.label entry.position entry.slot ≡ entry = λ i. record { uuid = gain.has_uuid i; position = entry.position; slot = entry.slot } in
    subst (λ e. IsPermutation (e ∷ live_entries modules before) (live_entries modules after)) is
    (entries_from-put 0 entry.position entry.slot gain.label modules before after gain.within gain.puts (λ k lt differ. gain.others (get_or modules k 0) (λ same. differ (gain.only_once k lt same))) entry.position (omega arith))

abbrev same_entry : Entry → Entry → Bool
same_entry x y = is_eq (entry_cmp y x)

-- an index into which the label's entry is inserted
pub index-gain : (modules : List ℕ) (entry : Entry) (before after : Labels) (old now : List Entry) → GainsLabel modules entry before after → IsPermutation (entry ∷ old) now → IsOrdered now → IsIndex modules before old → IsIndex modules after now
index-gain modules entry before after old now gain moved up index = record {
  live = IsPermutation-trans _ _ _ (IsPermutation-sym _ _ (live_entries-gain modules entry before after gain)) (IsPermutation-trans _ _ _ (IsPermutation-cons entry _ _ index.live) moved);
  ordered = up;
}

-- an index from which the label's entry is removed
pub index-loss : (modules : List ℕ) (entry : Entry) (before after : Labels) (old now : List Entry) → LosesLabel modules entry before after → IsPermutation old (entry ∷ now) → IsOrdered now → IsIndex modules before old → IsIndex modules after now
index-loss modules entry before after old now loss moved up index = record {
  live = permutation-cancel same_entry (λ x y same. exact_entries y x (Equal-from (entry_cmp y x) same)) (λ x. ap is_eq (tied_itself entries_total x)) entry (live_entries modules after) now
      (IsPermutation-trans _ _ _ (live_entries-gain modules entry after before loss) (IsPermutation-trans _ _ _ index.live moved));
  ordered = up;
}
  where
    Equal-from : (o : Ordering) → is_eq o ≡ true → o ≡ Equal
    Equal-from Less e = absurd cc
    Equal-from Equal e = refl
    Equal-from Greater e = absurd cc

-- a label that is lost had its entry in the index
pub has_entry : (modules : List ℕ) (entry : Entry) (before after : Labels) (old : List Entry) → LosesLabel modules entry before after → IsIndex modules before old → Contains old entry
has_entry modules entry before after old loss index =
    Contains-permutation (live_entries modules before) old entry index.live
    (Contains-permutation (entry ∷ live_entries modules after) (live_entries modules before) entry (live_entries-gain modules entry after before loss) (0, omega arith, refl))

-- modules that stay keep their index
pub index-same : (modules : List ℕ) (before after : Labels) (entries : List Entry) → ((k : ℕ) → k < length modules → after (get_or modules k 0) ≡ before (get_or modules k 0)) → IsIndex modules before entries → IsIndex modules after entries
index-same modules before after entries same index = record {
  live = subst (λ es. IsPermutation es entries) (sym (entries_from-same 0 modules before after same)) index.live;
  ordered = index.ordered;
}
