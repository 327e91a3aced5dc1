-- What becomes of the free space of regions.
use Rattle.std.proofs.Common.{◌≡◌, ◌≢◌, inl, inr, ℕ, ◌+◌, ◌≤◌, ◌<◌, Bool, true, false, ◌&&◌, ◌||◌, not, cond, List, [], ◌∷◌, Option, Some, None, refl, sym, ap, subst, ◌∙◌, arith}
use Rattle.std.specs.Prelude.{◌==◌, nat_lt, count_by}
use Rattle.std.specs.List.{Contains, list_any}
use Rattle.std.specs.Ordering.{is_lt}
use Rattle.std.proofs.Math.Bool.{and-false, and-true, or-false, or-true}
use Rattle.std.proofs.lemmas.List.Sums.{sum_by-cons}
use Rattle.view_types.specs.declared.extents.Extent.{Extent}
use Rattle.view_types.specs.Intervals.{AreMaximal, is_free, is_within, with_range, without_range}
use Rattle.label_codec.specs.ModuleLabels.{Labels}
use Rattle.region_map.specs.declared.platform.Member.{Member}
use Rattle.region_map.specs.declared.platform.Platform.{Platform}
use Rattle.region_map.specs.declared.platform.Region.{Region}
use Rattle.region_map.specs.Platforms.{region_at}
use Rattle.label_table.specs.Belonging.{IsDisjoint}
use Rattle.label_table.specs.Division.{AreFreeExtents, has_address, has_offset, is_common_free, is_held_at, namespaces_over, part_size}
use Rattle.label_table.specs.Flips.{AddsOne, FreesOne}
use Rattle.label_table.specs.Namespaces.{insert_space, namespaces, space_cmp, without_uuid}
use Rattle.label_table.specs.Spaces.{Space, space}
use Rattle.label_table.specs.Tables.{ChangesAt, state, table, with_namespace, with_space}
use Rattle.label_table.proofs.Clashes.{has_offset-is}
use Rattle.label_table.proofs.Confined.{IsConfined-sym}
use Rattle.label_table.proofs.Equations.{space-of_table}
use Rattle.label_table.proofs.ListTests.{both, eq_other, eq_same, eq_true, lt_from, never, some_is}
use Rattle.label_table.proofs.Losing.{freed-state}
use Rattle.label_table.proofs.Order.{space-uuid}
use Rattle.label_table.proofs.Staging.{staged-gains}
use Rattle.label_table.proofs.Listed.{namespaces-same, namespaces-with, namespaces-without, space-whole, space-within}
use Rattle.label_table.proofs.StatusLaws.{common_free-kept, space-elsewhere, space-new, space-others}
use Rattle.label_table.proofs.TableChanges.{changes-with_changed_space, changes-with_space, changes-without_space}
use Rattle.region_labels.specs.Fates.{with_regions}
use Rattle.region_labels.specs.GainedSpaces.{GainsNamespace, IsAlone, LosesNamespace, ShowsNew}

-- what the regions are alone
pub regions-disjoint : (P : Platform) → IsDisjoint P → IsDisjoint (with_regions P.regions)
regions-disjoint P d = record { indexes = d.indexes; positions = d.positions; bytes = d.bytes }

-- A list of free extents is one of labels with the same table, too.
pub extents-kept : (P : Platform) → IsDisjoint P → (L M : Labels) → table P M ≡ table P L → (q : Region)
    → Contains P.regions q → (extents : List Extent) → AreFreeExtents P L q extents → AreFreeExtents P M q extents
extents-kept P disjoint L M same q in_q extents are =
    subst (λ free. AreMaximal (part_size q) free extents) (sym (common_free-kept P disjoint L M same q in_q)) are

-- a namespace more that has an offset, or has it not
count-insert : (p : Space → Bool) (new : Space) (xs : List Space)
    → count_by p (insert_space new xs) ≡ cond (p new) 1 0 + count_by p xs
count-insert p new [] = sum_by-cons (λ s. cond (p s) 1 0) new []
count-insert p new (x ∷ xs) = by (is_lt (space_cmp new x)) (count-insert p new xs)
  where
    by : (b : Bool) → count_by p (insert_space new xs) ≡ cond (p new) 1 0 + count_by p xs
        → count_by p (cond b (new ∷ x ∷ xs) (x ∷ insert_space new xs)) ≡ cond (p new) 1 0 + count_by p (x ∷ xs)
    by true rest = sum_by-cons (λ s. cond (p s) 1 0) new (x ∷ xs)
    by false rest =
        let first : count_by p (x ∷ insert_space new xs) ≡ cond (p x) 1 0 + count_by p (insert_space new xs) =
        sum_by-cons (λ s. cond (p s) 1 0) x (insert_space new xs) in
        let old : count_by p (x ∷ xs) ≡ cond (p x) 1 0 + count_by p xs = sum_by-cons (λ s. cond (p s) 1 0) x xs in
        omega arith

-- free is what was free, without the new range
free-without : (inside own held : Bool) (n : ℕ)
    → (inside && (((cond {A = ℕ} own 1 0 + n) == 0) && held)) ≡ ((inside && ((n == 0) && held)) && not own)
free-without true true held n =
    let e : (1 + n == 0) ≡ false = eq_other (1 + n) 0 (omega arith) in
    (λ i. e i && held) ∙ sym (and-false ((n == 0) && held))
free-without true false held n =
    let e : 0 + n ≡ n = omega arith in (λ i. (e i == 0) && held) ∙ sym (and-true (n == 0 && held))
free-without false own held n = refl

-- free is what was free, with the range that only the namespace had
free-with : (inside own held : Bool) (n : ℕ) → (own ≡ true → (inside ≡ true) × (n ≡ 0) × (held ≡ true))
    → (inside && ((n == 0) && held))
    ≡ ((inside && (((cond {A = ℕ} own 1 0 + n) == 0) && held)) || own)
free-with inside true held n alone =
    let a = alone refl in
    (λ i. a.0 i && ((a.1 i == 0) && a.2 i)) ∙ sym (or-true (inside && (((1 + n) == 0) && held)))
free-with inside false held n alone =
    let e : 0 + n ≡ n = omega arith in
    sym (or-false (inside && ((0 + n == 0) && held)) ∙ (λ i. inside && ((e i == 0) && held)))

module _ (P : Platform) (r : Region) (u : List ℕ) (at : Option Space) (L M : Labels) (c : ChangesAt P r u at L M)
    (helds : (table P M).held ≡ (table P L).held) where
  held-same : (q : Region) (o : ℕ) → is_held_at P M q o ≡ is_held_at P L q o
  held-same q o = λ i. list_any (λ (x : Member). nat_lt 0 (helds i x.handle (has_address (x.dpa_base + o)))) q.members

  free-by : (q : Region) (o n : ℕ) → namespaces_over M q o ≡ n
      → is_common_free P M q o ≡ (nat_lt o (part_size q) && ((n == 0) && not (is_held_at P L q o)))
  free-by q o n over = λ i. nat_lt o (part_size q) && ((over i == 0) && not (held-same q o i))

  -- the other regions keep their free space
  elsewhere-free : (q : Region) → Contains P.regions q → q ≢ r → is_common_free P M q ≡ is_common_free P L q
  elsewhere-free q in_q other =
      let spaces : namespaces M q ≡ namespaces L q =
      namespaces-same L M q (λ v. space-elsewhere P r u at L M c q v in_q other) in
      λ i o. free-by q o (namespaces_over L q o) (λ j. count_by (has_offset o) (spaces j)) i

  elsewhere-extents : (q : Region) → Contains P.regions q → q ≢ r → (extents : List Extent)
      → AreFreeExtents P L q extents → AreFreeExtents P M q extents
  elsewhere-extents q in_q other extents are =
      subst (λ free. AreMaximal (part_size q) free extents) (sym (elsewhere-free q in_q other)) are

-- a list of namespaces without a uuid, and the one with it
with-one : (L : Labels) (r : Region) (s : Space) → space L r s.uuid ≡ Some s
    → namespaces L r ≡ insert_space s (without_uuid s.uuid (namespaces L r))
with-one L r s is = namespaces-with L L r s is (λ v differ. refl)

without-none : (L : Labels) (r : Region) (u : List ℕ) → space L r u ≡ None
    → namespaces L r ≡ without_uuid u (namespaces L r)
without-none L r u none = namespaces-without L L r u none (λ v differ. refl)

free-is : (P : Platform) (L : Labels) (r : Region) (extents : List Extent) → AreFreeExtents P L r extents
    → is_free extents ≡ is_common_free P L r
free-is P L r extents are = λ i o. are.free_in o i

module _ (P : Platform) (r : Region) (new : Space) (L M : Labels) (g : GainsNamespace P r new L M) where
  gain-changes : ChangesAt P r new.uuid (Some new) L M
  gain-changes = changes-with_space P g.disjoint r g.region_in L M new g.gains

  -- the region has lost the range of the namespace
  pub gained-free : is_common_free P M r ≡ without_range (is_common_free P L r) new.offset new.length
  gained-free = λ i o. at o i
    where
      list : namespaces M r ≡ insert_space new (namespaces L r)
      list = namespaces-with L M r new (space-new P r new.uuid (Some new) L M gain-changes)
          (space-others P r new.uuid (Some new) L M gain-changes)
          ∙ ap (insert_space new) (sym (without-none L r new.uuid g.had_none))

      over : (o : ℕ) → namespaces_over M r o ≡ cond (has_offset o new) 1 0 + namespaces_over L r o
      over o = ap (count_by (has_offset o)) list ∙ count-insert (has_offset o) new (namespaces L r)

      at : (o : ℕ) → is_common_free P M r o ≡ without_range (is_common_free P L r) new.offset new.length o
      at o = free-by P r new.uuid (Some new) L M gain-changes (λ i. (g.gains i).held) r o _ (over o)
          ∙ free-without (nat_lt o (part_size r)) (has_offset o new) (not (is_held_at P L r o)) (namespaces_over L r o)

  pub gained-extents : (old now : List Extent) → AreFreeExtents P L r old
      → AreMaximal (part_size r) (without_range (is_free old) new.offset new.length) now → AreFreeExtents P M r now
  gained-extents old now are carved =
      subst (λ free. AreMaximal (part_size r) free now)
      ((λ i. without_range (free-is P L r old are i) new.offset new.length) ∙ sym gained-free) carved

  pub gained-elsewhere : (q : Region) → Contains P.regions q → q ≢ r → (extents : List Extent)
      → AreFreeExtents P L q extents → AreFreeExtents P M q extents
  gained-elsewhere = elsewhere-extents P r new.uuid (Some new) L M gain-changes (λ i. (g.gains i).held)

module _ (P : Platform) (r : Region) (old : Space) (L M : Labels) (l : LosesNamespace P r old L M) where
  lose-changes : ChangesAt P r old.uuid None L M
  lose-changes = changes-without_space P l.disjoint r l.region_in L M old.uuid l.loses

  -- the range of the namespace is free, where only it had it
  pub lost-free : IsAlone P L r old
      → is_common_free P M r ≡ with_range (is_common_free P L r) old.offset old.length
  lost-free alone = λ i o. at o i
    where
      list : namespaces L r ≡ insert_space old (namespaces M r)
      list = with-one L r old l.was ∙ ap (insert_space old)
          (sym (namespaces-without L M r old.uuid (space-new P r old.uuid None L M lose-changes)
          (space-others P r old.uuid None L M lose-changes)))

      over : (o : ℕ) → namespaces_over L r o ≡ cond (has_offset o old) 1 0 + namespaces_over M r o
      over o = ap (count_by (has_offset o)) list ∙ count-insert (has_offset o) old (namespaces M r)

      own : (o : ℕ) → has_offset o old ≡ true
          → (nat_lt o (part_size r) ≡ true) × (namespaces_over M r o ≡ 0) × (not (is_held_at P L r o) ≡ true)
      own o here =
          let range = has_offset-is o old here in
          let within = space-within P l.disjoint L r l.region_in old.uuid old l.was in
          let low : old.offset ≤ o = range.0 in
          let high : o < old.offset + old.length = range.1 in
          let one : namespaces_over L r o ≡ 1 = alone.only o low high in
          let split : namespaces_over L r o ≡ 1 + namespaces_over M r o =
          over o ∙ (λ i. cond {A = ℕ} (here i) 1 0 + namespaces_over M r o) in
          (lt_from o (part_size r) (omega arith), omega arith, ap not (alone.not_held o low high))

      at : (o : ℕ) → is_common_free P M r o ≡ with_range (is_common_free P L r) old.offset old.length o
      at o = free-by P r old.uuid None L M lose-changes (λ i. (l.loses i).held) r o _ refl
          ∙ free-with (nat_lt o (part_size r)) (has_offset o old) (not (is_held_at P L r o)) (namespaces_over M r o) (own o)
          ∙ sym (λ i. (nat_lt o (part_size r) && ((over o i == 0) && not (is_held_at P L r o))) || has_offset o old)

  pub lost-extents : IsAlone P L r old → (were now : List Extent) → AreFreeExtents P L r were
      → AreMaximal (part_size r) (with_range (is_free were) old.offset old.length) now → AreFreeExtents P M r now
  lost-extents alone were now are released =
      subst (λ free. AreMaximal (part_size r) free now)
      ((λ i. with_range (free-is P L r were are i) old.offset old.length) ∙ sym (lost-free alone)) released

  pub lost-elsewhere : (q : Region) → Contains P.regions q → q ≢ r → (extents : List Extent)
      → AreFreeExtents P L q extents → AreFreeExtents P M q extents
  lost-elsewhere = elsewhere-extents P r old.uuid None L M lose-changes (λ i. (l.loses i).held)

module _ (P : Platform) (r : Region) (old new : Space) (L M : Labels) (s : ShowsNew P r old new L M) where
  show-changes : ChangesAt P r new.uuid (Some new) L M
  show-changes = changes-with_changed_space P s.disjoint r s.region_in L M new s.shows

  -- the region has the free space that it had
  pub shown-free : is_common_free P M r ≡ is_common_free P L r
  shown-free = λ i o. at o i
    where
      rest : List Space
      rest = without_uuid new.uuid (namespaces L r)

      list : namespaces M r ≡ insert_space new rest
      list = namespaces-with L M r new (space-new P r new.uuid (Some new) L M show-changes)
          (space-others P r new.uuid (Some new) L M show-changes)

      uuid : old.uuid ≡ new.uuid
      uuid = space-uuid L r new.uuid old s.was

      was : namespaces L r ≡ insert_space old rest
      was = subst (λ u. namespaces L r ≡ insert_space old (without_uuid u (namespaces L r))) uuid
          (with-one L r old (subst (λ u. space L r u ≡ Some old) (sym uuid) s.was))

      same : (o : ℕ) → has_offset o new ≡ has_offset o old
      same o = λ i. is_within (s.place i) (s.length i) o

      over : (o : ℕ) → namespaces_over M r o ≡ namespaces_over L r o
      over o = ap (count_by (has_offset o)) list ∙ count-insert (has_offset o) new rest
          ∙ (λ i. cond {A = ℕ} (same o i) 1 0 + count_by (has_offset o) rest)
          ∙ sym (count-insert (has_offset o) old rest) ∙ sym (ap (count_by (has_offset o)) was)

      at : (o : ℕ) → is_common_free P M r o ≡ is_common_free P L r o
      at o = free-by P r new.uuid (Some new) L M show-changes (λ i. (s.shows i).held) r o (namespaces_over L r o) (over o)

  pub shown-extents : (extents : List Extent) → AreFreeExtents P L r extents → AreFreeExtents P M r extents
  shown-extents extents are = subst (λ free. AreMaximal (part_size r) free extents) (sym shown-free) are

  pub shown-elsewhere : (q : Region) → Contains P.regions q → q ≢ r → (extents : List Extent)
      → AreFreeExtents P L q extents → AreFreeExtents P M q extents
  shown-elsewhere = elsewhere-extents P r new.uuid (Some new) L M show-changes (λ i. (s.shows i).held)

  pub shown-all : (q : Region) → Contains P.regions q → (extents : List Extent) → AreFreeExtents P L q extents
      → AreFreeExtents P M q extents
  shown-all q in_q extents are = elim (both (r.index == q.index)) [
    | inl same ↦
        let e : r ≡ q = some_is (sym (s.disjoint.indexes r s.region_in)
        ∙ (λ i. region_at P (eq_true r.index q.index same i)) ∙ s.disjoint.indexes q in_q) in
        subst (λ p. AreFreeExtents P L p extents → AreFreeExtents P M p extents) e (shown-extents extents) are
    | inr differ ↦ shown-elsewhere q in_q
        (λ e. never (r.index == q.index) (eq_same r.index q.index (ap (λ (p : Region). p.index) (sym e))) differ) extents are
  ]

-- the last label of a new namespace, after others that changed nothing
pub completed : (P : Platform) (r : Region) (u : List ℕ) (x : Member) (start L M : Labels) (new : Space)
    → table P L ≡ table P start → AddsOne P r u x L M → space M r u ≡ Some new → GainsNamespace P r new start M
completed P r u x start L M new same adds is = record {
  disjoint = adds.disjoint;
  region_in = adds.region_in;
  had_none = subst (λ v. space start r v ≡ None) (sym uuid) (sym before ∙ none);
  gains = (λ i. (gained i).table) ∙ ap (with_space r new) same;
}
  where
    uuid : new.uuid ≡ u
    uuid = space-uuid M r u new is

    gained : state P M ≡ with_namespace r new (state P L)
    gained = staged-gains P r u x L M adds new (space-whole M r u new is) uuid is

    -- read backwards, the namespace loses its last label
    frees : FreesOne P r u x M L
    frees = record {
      disjoint = adds.disjoint;
      bounded = adds.bounded;
      region_in = adds.region_in;
      member_in = adds.member_in;
      confined = IsConfined-sym u x.handle L M adds.confined;
      whole = space-whole M r u new is;
      stale = adds.stale;
      none = adds.none;
    }

    none : space L r u ≡ None
    none = space-new P r u None M L (changes-without_space P adds.disjoint r adds.region_in M L u
        (λ i. (freed-state P r u x M L frees i).table))

    before : space L r u ≡ space start r u
    before = space-of_table P adds.disjoint start L same r u adds.region_in
