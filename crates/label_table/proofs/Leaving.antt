-- Leaving out dead labels changes neither which others are dead nor which uuids are whole or doubled.
use Rattle.std.proofs.Common.{◌≡◌, ◌⊎◌, inl, inr, ℕ, ◌≤◌, ◌<◌, Bool, true, false, not, ◌&&◌, cond, List, Option, Some, None, refl, sym, ap, subst, ◌∙◌, arith}
use Rattle.std.specs.Prelude.{nat_lt}
use Rattle.std.specs.List.{Contains}
use Rattle.std.proofs.lemmas.Bool.{cases_lt, and_parts}
use Rattle.label_codec.specs.declared.label.Label.{Label}
use Rattle.label_codec.specs.ModuleLabels.{IsBounded, Labels, Module, count, has, is_ready, label_if, number, one}
use Rattle.label_codec.proofs.Counting.{count-same, count-cases, count-one, one-some, count-least, count-none}
use Rattle.region_map.specs.declared.platform.Member.{Member}
use Rattle.region_map.specs.declared.platform.Region.{Region}
use Rattle.region_map.specs.declared.platform.Platform.{Platform}
use Rattle.label_table.specs.Belonging.{belongs, region_of}
use Rattle.label_table.specs.Wholes.{all_ready, any_label, is_doubled, is_whole, label_count, labels_with}
use Rattle.label_table.specs.Spaces.{is_pending, space}
use Rattle.label_table.specs.Fates.{is_dead, is_held, is_of_namespace, is_stale, is_unfinished, is_whole_in, kept_count}
use Rattle.label_table.specs.Flips.{LeavesOutDead, LosesDead}
use Rattle.label_table.proofs.ListTests.{both, never, list_all-same, list_any-same, list_any-none, uuid_is, uuid_same, some_is}
use Rattle.label_table.proofs.WholeUuids.{IsDead, IsInside, IsOnce, dead_is, inside, pending-same, place, region_is, region_of-belongs, same_module, space-same, whole-each, whole-same}

-- a label of a uuid, in a module's own slot
pub label_if-some : (p : Label → Bool) (o : Option Label) (l : Label) → label_if p o ≡ Some l → (o ≡ Some l) × (p l ≡ true)
label_if-some p None l e = absurd cc
label_if-some p (Some x) l e = by (p x) refl e
  where
    by : (b : Bool) → p x ≡ b → cond b (Some x) None ≡ Some l → (Some x ≡ Some l) × (p l ≡ true)
    by true t is = let same : x ≡ l = cc in (is, sym (ap p same) ∙ t)
    by false f is = absurd cc

pub label_if-passes : (p : Label → Bool) (o : Option Label) (l : Label) → o ≡ Some l → p l ≡ true → label_if p o ≡ Some l
label_if-passes p o l is t = rw (is, t) refl

pub within : (L : Labels) → IsBounded L → (m k : ℕ) (l : Label) → (L m).at k ≡ Some l → k < (L m).slots
within L bounded m k l is = elim (cases_lt k (L m).slots) [
  | inl lt ↦ lt
  | inr le ↦ let none : (L m).at k ≡ None = bounded.past m k le in absurd cc
]

-- a module with a dead label of u has one label with it
pub dead-once : (P : Platform) (L : Labels) → IsBounded L → (m k : ℕ) (l : Label) → (L m).at k ≡ Some l → is_dead P L m l ≡ true → label_count (labels_with l.uuid L) m ≡ 1
dead-once P L bounded m k l is d =
    let facts : IsDead P L m l = dead_is P L m l d in
    let where_is : IsInside facts.region m l = inside facts.region m l (region_is P m l facts.region facts.found).1 in
    let few : nat_lt 1 (label_count (labels_with l.uuid L) (place facts.region l).handle) ≡ false = list_any-none _ facts.region.members (place facts.region l) facts.not_doubled where_is.member in
    let few_here : nat_lt 1 (label_count (labels_with l.uuid L) m) ≡ false = subst (λ h. nat_lt 1 (label_count (labels_with l.uuid L) h) ≡ false) where_is.handle few in
    let there : one any_label (label_if (has l.uuid) ((L m).at k)) ≡ 1 = one-some any_label _ l (label_if-passes (has l.uuid) _ l is (uuid_same l.uuid)) refl in
    let some_here : one any_label (label_if (has l.uuid) ((L m).at k)) ≤ label_count (labels_with l.uuid L) m = count-least any_label (λ j. label_if (has l.uuid) ((L m).at j)) k (L m).slots (within L bounded m k l is) in
    grind arith

-- the one label of u in a module was left out
pub record IsLost (P : Platform) (L M : Labels) (u : List ℕ) (m : ℕ) : Type 0 where
  pub slot : ℕ
  pub label : Label
  pub was : (L m).at slot ≡ Some label
  pub named_u : u ≡ label.uuid
  pub dead : is_dead P L m label ≡ true
  pub one_before : label_count (labels_with u L) m ≡ 1
  pub none_after : label_count (labels_with u M) m ≡ 0

module _ (P : Platform) (L M : Labels) (left : LeavesOutDead P L M) where
  none-stays : (m k : ℕ) (u : List ℕ) → label_if (has u) ((L m).at k) ≡ None → label_if (has u) ((M m).at k) ≡ None
  none-stays m k u none = elim (left.leaves.each m k) [
    | inl same ↦ ap (label_if (has u)) same ∙ none
    | inr out ↦ ap (label_if (has u)) out.gone
  ]

  none_of : (o : Option Label) → one any_label o ≡ 0 → o ≡ None
  none_of None e = refl
  none_of (Some l) e = absurd (omega arith)

  -- a label of u, where there is only one
  alone : (u : List ℕ) (m s t : ℕ) (a b : Label) → label_count (labels_with u L) m ≡ 1 → (L m).at s ≡ Some a → (L m).at t ≡ Some b → has u a ≡ true → has u b ≡ true → s ≡ t
  alone u m s t a b once_there sa tb ua ub =
      count-one any_label (labels_with u L m).at (L m).slots (omega arith) s t a b (within L left.bounded m s a sa) (within L left.bounded m t b tb) (label_if-passes (has u) _ a sa ua) (label_if-passes (has u) _ b tb ub) refl refl

  -- a dead label of u is the only one there
  once-by : (u : List ℕ) (m k : ℕ) (out : LosesDead P L M m k) → has u out.label ≡ true → label_count (labels_with u L) m ≡ 1
  once-by u m k out named_u =
      subst (λ v. label_count (labels_with v L) m ≡ 1) (sym (uuid_is u out.label.uuid named_u)) (dead-once P L left.bounded m k out.label out.was out.dead)

  -- either all labels of u in a module stand, or its one label was left out
  pub fate : (u : List ℕ) (m : ℕ) → (labels_with u M m ≡ labels_with u L m) ⊎ IsLost P L M u m
  fate u m = elim (count-cases any_label (labels_with u L m).at (L m).slots) [
    | inl zero_here ↦ inl (same_module (labels_with u M m) (labels_with u L m) (left.leaves.kind m) (left.leaves.slots m) (λ k. none-here zero_here k))
    | inr there ↦
        let at = label_if-some (has u) ((L m).at there.slot) there.label there.is in
        elim (left.leaves.each m there.slot) [
          | inl same ↦ inl (same_module (labels_with u M m) (labels_with u L m) (left.leaves.kind m) (left.leaves.slots m) (λ k. stays-here there.slot there.label at.0 at.1 same k))
          | inr out ↦ inr (
              let same_label : there.label ≡ out.label = some_is (sym at.0 ∙ out.was) in
              let named_out : has u out.label ≡ true = subst (λ (l : Label). has u l ≡ true) same_label at.1 in
              lost there.slot out named_out)
        ]
  ]
    where
      empty-at : count any_label (labels_with u L m).at (L m).slots ≡ 0 → (k : ℕ) → label_if (has u) ((L m).at k) ≡ None
      empty-at zero_here k = elim (cases_lt k (L m).slots) [
        | inl lt ↦ let least : one any_label (label_if (has u) ((L m).at k)) ≤ count any_label (labels_with u L m).at (L m).slots = count-least any_label (labels_with u L m).at k (L m).slots lt in
            none_of _ (omega arith)
        | inr le ↦ ap (label_if (has u)) (left.bounded.past m k le)
      ]

      none-here : count any_label (labels_with u L m).at (L m).slots ≡ 0 → (k : ℕ) → label_if (has u) ((M m).at k) ≡ label_if (has u) ((L m).at k)
      none-here zero_here k = none-stays m k u (empty-at zero_here k) ∙ sym (empty-at zero_here k)

      stays-here : (s : ℕ) (l : Label) → (L m).at s ≡ Some l → has u l ≡ true → (M m).at s ≡ (L m).at s → (k : ℕ) → label_if (has u) ((M m).at k) ≡ label_if (has u) ((L m).at k)
      stays-here s l is named_l same k = elim (left.leaves.each m k) [
        | inl stays ↦ ap (label_if (has u)) stays
        | inr out ↦ elim (both (has u out.label)) [
          | inr other ↦
              let before : label_if (has u) ((L m).at k) ≡ None = rw (out.was, other) refl in
              none-stays m k u before ∙ sym before
          | inl named_out ↦
              let e : k ≡ s = alone u m k s out.label l (once-by u m k out named_out) out.was is named_out named_l in
              let gone_s : (M m).at s ≡ None = subst (λ j. (M m).at j ≡ None) e out.gone in
              absurd cc
        ]
      ]

      lost : (s : ℕ) (out : LosesDead P L M m s) → has u out.label ≡ true → IsLost P L M u m
      lost s out named_out =
          let one_before : label_count (labels_with u L) m ≡ 1 = once-by u m s out named_out in
          record {
            slot = s;
            label = out.label;
            was = out.was;
            named_u = uuid_is u out.label.uuid named_out;
            dead = out.dead;
            one_before = one_before;
            none_after = count-none any_label (labels_with u M m).at (M m).slots (λ k lt. ap (one any_label) (gone-at k one_before));
          }
        where
          gone-at : (k : ℕ) → label_count (labels_with u L) m ≡ 1 → label_if (has u) ((M m).at k) ≡ None
          gone-at k one_before = elim (left.leaves.each m k) [
            | inr other ↦ ap (label_if (has u)) other.gone
            | inl same ↦ by ((L m).at k) refl same
          ]
            where
              by : (o : Option Label) → (L m).at k ≡ o → (M m).at k ≡ (L m).at k → label_if (has u) ((M m).at k) ≡ None
              by None e same = ap (label_if (has u)) (same ∙ e)
              by (Some l) e same = elim (both (has u l)) [
                | inr other ↦ ap (label_if (has u)) (same ∙ e) ∙ rw other refl
                | inl named_l ↦
                    let is_s : k ≡ s = alone u m k s l out.label one_before e out.was named_l named_out in
                    let gone_k : (M m).at k ≡ None = subst (λ j. (M m).at j ≡ None) (sym is_s) out.gone in
                    ap (label_if (has u)) gone_k
              ]

  -- a uuid of which a label was left out is not whole in the region to which that label belongs
  lost-region : (u : List ℕ) (m : ℕ) (lost : IsLost P L M u m) (r : Region) → Contains P.regions r → belongs r m lost.label ≡ true → is_whole L r u ≡ false
  lost-region u m lost r here mine =
      let facts : IsDead P L m lost.label = dead_is P L m lost.label lost.dead in
      let found : region_of P m lost.label ≡ Some r = region_of-belongs P left.disjoint r m lost.label here mine in
      let same : facts.region ≡ r = some_is (sym facts.found ∙ found) in
      subst (λ (q : Region). is_whole L q u ≡ false) same (subst (λ v. is_whole L facts.region v ≡ false) (sym lost.named_u) facts.not_whole)

  -- no label of a whole uuid is left out
  whole-stays : (r : Region) (u : List ℕ) → Contains P.regions r → is_whole L r u ≡ true → (x : Member) → Contains r.members x → labels_with u M x.handle ≡ labels_with u L x.handle
  whole-stays r u here w x in_r = elim (fate u x.handle) [
    | inl same ↦ same
    | inr lost ↦
        let it : IsOnce r (labels_with u L) x = whole-each r (labels_with u L) x w in_r in
        let at = label_if-some (has u) ((L x.handle).at it.there.slot) it.there.label it.there.is in
        let e : it.there.slot ≡ lost.slot = alone u x.handle it.there.slot lost.slot it.there.label lost.label lost.one_before at.0 lost.was at.1 (ap (λ v. has v lost.label) lost.named_u ∙ uuid_same lost.label.uuid) in
        let was : (L x.handle).at it.there.slot ≡ Some lost.label = subst (λ j. (L x.handle).at j ≡ Some lost.label) (sym e) lost.was in
        let label : it.there.label ≡ lost.label = some_is (sym at.0 ∙ was) in
        let mine : belongs r x.handle lost.label ≡ true = subst (λ (l : Label). belongs r x.handle l ≡ true) label (and_parts _ _ it.there.passes).0 in
        never (is_whole L r u) w (lost-region u x.handle lost r here mine)
  ]

  -- nor one of a uuid that is whole afterwards
  whole-stood : (r : Region) (u : List ℕ) → is_whole M r u ≡ true → (x : Member) → Contains r.members x → labels_with u M x.handle ≡ labels_with u L x.handle
  whole-stood r u w x in_r = elim (fate u x.handle) [
    | inl same ↦ same
    | inr lost ↦
        let it : IsOnce r (labels_with u M) x = whole-each r (labels_with u M) x w in_r in
        let one_there : label_count (labels_with u M) x.handle ≡ 1 = it.count_one in
        let none_there : label_count (labels_with u M) x.handle ≡ 0 = lost.none_after in
        absurd (omega arith)
  ]

  pub whole-kept : (r : Region) (u : List ℕ) → Contains P.regions r → is_whole M r u ≡ is_whole L r u
  whole-kept r u here = elim (both (is_whole L r u)) [
    | inl w ↦ whole-same r (labels_with u L) (labels_with u M) (whole-stays r u here w)
    | inr n ↦ elim (both (is_whole M r u)) [
      | inl w ↦ whole-same r (labels_with u L) (labels_with u M) (whole-stood r u w)
      | inr o ↦ o ∙ sym n
    ]
  ]

  pub space-kept : (r : Region) (u : List ℕ) → Contains P.regions r → space M r u ≡ space L r u
  space-kept r u here = elim (both (is_whole L r u)) [
    | inl w ↦ space-same r (labels_with u L) (labels_with u M) (whole-stays r u here w)
    | inr n ↦ let m : is_whole M r u ≡ false = whole-kept r u here ∙ n in rw (m, n) refl
  ]

  pub pending-kept : (r : Region) (u : List ℕ) → Contains P.regions r → is_pending M r u ≡ is_pending L r u
  pending-kept r u here = elim (both (is_whole L r u)) [
    | inl w ↦ pending-same r (labels_with u L) (labels_with u M) (whole-stays r u here w)
    | inr n ↦ let m : is_whole M r u ≡ false = whole-kept r u here ∙ n in rw (m, n) refl
  ]

  pub doubled-kept : (r : Region) (u : List ℕ) → is_doubled M r u ≡ is_doubled L r u
  doubled-kept r u = list_any-same _ _ r.members (λ x in_r. elim (fate u x.handle) [
    | inl same ↦ ap (λ (Q : Module). nat_lt 1 (number any_label Q)) same
    | inr lost ↦
        let a : label_count (labels_with u L) x.handle ≡ 1 = lost.one_before in
        let b : label_count (labels_with u M) x.handle ≡ 0 = lost.none_after in
        rw (a, b) refl
  ])

  pub ready-kept : (r : Region) → all_ready r M ≡ all_ready r L
  ready-kept r = list_all-same _ _ r.members (λ x in_r. ap is_ready (left.leaves.kind x.handle))

  -- which labels are dead, and which are of a namespace
  unfinished-kept : (u : List ℕ) (o : Option Region) → ((r : Region) → o ≡ Some r → Contains P.regions r) → is_unfinished M u o ≡ is_unfinished L u o
  unfinished-kept u None in_P = refl
  unfinished-kept u (Some r) in_P =
      let a : all_ready r M ≡ all_ready r L = ready-kept r in
      let b : is_whole M r u ≡ is_whole L r u = whole-kept r u (in_P r refl) in
      let c : is_doubled M r u ≡ is_doubled L r u = doubled-kept r u in
      λ i. a i && (not (b i) && not (c i))

  whole_in-kept : (u : List ℕ) (o : Option Region) → ((r : Region) → o ≡ Some r → Contains P.regions r) → is_whole_in M u o ≡ is_whole_in L u o
  whole_in-kept u None in_P = refl
  whole_in-kept u (Some r) in_P = whole-kept r u (in_P r refl)

  pub dead-kept : (m : ℕ) (l : Label) → is_dead P M m l ≡ is_dead P L m l
  dead-kept m l = ap (λ t. is_stale P m l && t) (unfinished-kept l.uuid (region_of P m l) (λ r e. (region_is P m l r e).0))

  pub of_namespace-kept : (m : ℕ) (l : Label) → is_of_namespace P M m l ≡ is_of_namespace P L m l
  of_namespace-kept m l = whole_in-kept l.uuid (region_of P m l) (λ r e. (region_is P m l r e).0)

  pub held-kept : (m : ℕ) (l : Label) → is_held P M m l ≡ is_held P L m l
  held-kept m l = λ i. not (dead-kept m l i) && not (of_namespace-kept m l i)

  -- a count that dead labels are no part of
  module _ (p q : Label → Bool) (m : ℕ) (same : (l : Label) → q l ≡ p l) (none : (l : Label) → is_dead P L m l ≡ true → p l ≡ false) where
    number-each : (k : ℕ) → one q ((M m).at k) ≡ one p ((L m).at k)
    number-each k = elim (left.leaves.each m k) [
      | inl stays ↦ ap (one q) stays ∙ tests ((L m).at k)
      | inr out ↦
          let gone_now : one q ((M m).at k) ≡ 0 = ap (one q) out.gone in
          let dead_then : p out.label ≡ false = none out.label out.dead in
          let zero_then : one p ((L m).at k) ≡ 0 = rw (out.was, dead_then) refl in
          gone_now ∙ sym zero_then
    ]
      where
        tests : (o : Option Label) → one q o ≡ one p o
        tests None = refl
        tests (Some l) = ap (λ t. cond {A = ℕ} t 1 0) (same l)

    pub number-kept : number q (M m) ≡ number p (L m)
    number-kept =
        let s : (M m).slots ≡ (L m).slots = left.leaves.slots m in
        ap (λ n. count q (M m).at n) s ∙ count-same q p (M m).at (L m).at (L m).slots (λ k lt. number-each k)

  pub kept_count-kept : (m : ℕ) → kept_count P M m ≡ kept_count P L m
  kept_count-kept m = number-kept (λ l. not (is_dead P L m l)) (λ l. not (is_dead P M m l)) m (λ l. ap not (dead-kept m l)) (λ l d. ap not d)
