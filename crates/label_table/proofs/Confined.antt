-- The labels of one uuid change in one module, all of them of one region: what stays.
use Rattle.std.proofs.Common.{◌≡◌, ◌≢◌, ◌⊎◌, inl, inr, ℕ, zero, suc, ◌+◌, ◌≤◌, Bool, true, false, not, ◌&&◌, cond, List, Option, Some, None, refl, sym, ap, subst, ◌∙◌, arith}
use Rattle.std.specs.Prelude.{nat_lt, ◌==◌}
use Rattle.std.specs.List.{Contains}
use Rattle.std.specs.Str.{bytes_eq}
use Rattle.std.proofs.lemmas.Bool.{cases_eq, and_parts}
use Rattle.label_codec.specs.declared.label.Label.{Label}
use Rattle.label_codec.specs.ModuleLabels.{IsBounded, Labels, Module, count, has, is_ready, label_if, number, of_uuid, one}
use Rattle.label_codec.proofs.Counting.{Slots, count-none, count-one, count-same}
use Rattle.region_map.specs.declared.platform.Member.{Member}
use Rattle.region_map.specs.declared.platform.Region.{Region}
use Rattle.region_map.specs.declared.platform.Platform.{Platform}
use Rattle.label_table.specs.Belonging.{IsDisjoint, belongs, region_of}
use Rattle.label_table.specs.Wholes.{all_ready, any_label, is_doubled, is_whole, label_count, labels_with}
use Rattle.label_table.specs.Spaces.{is_pending, space}
use Rattle.label_table.specs.Fates.{is_dead, is_held, is_of_namespace, is_stale, is_unfinished, is_whole_in}
use Rattle.label_table.specs.Flips.{IsConfined, other_labels}
use Rattle.label_table.specs.Tables.{is_member}
use Rattle.label_table.proofs.ListTests.{both, eq_true, list_all-same, list_any-found, list_any-none, list_any-same, never, not_true, some_is, uuid_is, uuid_other}
use Rattle.label_table.proofs.WholeUuids.{IsInside, IsOnce, inside, pending-same, place, region_is, region_of-belongs, same_module, space-same, whole-each, whole-same}
use Rattle.label_table.proofs.Leaving.{label_if-passes, label_if-some, within}

-- a count is that of the labels of a uuid and that of the others
count-split : (u : List ℕ) (p : Label → Bool) (f : Slots) (n : ℕ) → count p f n ≡ count p (λ k. label_if (has u) (f k)) n + count p (λ k. label_if (λ l. not (has u l)) (f k)) n
count-split u p f zero = refl
count-split u p f (suc n) =
    let here : one p (f n) ≡ one p (label_if (has u) (f n)) + one p (label_if (λ l. not (has u l)) (f n)) = split (f n) in
    let below = count-split u p f n in
    omega arith
  where
    split : (o : Option Label) → one p o ≡ one p (label_if (has u) o) + one p (label_if (λ l. not (has u l)) o)
    split None = refl
    split (Some l) = by (has u l) (p l) refl
      where
        by : (b c : Bool) → p l ≡ c → one p (Some l) ≡ one p (cond b (Some l) None) + one p (cond (not b) (Some l) None)
        by true true e = rw e refl
        by true false e = rw e refl
        by false true e = rw e refl
        by false false e = rw e refl

pub number-split : (u : List ℕ) (p : Label → Bool) (m : Module) → number p m ≡ number p (of_uuid u m) + number p (other_labels u m)
number-split u p m = count-split u p m.at m.slots

-- tests that agree on the labels of a module count the same
pub number-same : (p q : Label → Bool) (m : Module) → ((k : ℕ) (l : Label) → m.at k ≡ Some l → p l ≡ q l) → number p m ≡ number q m
number-same p q m same = count-same p q m.at m.at m.slots (λ k lt. by k (m.at k) refl)
  where
    by : (k : ℕ) (o : Option Label) → m.at k ≡ o → one p o ≡ one q o
    by k None e = refl
    by k (Some l) e = ap (λ t. cond {A = ℕ} t 1 0) (same k l e)

pub number-none : (p : Label → Bool) (m : Module) → ((k : ℕ) (l : Label) → m.at k ≡ Some l → p l ≡ false) → number p m ≡ 0
number-none p m none = count-none p m.at m.slots (λ k lt. by k (m.at k) refl)
  where
    by : (k : ℕ) (o : Option Label) → m.at k ≡ o → one p o ≡ 0
    by k None e = refl
    by k (Some l) e = let f : p l ≡ false = none k l e in rw f refl

-- a label of another uuid
label_if-other : (u v : List ℕ) → v ≢ u → (o : Option Label) → label_if (has v) (label_if (λ l. not (has u l)) o) ≡ label_if (has v) o
label_if-other u v differ None = refl
label_if-other u v differ (Some l) = by (has u l) (has v l) refl refl
  where
    by : (b c : Bool) → has u l ≡ b → has v l ≡ c → label_if (has v) (cond (not b) (Some l) None) ≡ cond c (Some l) None
    by true true hu hv = absurd (differ (uuid_is v l.uuid hv ∙ sym (uuid_is u l.uuid hu)))
    by true false hu hv = refl
    by false true hu hv = rw hv refl
    by false false hu hv = rw hv refl

-- every label of a whole uuid in a module of its region belongs to it
pub whole-mine : (r : Region) (u : List ℕ) (L : Labels) (x : Member) → is_whole L r u ≡ true → Contains r.members x → IsBounded L → (k : ℕ) (l : Label) → (L x.handle).at k ≡ Some l → has u l ≡ true → belongs r x.handle l ≡ true
whole-mine r u L x w in_r bounded k l is named_l =
    let it : IsOnce r (labels_with u L) x = whole-each r (labels_with u L) x w in_r in
    let few : label_count (labels_with u L) x.handle ≡ 1 = it.count_one in
    let e : it.there.slot ≡ k = count-one any_label (labels_with u L x.handle).at (L x.handle).slots (omega arith) it.there.slot k it.there.label l it.there.within (within L bounded x.handle k l is) it.there.is (label_if-passes (has u) _ l is named_l) refl refl in
    let there_k : label_if (has u) ((L x.handle).at k) ≡ Some it.there.label = subst (λ j. label_if (has u) ((L x.handle).at j) ≡ Some it.there.label) e it.there.is in
    let at = label_if-some (has u) _ it.there.label there_k in
    let label : it.there.label ≡ l = some_is (sym at.0 ∙ is) in
    subst (λ (a : Label). belongs r x.handle a ≡ true) label (and_parts _ _ it.there.passes).0

pub whole-count : (r : Region) (u : List ℕ) (L : Labels) (x : Member) → is_whole L r u ≡ true → Contains r.members x → label_count (labels_with u L) x.handle ≡ 1
whole-count r u L x w in_r = (whole-each r (labels_with u L) x w in_r).count_one

-- a module is one of the region's, or none of its members has the handle
pub member-cases : (r : Region) (y : ℕ) → ((x : Member) × Contains r.members x × (x.handle ≡ y)) ⊎ ((is_member r y ≡ false) × ((x : Member) → Contains r.members x → x.handle ≢ y))
member-cases r y = elim (both (is_member r y)) [
  | inl t ↦ let found = list_any-found _ r.members t in inl (found.0, found.1, eq_true _ _ found.2)
  | inr n ↦ inr (n, λ x in_x e. let f : (x.handle == y) ≡ false = list_any-none _ r.members x n in_x in grind arith)
]

-- the labels of u change in a module of r: before and after there is at most one, and it belongs to r
pub record ChangesOne (P : Platform) (r : Region) (u : List ℕ) (m : ℕ) (L M : Labels) : Type 0 where
  pub disjoint : IsDisjoint P
  pub region_in : Contains P.regions r
  pub member : Member
  pub member_in : Contains r.members member
  pub handle_is : member.handle ≡ m
  pub confined : IsConfined u m L M
  pub mine : (k : ℕ) (l : Label) → (L m).at k ≡ Some l → has u l ≡ true → belongs r m l ≡ true
  pub mine_after : (k : ℕ) (l : Label) → (M m).at k ≡ Some l → has u l ≡ true → belongs r m l ≡ true
  pub few : label_count (labels_with u L) m ≤ 1
  pub few_after : label_count (labels_with u M) m ≤ 1

-- labels that differ in one module by those of one uuid
module _ (u : List ℕ) (m : ℕ) (L M : Labels) (confined : IsConfined u m L M) where
  pub kind-same : (q : ℕ) → (M q).kind ≡ (L q).kind
  kind-same q = elim (cases_eq q m) [
    | inl e ↦ subst (λ j. (M j).kind ≡ (L j).kind) (sym e) (ap (λ (N : Module). N.kind) confined.rest)
    | inr differ ↦ ap (λ (N : Module). N.kind) (confined.others q differ)
  ]

  pub slots-same : (q : ℕ) → (M q).slots ≡ (L q).slots
  slots-same q = elim (cases_eq q m) [
    | inl e ↦ subst (λ j. (M j).slots ≡ (L j).slots) (sym e) (ap (λ (N : Module). N.slots) confined.rest)
    | inr differ ↦ ap (λ (N : Module). N.slots) (confined.others q differ)
  ]

  -- labels of other uuids
  pub other-same : (v : List ℕ) (q : ℕ) → v ≢ u → labels_with v M q ≡ labels_with v L q
  other-same v q other = elim (cases_eq q m) [
    | inl e ↦ subst (λ j. labels_with v M j ≡ labels_with v L j) (sym e) (same_module (labels_with v M m) (labels_with v L m) (kind-same m) (slots-same m) (λ k.
        sym (label_if-other u v other ((M m).at k)) ∙ ap (λ (N : Module). label_if (has v) (N.at k)) confined.rest ∙ label_if-other u v other ((L m).at k)))
    | inr differ ↦ ap (of_uuid v) (confined.others q differ)
  ]

  pub rest-same : (q : ℕ) → other_labels u (M q) ≡ other_labels u (L q)
  rest-same q = elim (cases_eq q m) [
    | inl e ↦ subst (λ j. other_labels u (M j) ≡ other_labels u (L j)) (sym e) confined.rest
    | inr differ ↦ ap (other_labels u) (confined.others q differ)
  ]

  pub ready-any : (q : Region) → all_ready q M ≡ all_ready q L
  ready-any q = list_all-same _ _ q.members (λ x in_x. ap is_ready (kind-same x.handle))

  pub space-other : (q : Region) (v : List ℕ) → v ≢ u → space M q v ≡ space L q v
  space-other q v other = space-same q (labels_with v L) (labels_with v M) (λ x in_x. other-same v x.handle other)

  pub pending-other : (q : Region) (v : List ℕ) → v ≢ u → is_pending M q v ≡ is_pending L q v
  pending-other q v other = pending-same q (labels_with v L) (labels_with v M) (λ x in_x. other-same v x.handle other)

pub IsConfined-sym : (u : List ℕ) (m : ℕ) (L M : Labels) → IsConfined u m L M → IsConfined u m M L
IsConfined-sym u m L M c = record { others = λ q differ. sym (c.others q differ); rest = sym c.rest }

module _ (P : Platform) (r : Region) (u : List ℕ) (m : ℕ) (L M : Labels) (c : ChangesOne P r u m L M) where
  -- a region in which u is whole and that isn't r does not have the module
  not-there : (q : Region) (N : Labels) → Contains P.regions q → q ≢ r → is_whole N q u ≡ true → ((k : ℕ) (l : Label) → (N m).at k ≡ Some l → has u l ≡ true → belongs r m l ≡ true)
      → (x : Member) → Contains q.members x → x.handle ≢ m
  not-there q N in_q other w mine_N x in_x e =
      let it : IsOnce q (labels_with u N) x = whole-each q (labels_with u N) x w in_x in
      let at = label_if-some (has u) _ it.there.label it.there.is in
      let there_m : (N m).at it.there.slot ≡ Some it.there.label = subst (λ j. (N j).at it.there.slot ≡ Some it.there.label) e at.0 in
      let mine_r : belongs r m it.there.label ≡ true = mine_N it.there.slot it.there.label there_m at.1 in
      let mine_q : belongs q m it.there.label ≡ true = subst (λ j. belongs q j it.there.label ≡ true) e (and_parts _ _ it.there.passes).0 in
      let to_r : region_of P m it.there.label ≡ Some r = region_of-belongs P c.disjoint r m it.there.label c.region_in mine_r in
      let to_q : region_of P m it.there.label ≡ Some q = region_of-belongs P c.disjoint q m it.there.label in_q mine_q in
      other (some_is (sym to_q ∙ to_r))

  away-same : (q : Region) → ((x : Member) → Contains q.members x → x.handle ≢ m) → (x : Member) → Contains q.members x → labels_with u M x.handle ≡ labels_with u L x.handle
  away-same q away x in_x = ap (of_uuid u) (c.confined.others x.handle (away x in_x))

  whole-region : (q : Region) → Contains P.regions q → q ≢ r → is_whole M q u ≡ is_whole L q u
  whole-region q in_q other = elim (both (is_whole L q u)) [
    | inl w ↦ whole-same q (labels_with u L) (labels_with u M) (away-same q (not-there q L in_q other w c.mine))
    | inr n ↦ elim (both (is_whole M q u)) [
      | inl w ↦ whole-same q (labels_with u L) (labels_with u M) (away-same q (not-there q M in_q other w c.mine_after))
      | inr o ↦ o ∙ sym n
    ]
  ]

  space-region : (q : Region) → Contains P.regions q → q ≢ r → space M q u ≡ space L q u
  space-region q in_q other = elim (both (is_whole L q u)) [
    | inl w ↦ space-same q (labels_with u L) (labels_with u M) (away-same q (not-there q L in_q other w c.mine))
    | inr n ↦ let o : is_whole M q u ≡ false = whole-region q in_q other ∙ n in rw (o, n) refl
  ]

  pending-region : (q : Region) → Contains P.regions q → q ≢ r → is_pending M q u ≡ is_pending L q u
  pending-region q in_q other = elim (both (is_whole L q u)) [
    | inl w ↦ pending-same q (labels_with u L) (labels_with u M) (away-same q (not-there q L in_q other w c.mine))
    | inr n ↦ let o : is_whole M q u ≡ false = whole-region q in_q other ∙ n in rw (o, n) refl
  ]

  doubled-region : (q : Region) → is_doubled M q u ≡ is_doubled L q u
  doubled-region q = list_any-same _ _ q.members (λ x in_x. elim (cases_eq x.handle m) [
    | inl e ↦ subst (λ j. nat_lt 1 (label_count (labels_with u M) j) ≡ nat_lt 1 (label_count (labels_with u L) j)) (sym e) (grind (arith, c.few, c.few_after))
    | inr differ ↦ ap (λ (N : Module). nat_lt 1 (number any_label (of_uuid u N))) (c.confined.others x.handle differ)
  ])

  -- all but u in r is the same
  pub whole-else : (q : Region) (v : List ℕ) → Contains P.regions q → (q ≢ r) ⊎ (v ≢ u) → is_whole M q v ≡ is_whole L q v
  whole-else q v in_q (inr other) = whole-same q (labels_with v L) (labels_with v M) (λ x in_x. other-same u m L M c.confined v x.handle other)
  whole-else q v in_q (inl other) = elim (both (bytes_eq u v)) [
    | inl e ↦ subst (λ w. is_whole M q w ≡ is_whole L q w) (uuid_is u v e) (whole-region q in_q other)
    | inr n ↦ whole-same q (labels_with v L) (labels_with v M) (λ x in_x. other-same u m L M c.confined v x.handle (uuid_other u v n))
  ]

  pub doubled-else : (q : Region) (v : List ℕ) → is_doubled M q v ≡ is_doubled L q v
  doubled-else q v = elim (both (bytes_eq u v)) [
    | inl e ↦ subst (λ w. is_doubled M q w ≡ is_doubled L q w) (uuid_is u v e) (doubled-region q)
    | inr n ↦ list_any-same _ _ q.members (λ x in_x. ap (λ (N : Module). nat_lt 1 (number any_label N)) (other-same u m L M c.confined v x.handle (uuid_other u v n)))
  ]

  pub space-else : (q : Region) (v : List ℕ) → Contains P.regions q → q ≢ r → space M q v ≡ space L q v
  space-else q v in_q other = elim (both (bytes_eq u v)) [
    | inl e ↦ subst (λ w. space M q w ≡ space L q w) (uuid_is u v e) (space-region q in_q other)
    | inr n ↦ space-other u m L M c.confined q v (uuid_other u v n)
  ]

  pub pending-else : (q : Region) (v : List ℕ) → Contains P.regions q → q ≢ r → is_pending M q v ≡ is_pending L q v
  pending-else q v in_q other = elim (both (bytes_eq u v)) [
    | inl e ↦ subst (λ w. is_pending M q w ≡ is_pending L q w) (uuid_is u v e) (pending-region q in_q other)
    | inr n ↦ pending-other u m L M c.confined q v (uuid_other u v n)
  ]

  unfinished-else : (v : List ℕ) (o : Option Region) → ((q : Region) → o ≡ Some q → Contains P.regions q × ((q ≢ r) ⊎ (v ≢ u))) → is_unfinished M v o ≡ is_unfinished L v o
  unfinished-else v None else_where = refl
  unfinished-else v (Some q) else_where =
      let at = else_where q refl in
      let a : all_ready q M ≡ all_ready q L = ready-any u m L M c.confined q in
      let b : is_whole M q v ≡ is_whole L q v = whole-else q v at.0 at.1 in
      let d : is_doubled M q v ≡ is_doubled L q v = doubled-else q v in
      λ i. a i && (not (b i) && not (d i))

  whole_in-else : (v : List ℕ) (o : Option Region) → ((q : Region) → o ≡ Some q → Contains P.regions q × ((q ≢ r) ⊎ (v ≢ u))) → is_whole_in M v o ≡ is_whole_in L v o
  whole_in-else v None else_where = refl
  whole_in-else v (Some q) else_where = let at = else_where q refl in whole-else q v at.0 at.1

  else-where : (y : ℕ) (l : Label) → (belongs r y l ≡ false) ⊎ (l.uuid ≢ u) → (q : Region) → region_of P y l ≡ Some q → Contains P.regions q × ((q ≢ r) ⊎ (l.uuid ≢ u))
  else-where y l (inr other) q found = ((region_is P y l q found).0, inr other)
  else-where y l (inl not_r) q found =
      let at = region_is P y l q found in
      (at.0, inl (λ e. never (belongs r y l) (subst (λ (k : Region). belongs k y l ≡ true) e at.1) not_r))

  -- which other labels are dead or held
  pub dead-else : (y : ℕ) (l : Label) → (belongs r y l ≡ false) ⊎ (l.uuid ≢ u) → is_dead P M y l ≡ is_dead P L y l
  dead-else y l other = ap (λ t. is_stale P y l && t) (unfinished-else l.uuid (region_of P y l) (else-where y l other))

  pub held-else : (y : ℕ) (l : Label) → (belongs r y l ≡ false) ⊎ (l.uuid ≢ u) → is_held P M y l ≡ is_held P L y l
  held-else y l other =
      let a : is_dead P M y l ≡ is_dead P L y l = dead-else y l other in
      let b : is_of_namespace P M y l ≡ is_of_namespace P L y l = whole_in-else l.uuid (region_of P y l) (else-where y l other) in
      λ i. not (a i) && not (b i)

  -- what is counted of labels with other uuids
  module _ (p q : Label → Bool) (y : ℕ) (same : (l : Label) → (belongs r y l ≡ false) ⊎ (l.uuid ≢ u) → q l ≡ p l) where
    pub number-rest : number q (other_labels u (M y)) ≡ number p (other_labels u (L y))
    number-rest =
        ap (number q) (rest-same u m L M c.confined y) ∙ number-same q p (other_labels u (L y)) (λ k l is. same l (inr (uuid_other u l.uuid (not_true _ (label_if-some (λ a. not (has u a)) ((L y).at k) l is).1))))

    -- and of all labels, in a module that isn't of the region
    pub number-away : y ≢ m → ((x : Member) → Contains r.members x → x.handle ≢ y) → number q (M y) ≡ number p (L y)
    number-away differ away =
        ap (number q) (c.confined.others y differ) ∙ number-same q p (L y) (λ k l is. same l (inl (none l)))
      where
        none : (l : Label) → belongs r y l ≡ false
        none l = elim (both (belongs r y l)) [
          | inl b ↦ let at : IsInside r y l = inside r y l b in absurd (away (place r l) at.member at.handle)
          | inr n ↦ n
        ]

  -- a count of which the labels of u have the same share, in each module of the region
  pub number-shared : (p q : ℕ → Label → Bool) → ((x : Member) → Contains r.members x → number (q x.handle) (of_uuid u (M x.handle)) ≡ number (p x.handle) (of_uuid u (L x.handle)))
      → ((y : ℕ) (l : Label) → (belongs r y l ≡ false) ⊎ (l.uuid ≢ u) → q y l ≡ p y l) → (y : ℕ) → number (q y) (M y) ≡ number (p y) (L y)
  number-shared p q share same y = elim (member-cases r y) [
    | inl found ↦ subst (λ j. number (q j) (M j) ≡ number (p j) (L j)) found.2 (member found.0 found.1)
    | inr away ↦ number-away (p y) (q y) y (same y) (λ e. away.1 c.member c.member_in (c.handle_is ∙ sym e)) away.1
  ]
    where
      member : (x : Member) → Contains r.members x → number (q x.handle) (M x.handle) ≡ number (p x.handle) (L x.handle)
      member x in_x =
          let rest = number-rest (p x.handle) (q x.handle) x.handle (same x.handle) in
          number-split u (q x.handle) (M x.handle) ∙ (λ i. share x in_x i + rest i) ∙ sym (number-split u (p x.handle) (L x.handle))
