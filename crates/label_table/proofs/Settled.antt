-- An area is initialised, or held labels are released: stale held labels elsewhere may be dead now, and vanish.
use Rattle.std.proofs.Common.{◌≡◌, inl, inr, ℕ, zero, suc, ◌+◌, ◌≤◌, ◌<◌, Bool, true, false, not, ◌&&◌, cond, List, Option, Some, None, refl, sym, ap, subst, ◌∙◌, arith}
use Rattle.std.specs.Prelude.{nat_lt, is_some}
use Rattle.std.specs.List.{Contains}
use Rattle.std.proofs.lemmas.Bool.{and_from, and_parts, and_right, cases_lt}
use Rattle.label_codec.specs.declared.label.Label.{Label}
use Rattle.label_codec.specs.ModuleLabels.{IsBounded, Labels, Module, count, has, is_ready, number, one}
use Rattle.label_codec.proofs.Counting.{Slots, number-of_uuid}
use Rattle.region_map.specs.declared.platform.Region.{Region}
use Rattle.region_map.specs.declared.platform.Platform.{Platform}
use Rattle.label_table.specs.Belonging.{IsDisjoint, region_of}
use Rattle.label_table.specs.Fates.{held_count, is_dead, is_held, is_of_namespace, is_stale, is_unfinished, is_whole_in}
use Rattle.label_table.specs.Settling.{has_all_modules, is_given_up, is_held_twice, vanishes}
use Rattle.label_table.specs.Spaces.{space, space_if}
use Rattle.label_table.specs.Tables.{Table}
use Rattle.label_table.specs.Wholes.{all_ready, any_label, is_doubled, is_whole, label_count, labels_with, leading_label}
use Rattle.label_table.proofs.Confined.{number-same, whole-count}
use Rattle.label_table.proofs.Leaving.{dead-once}
use Rattle.label_table.proofs.ListTests.{both, list_all-same, never, not_true, uuid_is}
use Rattle.label_table.proofs.WholeUuids.{IsInside, IsLed, inside, place, region_is, whole-led}

-- a weaker test counts no less
count-weaker : (p q : Label → Bool) (f : Slots) (n : ℕ) → ((l : Label) → p l ≡ true → q l ≡ true) → count p f n ≤ count q f n
count-weaker p q f zero weaker = omega arith
count-weaker p q f (suc n) weaker = let below = count-weaker p q f n weaker in let here : one p (f n) ≤ one q (f n) = by (f n) in omega arith
  where
    by : (o : Option Label) → one p o ≤ one q o
    by None = omega arith
    by (Some l) = elim (both (p l)) [
      | inl t ↦ let s : q l ≡ true = weaker l t in rw (t, s) (omega arith)
      | inr f ↦ rw f (omega arith)
    ]

-- a test that is one of two others counts what both do
count-either : (p q s : Label → Bool) (f : Slots) (n : ℕ) → ((k : ℕ) (l : Label) → f k ≡ Some l → cond {A = ℕ} (p l) 1 0 ≡ cond (q l) 1 0 + cond (s l) 1 0) → count p f n ≡ count q f n + count s f n
count-either p q s f zero either = refl
count-either p q s f (suc n) either =
    let below : count p f n ≡ count q f n + count s f n = count-either p q s f n either in
    let here : one p (f n) ≡ one q (f n) + one s (f n) = by (f n) refl in
    omega arith
  where
    by : (o : Option Label) → f n ≡ o → one p o ≡ one q o + one s o
    by None e = refl
    by (Some l) e = either n l e

pub number-either : (p q s : Label → Bool) (m : Module) → ((k : ℕ) (l : Label) → m.at k ≡ Some l → cond {A = ℕ} (p l) 1 0 ≡ cond (q l) 1 0 + cond (s l) 1 0) → number p m ≡ number q m + number s m
number-either p q s m either = count-either p q s m.at m.slots either

module _ (P : Platform) (L : Labels) (bounded : IsBounded L) where
  -- Where a module has a uuid twice each of these labels is held,
  pub all-held : (u : List ℕ) (m : ℕ) → 1 < label_count (labels_with u L) m → (k : ℕ) (l : Label) → (L m).at k ≡ Some l → has u l ≡ true → is_held P L m l ≡ true
  all-held u m twice k l is h = and_from (not (is_dead P L m l)) (not (is_of_namespace P L m l)) (ap not alive) (ap not apart_of)
    where
      uuid : l.uuid ≡ u
      uuid = sym (uuid_is u l.uuid h)

      alive : is_dead P L m l ≡ false
      alive = elim (both (is_dead P L m l)) [
        | inl d ↦ let t : label_count (labels_with u L) m ≡ 1 = subst (λ v. label_count (labels_with v L) m ≡ 1) uuid (dead-once P L bounded m k l is d) in absurd (omega arith)
        | inr n ↦ n
      ]

      by : (o : Option Region) → region_of P m l ≡ o → is_whole_in L l.uuid o ≡ false
      by None e = refl
      by (Some r) e = elim (both (is_whole L r l.uuid)) [
        | inr n ↦ n
        | inl w ↦
            let at : IsInside r m l = inside r m l (region_is P m l r e).1 in
            let t : label_count (labels_with l.uuid L) (place r l).handle ≡ 1 = whole-count r l.uuid L (place r l) w at.member in
            let t_here : label_count (labels_with u L) m ≡ 1 = sym (λ i. label_count (labels_with (uuid i) L) (at.handle i)) ∙ t in
            absurd (omega arith)
      ]

      apart_of : is_of_namespace P L m l ≡ false
      apart_of = by (region_of P m l) refl

  -- so that the held labels tell whether it has.
  pub held-often : (u : List ℕ) (m : ℕ) → nat_lt 1 (held_count P L m (has u)) ≡ nat_lt 1 (label_count (labels_with u L) m)
  held-often u m = elim (cases_lt 1 (label_count (labels_with u L) m)) [
    | inl twice ↦
        let same : held_count P L m (has u) ≡ number (λ l. has u l && any_label l) (L m) =
        number-same (λ l. is_held P L m l && has u l) (λ l. has u l && any_label l) (L m) (λ k l is. elim (both (has u l)) [
          | inl h ↦ let a : is_held P L m l ≡ true = all-held u m twice k l is h in (λ i. a i && h i) ∙ sym (λ i. h i && true)
          | inr n ↦ (λ i. is_held P L m l && n i) ∙ and_right (is_held P L m l) false refl ∙ sym (λ i. n i && true)
        ]) in
        ap (nat_lt 1) (same ∙ sym (number-of_uuid u any_label (L m)))
    | inr few ↦
        let le : held_count P L m (has u) ≤ number (λ l. has u l && any_label l) (L m) = count-weaker (λ l. is_held P L m l && has u l) (λ l. has u l && any_label l) (L m).at (L m).slots
        (λ l t. and_from (has u l) true (and_parts (is_held P L m l) (has u l) t).1 refl) in
        let e : label_count (labels_with u L) m ≡ number (λ l. has u l && any_label l) (L m) = number-of_uuid u any_label (L m) in
        grind arith
  ]

-- the uuids that are whole are the same, dead labels stay dead, and the table T tells which labels are dead afterwards
pub record Settles (P : Platform) (L M : Labels) (T : Table) : Type 0 where
  pub whole : (r : Region) (u : List ℕ) → Contains P.regions r → is_whole M r u ≡ is_whole L r u
  pub dies : (y : ℕ) (l : Label) → is_dead P L y l ≡ true → is_dead P M y l ≡ true
  pub vanish : (y : ℕ) (l : Label) → vanishes P T y l ≡ is_dead P M y l

pub and_three : (a b c : Bool) → ((a && b) && c) ≡ (a && (b && c))
and_three true b c = refl
and_three false b c = refl

held_core : (before after whole : Bool) → (before ≡ true → after ≡ true) → (not after && not whole) ≡ ((not before && not whole) && not after)
held_core true true true imp = refl
held_core true true false imp = refl
held_core true false whole imp = absurd (let h : false ≡ true = imp refl in cc)
held_core false true true imp = refl
held_core false true false imp = refl
held_core false false true imp = refl
held_core false false false imp = refl

kept_core : (before after whole : Bool) → (before ≡ true → after ≡ true) → (after ≡ true → whole ≡ false) → cond {A = ℕ} (not before) 1 0 ≡ cond (not after) 1 0 + cond ((not before && not whole) && after) 1 0
kept_core true true whole imp w = refl
kept_core true false whole imp w = absurd (let h : false ≡ true = imp refl in cc)
kept_core false true true imp w = absurd (let h : true ≡ false = w refl in cc)
kept_core false true false imp w = refl
kept_core false false true imp w = refl
kept_core false false false imp w = refl

module _ (P : Platform) (L M : Labels) (T : Table) (s : Settles P L M T) where
  whole_in_same : (u : List ℕ) (o : Option Region) → ((r : Region) → o ≡ Some r → Contains P.regions r) → is_whole_in M u o ≡ is_whole_in L u o
  whole_in_same u None in_P = refl
  whole_in_same u (Some r) in_P = s.whole r u (in_P r refl)

  of_same : (y : ℕ) (l : Label) → is_of_namespace P M y l ≡ is_of_namespace P L y l
  of_same y l = whole_in_same l.uuid (region_of P y l) (λ r e. (region_is P y l r e).0)

  -- a label is held afterwards where it was held and does not vanish
  pub settled-held : (y : ℕ) (l : Label) → is_held P M y l ≡ (is_held P L y l && not (vanishes P T y l))
  settled-held y l =
      (λ i. not (is_dead P M y l) && not (of_same y l i))
      ∙ held_core (is_dead P L y l) (is_dead P M y l) (is_of_namespace P L y l) (s.dies y l)
      ∙ (λ i. is_held P L y l && not (sym (s.vanish y l) i))

  dead_alone : (y : ℕ) (l : Label) → is_dead P M y l ≡ true → is_of_namespace P L y l ≡ false
  dead_alone y l d = sym (of_same y l) ∙ by (region_of P y l) (and_parts (is_stale P y l) _ d).1
    where
      by : (o : Option Region) → is_unfinished M l.uuid o ≡ true → is_whole_in M l.uuid o ≡ false
      by None t = refl
      by (Some r) t = not_true _ (and_parts _ _ (and_parts (all_ready r M) _ t).1).0

  -- what is kept is what is kept afterwards, and what vanishes
  pub settled-kept : (y : ℕ) (l : Label) → cond {A = ℕ} (not (is_dead P L y l)) 1 0 ≡ cond (not (is_dead P M y l)) 1 0 + cond (is_held P L y l && vanishes P T y l) 1 0
  settled-kept y l =
      kept_core (is_dead P L y l) (is_dead P M y l) (is_of_namespace P L y l) (s.dies y l) (dead_alone y l)
      ∙ (λ i. cond {A = ℕ} (not (is_dead P M y l)) 1 0 + cond (is_held P L y l && sym (s.vanish y l) i) 1 0)

-- A table with the kinds and namespaces of M, whose held labels tell which uuids are doubled there, tells which labels are dead.
pub vanishes-dead : (P : Platform) → IsDisjoint P → (M : Labels) (T : Table) → ((m : ℕ) → T.kind m ≡ (M m).kind) → ((r : Region) (u : List ℕ) → Contains P.regions r → T.space r.index u ≡ space M r u)
    → ((r : Region) (u : List ℕ) → is_held_twice T u r ≡ is_doubled M r u) → (y : ℕ) (l : Label) → vanishes P T y l ≡ is_dead P M y l
vanishes-dead P disjoint M T kinds spaces twice y l = ap (λ t. is_stale P y l && t) (by (region_of P y l) (λ r e. (region_is P y l r e).0))
  where
    some_whole : (r : Region) → is_some (space M r l.uuid) ≡ is_whole M r l.uuid
    some_whole r = elim (both (is_whole M r l.uuid)) [
      | inr n ↦ ap is_some (λ i. space_if r (labels_with l.uuid M) (n i) (leading_label r (labels_with l.uuid M))) ∙ sym n
      | inl w ↦ let led : IsLed r (labels_with l.uuid M) = whole-led r (labels_with l.uuid M) w in ap is_some led.space_is ∙ sym w
    ]

    by : (o : Option Region) → ((r : Region) → o ≡ Some r → Contains P.regions r) → is_given_up T l.uuid o ≡ is_unfinished M l.uuid o
    by None in_P = refl
    by (Some r) in_P =
        let a : has_all_modules T r ≡ all_ready r M = list_all-same _ _ r.members (λ x in_x. ap is_ready (kinds x.handle)) in
        let b : is_some (T.space r.index l.uuid) ≡ is_whole M r l.uuid = ap is_some (spaces r l.uuid (in_P r refl)) ∙ some_whole r in
        let c : is_held_twice T l.uuid r ≡ is_doubled M r l.uuid = twice r l.uuid in
        λ i. a i && (not (b i) && not (c i))

-- dead labels stay dead where regions lose no module, the same uuids are whole, and no more are doubled
pub stays_dead : (P : Platform) (L M : Labels) → ((r : Region) → all_ready r L ≡ true → all_ready r M ≡ true) → ((r : Region) (u : List ℕ) → Contains P.regions r → is_whole M r u ≡ is_whole L r u)
    → ((r : Region) (u : List ℕ) → is_doubled M r u ≡ true → is_doubled L r u ≡ true) → (y : ℕ) (l : Label) → is_dead P L y l ≡ true → is_dead P M y l ≡ true
stays_dead P L M ready whole doubled y l d =
    let parts = and_parts (is_stale P y l) _ d in
    and_from (is_stale P y l) _ parts.0 (by (region_of P y l) (λ r e. (region_is P y l r e).0) parts.1)
  where
    by : (o : Option Region) → ((r : Region) → o ≡ Some r → Contains P.regions r) → is_unfinished L l.uuid o ≡ true → is_unfinished M l.uuid o ≡ true
    by None in_P t = absurd cc
    by (Some r) in_P t =
        let a = and_parts (all_ready r L) _ t in
        let b = and_parts _ _ a.1 in
        let not_doubled : is_doubled M r l.uuid ≡ false = elim (both (is_doubled M r l.uuid)) [
          | inr n ↦ n
          | inl e ↦ never (is_doubled L r l.uuid) (doubled r l.uuid e) (not_true _ b.1)
        ] in
        and_from _ _ (ready r a.0) (and_from _ _ (ap not (whole r l.uuid (in_P r refl)) ∙ b.0) (ap not not_doubled))
