-- Which modules have a label with a uuid that is not dead: the table tells it.
use Rattle.std.proofs.Common.{◌≡◌, inl, inr, ℕ, zero, suc, ◌+◌, ◌<◌, Bool, true, false, not, ◌&&◌, cond, List, Option, Some, None, refl, sym, ap, subst, ◌∙◌, arith}
use Rattle.std.specs.Prelude.{◌==◌, ◌||◌, is_some, nat_lt}
use Rattle.std.specs.List.{Contains, list_any}
use Rattle.std.proofs.lemmas.Bool.{and_from, and_parts}
use Rattle.label_codec.specs.declared.label.Label.{Label}
use Rattle.label_codec.specs.ModuleLabels.{Labels, has, label_if, number, one}
use Rattle.label_codec.proofs.Counting.{count-cases, count-least, one-some}
use Rattle.region_map.specs.declared.platform.Member.{Member}
use Rattle.region_map.specs.declared.platform.Platform.{Platform}
use Rattle.region_map.specs.declared.platform.Region.{Region}
use Rattle.label_table.specs.Belonging.{IsDisjoint, belongs, offset_in, region_of}
use Rattle.label_table.specs.Fates.{held_count, is_dead, is_held, is_of_namespace, is_whole_in}
use Rattle.label_table.specs.Spaces.{space}
use Rattle.label_table.specs.Tables.{is_member, table}
use Rattle.label_table.specs.Wholes.{is_whole, labels_with}
use Rattle.label_table.proofs.Equations.{space-of_table}
use Rattle.label_table.proofs.Listed.{space-whole}
use Rattle.label_table.proofs.ListTests.{both, eq_same, eq_true, list_any-at, list_any-found, list_any-same, lt_from, never, some_is, uuid_is}
use Rattle.label_table.proofs.Settled.{number-either}
use Rattle.label_table.proofs.WholeUuids.{IsDead, IsInside, IsLed, IsOnce, dead_is, inside, place, region_is, region_of-belongs, whole-each, whole-led}
use Rattle.table_steps.specs.Create.{keeps_uuid}

some-of : {A : Type 0} (o : Option A) → is_some o ≡ true → (x : A) × (o ≡ Some x)
some-of None e = absurd cc
some-of (Some x) e = (x, refl)

-- a label that passes, and the test of its uuid
with-uuid : (u : List ℕ) (o : Option Label) (l : Label) → label_if (has u) o ≡ Some l → (o ≡ Some l) × (has u l ≡ true)
with-uuid u None l e = absurd cc
with-uuid u (Some x) l e = by (has u x) refl e
  where
    by : (b : Bool) → has u x ≡ b → cond b (Some x) None ≡ Some l → (Some x ≡ Some l) × (has u l ≡ true)
    by true is e = (e, subst (λ z. has u z ≡ true) (some_is e) is)
    by false is e = absurd cc

-- a label that is not dead is held, or that of a namespace
one-fate : (d n h : Bool) → (d ≡ true → n ≡ false) → cond {A = ℕ} (h && not d) 1 0 ≡ cond {A = ℕ} ((not d && not n) && h) 1 0 + cond {A = ℕ} (n && h) 1 0
one-fate true true h apart = absurd (let e : true ≡ false = apart refl in cc)
one-fate true false true apart = refl
one-fate true false false apart = refl
one-fate false true true apart = refl
one-fate false true false apart = refl
one-fate false false true apart = refl
one-fate false false false apart = refl

sum-some : (a b : ℕ) → nat_lt 0 (a + b) ≡ (nat_lt 0 a || nat_lt 0 b)
sum-some zero b = ap (nat_lt 0) (omega arith)
sum-some (suc a) b =
    let left : nat_lt 0 (suc a) ≡ true = lt_from 0 (suc a) (omega arith) in
    lt_from 0 (suc a + b) (omega arith) ∙ sym (λ i. left i || nat_lt 0 b)

module _ (P : Platform) (disjoint : IsDisjoint P) (L : Labels) (u : List ℕ) (m : ℕ) where
  abbrev of_space : Label → Bool
  of_space l = is_of_namespace P L m l && has u l

  abbrev has_space : Region → Bool
  has_space r = is_member r m && is_some (space L r u)

  apart : (l : Label) → is_dead P L m l ≡ true → is_of_namespace P L m l ≡ false
  apart l d = let dead : IsDead P L m l = dead_is P L m l d in ap (is_whole_in L l.uuid) dead.found ∙ dead.not_whole

  -- a namespace of the module has a label there
  from-space : (r : Region) → Contains P.regions r → has_space r ≡ true → 0 < number of_space (L m)
  from-space r in_P t =
      let parts = and_parts (is_member r m) (is_some (space L r u)) t in
      let member = list_any-found (λ (x : Member). x.handle == m) r.members parts.0 in
      let x = member.0 in
      let here : x.handle ≡ m = eq_true x.handle m member.2 in
      let found = some-of (space L r u) parts.1 in
      let w : is_whole L r u ≡ true = space-whole L r u found.0 found.1 in
      let once : IsOnce r (labels_with u L) x = whole-each r (labels_with u L) x w member.1 in
      let l = once.there.label in
      let at = with-uuid u ((L x.handle).at once.there.slot) l once.there.is in
      let b : belongs r x.handle l ≡ true = (and_parts (belongs r x.handle l) (offset_in r l == offset_in r once.lead) once.there.passes).0 in
      let b_here : belongs r m l ≡ true = subst (λ k. belongs r k l ≡ true) here b in
      let region : region_of P m l ≡ Some r = region_of-belongs P disjoint r m l in_P b_here in
      let whole : is_of_namespace P L m l ≡ true =
      ap (is_whole_in L l.uuid) region ∙ ap (λ v. is_whole L r v) (sym (uuid_is u l.uuid at.1)) ∙ w in
      let there : (L m).at once.there.slot ≡ Some l = subst (λ k. (L k).at once.there.slot ≡ Some l) here at.0 in
      let within : once.there.slot < (L m).slots = subst (λ k. once.there.slot < (L k).slots) here once.there.within in
      let is_one : one of_space ((L m).at once.there.slot) ≡ 1 = one-some of_space ((L m).at once.there.slot) l there (and_from (is_of_namespace P L m l) (has u l) whole at.1) in
      let least = count-least of_space (L m).at once.there.slot (L m).slots within in
      omega (arith, is_one, least)

  -- a label of a namespace is one of its region's
  to-space : (l : Label) → of_space l ≡ true → list_any has_space P.regions ≡ true
  to-space l t = by (region_of P m l) refl parts.0
    where
      parts : (is_of_namespace P L m l ≡ true) × (has u l ≡ true)
      parts = and_parts (is_of_namespace P L m l) (has u l) t

      by : (o : Option Region) → region_of P m l ≡ o → is_whole_in L l.uuid o ≡ true → list_any has_space P.regions ≡ true
      by None e w = absurd cc
      by (Some r) e w =
          let in_P = region_is P m l r e in
          let at : IsInside r m l = inside r m l in_P.1 in
          let member : is_member r m ≡ true = list_any-at (λ (x : Member). x.handle == m) r.members (place r l) at.member (eq_same (place r l).handle m at.handle) in
          let mine : is_whole L r u ≡ true = subst (λ v. is_whole L r v ≡ true) (sym (uuid_is u l.uuid parts.1)) w in
          let led : IsLed r (labels_with u L) = whole-led r (labels_with u L) mine in
          let stands : is_some (space L r u) ≡ true = ap is_some led.space_is in
          list_any-at has_space P.regions r in_P.0 (and_from (is_member r m) (is_some (space L r u)) member stands)

  spaces-tell : nat_lt 0 (number of_space (L m)) ≡ list_any has_space P.regions
  spaces-tell = elim (both (list_any has_space P.regions)) [
    | inl t ↦
        let found = list_any-found has_space P.regions t in
        lt_from 0 (number of_space (L m)) (from-space found.0 found.1 found.2) ∙ sym t
    | inr n ↦ elim (count-cases of_space (L m).at (L m).slots) [
      | inl none ↦ ap (nat_lt 0) none ∙ sym n
      | inr there ↦ never (list_any has_space P.regions) (to-space there.label there.passes) n
    ]
  ]

  pub keeps-told : keeps_uuid P L u m ≡ (nat_lt 0 (held_count P L m (has u)) || list_any has_space P.regions)
  keeps-told =
      let split : number (λ l. has u l && not (is_dead P L m l)) (L m) ≡ held_count P L m (has u) + number of_space (L m) =
      number-either (λ l. has u l && not (is_dead P L m l)) (λ l. is_held P L m l && has u l) of_space (L m)
      (λ k l is. one-fate (is_dead P L m l) (is_of_namespace P L m l) (has u l) (apart l)) in
      ap (nat_lt 0) split ∙ sum-some (held_count P L m (has u)) (number of_space (L m)) ∙ ap (λ b. nat_lt 0 (held_count P L m (has u)) || b) spaces-tell

pub keeps-same : (P : Platform) → IsDisjoint P → (L M : Labels) → table P M ≡ table P L → (u : List ℕ) (m : ℕ) → keeps_uuid P M u m ≡ keeps_uuid P L u m
keeps-same P disjoint L M same u m =
    let spaces : list_any (λ r. is_member r m && is_some (space M r u)) P.regions ≡ list_any (λ r. is_member r m && is_some (space L r u)) P.regions =
    list_any-same (λ r. is_member r m && is_some (space M r u)) (λ r. is_member r m && is_some (space L r u)) P.regions
    (λ r in_P. ap (λ s. is_member r m && is_some s) (space-of_table P disjoint L M same r u in_P)) in
    keeps-told P disjoint M u m ∙ (λ i. nat_lt 0 ((same i).held m (has u)) || spaces i) ∙ sym (keeps-told P disjoint L u m)
