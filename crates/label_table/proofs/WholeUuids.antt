-- Lemmas on belonging, on whole uuids and on dead labels.
use Rattle.std.proofs.Common.{◌≡◌, ◌⊎◌, inl, inr, ⊎_elim, ℕ, ◌+◌, ◌≤◌, ◌<◌, Bool, true, false, not, ◌&&◌, cond, List, [], ◌∷◌, length, Option, Some, None, refl, sym, ap, subst, ◌∙◌, find, arith}
use Rattle.std.specs.Prelude.{◌||◌, ◌==◌, nat_lt, nat_le, is_some}
use Rattle.std.specs.List.{Contains, list_all}
use Rattle.std.proofs.lemmas.Bool.{and_parts}
use Rattle.label_codec.specs.declared.label.Label.{Label}
use Rattle.label_codec.specs.Flags.{is_read_only, is_updating}
use Rattle.label_codec.specs.ModuleLabels.{Labels, Module, first, is_ready, number}
use Rattle.label_codec.proofs.Counting.{IsAt, count-cases}
use Rattle.region_map.specs.declared.platform.Member.{Member}
use Rattle.region_map.specs.declared.platform.Region.{Region}
use Rattle.region_map.specs.declared.platform.Platform.{Platform}
use Rattle.label_table.specs.Belonging.{IsDisjoint, belongs, is_shared_range, member_at, names_set, no_member, region_of}
use Rattle.label_table.specs.Wholes.{agrees, all_ready, any_label, any_read_only, any_updating, has_one, has_size, is_doubled, is_whole, is_whole_after, is_whole_by, label_count, leading_among, leading_label}
use Rattle.label_table.specs.Spaces.{space_by, space_if, space_of}
use Rattle.label_table.specs.Fates.{is_dead, is_stale, is_unfinished}
use Rattle.label_table.proofs.ListTests.{not_true, never, list_all-at, list_all-same, list_any-same, find-some, Contains-here, Contains-there, Contains-cases, Contains-get_or, Contains-none, lt_true, le_true, eq_true}

-- one module, slot by slot
pub same_module : (a b : Module) → a.kind ≡ b.kind → a.slots ≡ b.slots → ((k : ℕ) → a.at k ≡ b.at k) → a ≡ b
same_module a b kind slots at = λ i. record { kind = kind i; slots = slots i; at = λ k. at k i }

-- the member at a label's position
abbrev pub place : Region → Label → Member
place r l = member_at r l.position

-- what belonging says
pub record IsInside (r : Region) (m : ℕ) (l : Label) : Type 0 where
  pub position : l.position < length r.members
  pub member : Contains r.members (place r l)
  pub handle : (place r l).handle ≡ m
  pub some_bytes : 0 < l.raw_size
  pub low : (place r l).dpa_base ≤ l.dpa
  pub high : l.dpa + l.raw_size ≤ (place r l).dpa_base + (place r l).size

pub inside : (r : Region) (m : ℕ) (l : Label) → belongs r m l ≡ true → IsInside r m l
inside r m l e =
    let a = and_parts (nat_lt l.position (length r.members)) _ e in
    let b = and_parts (names_set r m l) _ a.1 in
    let set = and_parts ((place r l).handle == m) _ b.0 in
    let c = and_parts (is_shared_range l) _ b.1 in
    let shared = and_parts _ _ (and_parts _ _ c.0).1 in
    let range = and_parts (nat_le (place r l).dpa_base l.dpa) _ c.1 in
    let lt : l.position < length r.members = lt_true _ _ a.0 in
    record {
      position = lt;
      member = Contains-get_or r.members l.position no_member lt;
      handle = eq_true _ _ set.0;
      some_bytes = lt_true _ _ shared.1;
      low = le_true _ _ range.0;
      high = le_true _ _ range.1;
    }

-- the region of a label
pub region_is : (P : Platform) (m : ℕ) (l : Label) (r : Region) → region_of P m l ≡ Some r → Contains P.regions r × (belongs r m l ≡ true)
region_is P m l r e = find-some (λ q. belongs q m l) P.regions r e

-- At most one region has a label.
module _ (P : Platform) (disjoint : IsDisjoint P) where
  same_region : (r q : Region) (m : ℕ) (l : Label) → Contains P.regions r → Contains P.regions q → belongs r m l ≡ true → belongs q m l ≡ true → q ≡ r
  same_region r q m l in_r in_q br bq =
      let a : IsInside r m l = inside r m l br in
      let b : IsInside q m l = inside q m l bq in
      ⊎_elim (λ same. same) (λ away. absurd (⊎_elim (λ x. omega (arith, x, a.high, b.low, a.some_bytes)) (λ y. omega (arith, y, b.high, a.low, a.some_bytes)) away))
      (disjoint.bytes r q (place r l) (place q l) in_r in_q a.member b.member (a.handle ∙ sym b.handle))

  among : (rs : List Region) → ((q : Region) → Contains rs q → Contains P.regions q) → (r : Region) (m : ℕ) (l : Label) → Contains rs r → belongs r m l ≡ true → find (λ q. belongs q m l) rs ≡ Some r
  among [] sub r m l here b = Contains-none r here
  among (x ∷ xs) sub r m l here b = by (belongs x m l) refl (Contains-cases x xs r here) (λ there. among xs (λ q is. sub q (Contains-there x xs q is)) r m l there b)
    where
      by : (t : Bool) → belongs x m l ≡ t → (r ≡ x) ⊎ Contains xs r → (Contains xs r → find (λ q. belongs q m l) xs ≡ Some r) → cond t (Some x) (find (λ q. belongs q m l) xs) ≡ Some r
      by true e at rest = ap Some (same_region r x m l (sub r here) (sub x (Contains-here x xs)) b e)
      by false e (inl is) rest = never (belongs x m l) (subst (λ (q : Region). belongs q m l ≡ true) is b) e
      by false e (inr there) rest = rest there

  pub region_of-belongs : (r : Region) (m : ℕ) (l : Label) → Contains P.regions r → belongs r m l ≡ true → region_of P m l ≡ Some r
  region_of-belongs r m l in_r b = among P.regions (λ q is. is) r m l in_r b

  -- a label's position is the module's own
  pub position-own : (r : Region) (m : ℕ) (l : Label) (k : ℕ) → Contains P.regions r → belongs r m l ≡ true → k < length r.members → (member_at r k).handle ≡ m → l.position ≡ k
  position-own r m l k in_r b lt is =
      let a : IsInside r m l = inside r m l b in
      disjoint.positions r l.position k in_r a.position lt (a.handle ∙ sym is)

-- Wholeness and what is read of it depend on the labels of the uuid in the modules of the region alone.
module _ (r : Region) (N O : Labels) (same : (x : Member) → Contains r.members x → O x.handle ≡ N x.handle) where
  pub ready-same : all_ready r O ≡ all_ready r N
  ready-same = list_all-same _ _ r.members (λ x here. ap (λ (Q : Module). is_ready Q.kind) (same x here))

  leading-same_among : (ms : List Member) → ((x : Member) → Contains ms x → O x.handle ≡ N x.handle) → leading_among ms O ≡ leading_among ms N
  leading-same_among [] each = refl
  leading-same_among (m ∷ ms) each = ap first (each m (Contains-here m ms))

  pub leading-same : leading_label r O ≡ leading_label r N
  leading-same = leading-same_among r.members same

  pub read_only-same : any_read_only r O ≡ any_read_only r N
  read_only-same = list_any-same _ _ r.members (λ x here. ap (λ (Q : Module). nat_lt 0 (number is_read_only Q)) (same x here))

  pub updating-same : any_updating r O ≡ any_updating r N
  updating-same = list_any-same _ _ r.members (λ x here. ap (λ (Q : Module). nat_lt 0 (number is_updating Q)) (same x here))

  sizes-same : (l : Label) → list_all (has_size l O) r.members ≡ list_all (has_size l N) r.members
  sizes-same l = list_all-same _ _ r.members (λ x here. ap (λ (Q : Module). number (λ a. a.raw_size == l.raw_size) Q == 1) (same x here))

  one-same : (l : Label) → list_all (has_one r l O) r.members ≡ list_all (has_one r l N) r.members
  one-same l = list_all-same _ _ r.members (λ x here. ap (λ (Q : Module). (number any_label Q == 1) && (number (agrees r l x.handle) Q == 1)) (same x here))

  whole_after-same : (o : Option Label) → is_whole_after r O o ≡ is_whole_after r N o
  whole_after-same None = refl
  whole_after-same (Some l) = λ i. one-same l i && (sizes-same l i || (is_updating l && not (read_only-same i)))

  pub whole-same : is_whole_by r O ≡ is_whole_by r N
  whole-same =
      let a : all_ready r O ≡ all_ready r N = ready-same in
      let b : leading_label r O ≡ leading_label r N = leading-same in
      (λ i. a i && is_whole_after r O (b i)) ∙ ap (λ t. all_ready r N && t) (whole_after-same (leading_label r N))

  space_if-same : (b : Bool) (o : Option Label) → space_if r O b o ≡ space_if r N b o
  space_if-same false o = refl
  space_if-same true None = refl
  space_if-same true (Some l) = ap (λ t. Some (space_of r t l)) read_only-same

  pub space-same : space_by r O ≡ space_by r N
  space-same =
      let a : is_whole_by r O ≡ is_whole_by r N = whole-same in
      let b : leading_label r O ≡ leading_label r N = leading-same in
      (λ i. space_if r O (a i) (b i)) ∙ space_if-same (is_whole_by r N) (leading_label r N)

  pub pending-same : (is_whole_by r O && (not (any_read_only r O) && any_updating r O)) ≡ (is_whole_by r N && (not (any_read_only r N) && any_updating r N))
  pending-same =
      let a : is_whole_by r O ≡ is_whole_by r N = whole-same in
      let b : any_read_only r O ≡ any_read_only r N = read_only-same in
      let c : any_updating r O ≡ any_updating r N = updating-same in
      λ i. a i && (not (b i) && c i)

-- a whole uuid has one label in each module, which belongs
pub record IsOnce (r : Region) (N : Labels) (x : Member) : Type 0 where
  pub count_one : label_count N x.handle ≡ 1
  pub lead : Label
  pub leads : leading_label r N ≡ Some lead
  pub there : IsAt (agrees r lead x.handle) (N x.handle).at (N x.handle).slots

pub whole-each : (r : Region) (N : Labels) (x : Member) → is_whole_by r N ≡ true → Contains r.members x → IsOnce r N x
whole-each r N x e here = by (leading_label r N) refl (and_parts _ _ e).1
  where
    by : (o : Option Label) → leading_label r N ≡ o → is_whole_after r N o ≡ true → IsOnce r N x
    by None is t = absurd cc
    by (Some l) is t =
        let here_is = and_parts _ _ (list_all-at (has_one r l N) r.members x (and_parts (list_all (has_one r l N) r.members) _ t).0 here) in
        let one_here : number any_label (N x.handle) ≡ 1 = eq_true _ _ here_is.0 in
        let agree_one : number (agrees r l x.handle) (N x.handle) ≡ 1 = eq_true _ _ here_is.1 in
        elim (count-cases (agrees r l x.handle) (N x.handle).at (N x.handle).slots) [
          | inl none ↦ absurd (omega arith)
          | inr there ↦ record { count_one = one_here; lead = l; leads = is; there = there }
        ]

-- a whole uuid has a label at position 0
pub record IsLed (r : Region) (N : Labels) : Type 0 where
  pub lead : Label
  pub leads : leading_label r N ≡ Some lead
  pub space_is : space_by r N ≡ Some (space_of r (any_read_only r N) lead)

pub whole-led : (r : Region) (N : Labels) → is_whole_by r N ≡ true → IsLed r N
whole-led r N w = by (leading_label r N) refl (and_parts _ _ w).1
  where
    by : (o : Option Label) → leading_label r N ≡ o → is_whole_after r N o ≡ true → IsLed r N
    by None is t = absurd cc
    by (Some l) is t = record { lead = l; leads = is; space_is = λ i. space_if r N (w i) (is i) }

-- a dead label
pub record IsDead (P : Platform) (L : Labels) (m : ℕ) (l : Label) : Type 0 where
  pub region : Region
  pub found : region_of P m l ≡ Some region
  pub updates : is_updating l ≡ true
  pub writes : is_read_only l ≡ false
  pub all_there : all_ready region L ≡ true
  pub not_whole : is_whole L region l.uuid ≡ false
  pub not_doubled : is_doubled L region l.uuid ≡ false

pub dead_is : (P : Platform) (L : Labels) (m : ℕ) (l : Label) → is_dead P L m l ≡ true → IsDead P L m l
dead_is P L m l e =
    let p = and_parts (is_stale P m l) _ e in
    let q = and_parts (is_updating l) _ p.0 in
    let s = and_parts (not (is_read_only l)) _ q.1 in
    by q.0 (not_true _ s.0) (region_of P m l) refl p.1
  where
    by : is_updating l ≡ true → is_read_only l ≡ false → (o : Option Region) → region_of P m l ≡ o → is_unfinished L l.uuid o ≡ true → IsDead P L m l
    by up ro None is t = absurd cc
    by up ro (Some r) is t =
        let a = and_parts _ _ t in
        let b = and_parts _ _ a.1 in
        record { region = r; found = is; updates = up; writes = ro; all_there = a.0; not_whole = not_true _ b.0; not_doubled = not_true _ b.1 }

-- a stale label of a region is dead where the uuid is neither whole nor doubled
pub dead-from : (P : Platform) (L : Labels) (m : ℕ) (l : Label) (r : Region) (u : List ℕ) → region_of P m l ≡ Some r → l.uuid ≡ u → is_updating l ≡ true → is_read_only l ≡ false
    → all_ready r L ≡ true → is_whole L r u ≡ false → is_doubled L r u ≡ false → is_dead P L m l ≡ true
dead-from P L m l r u found uuid up ro all n d =
    let stale : is_stale P m l ≡ true = λ i. up i && (not (ro i) && is_some (found i)) in
    let unfinished : is_unfinished L l.uuid (region_of P m l) ≡ true = (λ i. is_unfinished L (uuid i) (found i)) ∙ (λ i. all i && (not (n i) && not (d i))) in
    λ i. stale i && unfinished i
