-- The list of a region's namespaces has what the table tells of each uuid, and no more.
use Rattle.std.proofs.Common.{◌≡◌, ◌⊎◌, inl, inr, ⊎_elim, ℕ, ◌+◌, ◌≤◌, ◌<◌, Bool, true, false, not, cond, List, [], ◌∷◌, length, Some, None, refl, sym, ap, subst, ◌∙◌, arith}
use Rattle.std.specs.Prelude.{slice_index_or}
use Rattle.std.specs.List.{Contains}
use Rattle.std.specs.Str.{bytes_eq}
use Rattle.std.proofs.lemmas.Bool.{and_parts}
use Rattle.label_codec.specs.declared.label.Label.{Label}
use Rattle.label_codec.specs.ModuleLabels.{Labels, first_below, has, label_if}
use Rattle.label_codec.proofs.Counting.{IsFirst, count-one, first_below-cases}
use Rattle.region_map.specs.declared.platform.Member.{Member}
use Rattle.region_map.specs.declared.platform.Region.{Region}
use Rattle.region_map.specs.declared.platform.Platform.{Platform}
use Rattle.label_table.specs.Belonging.{IsDisjoint, belongs, member_at, no_member, offset_in}
use Rattle.label_table.specs.Division.{part_size, size_among}
use Rattle.label_table.specs.Wholes.{any_label, any_read_only, is_whole, label_count, labels_with, leading_among, leading_label}
use Rattle.label_table.specs.Spaces.{Space, space, space_if, space_of}
use Rattle.label_table.specs.Namespaces.{insert_space, namespaces, spaces_among, spaces_by_slot, without_uuid}
use Rattle.label_table.proofs.ListTests.{Contains-cases, Contains-here, Contains-none, Contains-there, both, never, none_some, some_is, uuid_is, uuid_other, uuid_same}
use Rattle.label_table.proofs.WholeUuids.{IsInside, IsLed, IsOnce, inside, place, position-own, whole-each, whole-led}
use Rattle.label_table.proofs.Leaving.{label_if-passes, label_if-some}
use Rattle.label_table.proofs.Confined.{whole-count}
use Rattle.label_table.proofs.Order.{AreDistinct, Ascends, ComesFrom, in_order-ascends, in_order-from, in_order-to, insert_space-ascends, insert_space-cases, insert_space-new, insert_space-old, one-list, space-uuid, spaces_below-distinct, spaces_below-from, spaces_below-to}

pub space-whole : (L : Labels) (r : Region) (u : List ℕ) (s : Space) → space L r u ≡ Some s → is_whole L r u ≡ true
space-whole L r u s is = elim (both (is_whole L r u)) [
  | inl w ↦ w
  | inr n ↦ none_some (space L r u) (λ i. space_if r (labels_with u L) (n i) (leading_label r (labels_with u L))) is
]

-- the leading label of a namespace, in the module at position 0
pub record IsLeading (L : Labels) (r : Region) (u : List ℕ) (s : Space) (x : Member) : Type 0 where
  pub label : Label
  pub slot : ℕ
  pub within : slot < (L x.handle).slots
  pub is : (L x.handle).at slot ≡ Some label
  pub has_u : has u label ≡ true
  pub shows : space_of r (any_read_only r (labels_with u L)) label ≡ s
  pub mine : belongs r x.handle label ≡ true

pub leading : (L : Labels) (r : Region) (u : List ℕ) (s : Space) → space L r u ≡ Some s → (x : Member) (xs : List Member) → r.members ≡ x ∷ xs → IsLeading L r u s x
leading L r u s is x xs members = by (first_below-cases (labels_with u L x.handle).at (L x.handle).slots)
  where
    w : is_whole L r u ≡ true
    w = space-whole L r u s is

    led : IsLed r (labels_with u L)
    led = whole-led r (labels_with u L) w

    leads : leading_among (x ∷ xs) (labels_with u L) ≡ Some led.lead
    leads = sym (ap (λ ms. leading_among ms (labels_with u L)) members) ∙ led.leads

    in_x : Contains r.members x
    in_x = subst (λ ms. Contains ms x) (sym members) (Contains-here x xs)

    by : ((first_below (labels_with u L x.handle).at (L x.handle).slots ≡ None) × ((k : ℕ) → k < (L x.handle).slots → label_if (has u) ((L x.handle).at k) ≡ None))
        ⊎ ((a : Label) × (first_below (labels_with u L x.handle).at (L x.handle).slots ≡ Some a) × IsFirst (labels_with u L x.handle).at (L x.handle).slots a) → IsLeading L r u s x
    by (inl none) = none_some _ none.0 leads
    by (inr found) =
        let same : found.0 ≡ led.lead = some_is (sym found.1 ∙ leads) in
        let at = label_if-some (has u) ((L x.handle).at found.2.slot) found.0 found.2.is in
        let it : IsOnce r (labels_with u L) x = whole-each r (labels_with u L) x w in_x in
        let few : label_count (labels_with u L) x.handle ≡ 1 = it.count_one in
        let e : it.there.slot ≡ found.2.slot = count-one any_label (labels_with u L x.handle).at (L x.handle).slots (omega arith) it.there.slot found.2.slot it.there.label found.0 it.there.within found.2.within it.there.is found.2.is refl refl in
        let there : label_if (has u) ((L x.handle).at found.2.slot) ≡ Some it.there.label = subst (λ j. label_if (has u) ((L x.handle).at j) ≡ Some it.there.label) e it.there.is in
        let label : it.there.label ≡ found.0 = some_is (sym there ∙ found.2.is) in
        record {
          label = found.0;
          slot = found.2.slot;
          within = found.2.within;
          is = at.0;
          has_u = at.1;
          shows = ap (λ a. space_of r (any_read_only r (labels_with u L)) a) same ∙ some_is (sym led.space_is ∙ is);
          mine = subst (λ (a : Label). belongs r x.handle a ≡ true) label (and_parts _ _ it.there.passes).0;
        }

-- a region with a namespace has a member at position 0
pub record IsFirstMember (r : Region) : Type 0 where
  pub member : Member
  pub members : List Member
  pub is : r.members ≡ member ∷ members

pub first-member : (L : Labels) (r : Region) (u : List ℕ) (s : Space) → space L r u ≡ Some s → IsFirstMember r
first-member L r u s is = by r.members refl
  where
    led : IsLed r (labels_with u L)
    led = whole-led r (labels_with u L) (space-whole L r u s is)

    by : (ms : List Member) → r.members ≡ ms → IsFirstMember r
    by [] e = none_some (leading_label r (labels_with u L)) (ap (λ ms. leading_among ms (labels_with u L)) e) led.leads
    by (x ∷ xs) e = record { member = x; members = xs; is = e }

-- a namespace is not empty
pub space-not_empty : (L : Labels) (r : Region) (u : List ℕ) (s : Space) → space L r u ≡ Some s → 0 < s.length
space-not_empty L r u s is =
    let m : IsFirstMember r = first-member L r u s is in
    let at : IsLeading L r u s m.member = leading L r u s is m.member m.members m.is in
    let in_it : IsInside r m.member.handle at.label = inside r m.member.handle at.label at.mine in
    let bytes : 0 < at.label.raw_size = in_it.some_bytes in
    subst (λ n. 0 < n) (ap (λ (t : Space). t.length) at.shows) bytes

-- and ends within each member's part
pub space-within : (P : Platform) → IsDisjoint P → (L : Labels) (r : Region) → Contains P.regions r → (u : List ℕ) (s : Space) → space L r u ≡ Some s → s.offset + s.length ≤ part_size r
space-within P disjoint L r in_P u s is =
    let m : IsFirstMember r = first-member L r u s is in
    let at : IsLeading L r u s m.member = leading L r u s is m.member m.members m.is in
    let in_it : IsInside r m.member.handle at.label = inside r m.member.handle at.label at.mine in
    let first_is : member_at r 0 ≡ m.member = ap (λ ms. slice_index_or ms 0 no_member) m.is in
    let here : 0 < length r.members = subst (λ ms. 0 < length ms) (sym m.is) (omega arith) in
    let zero_is : at.label.position ≡ 0 = position-own P disjoint r m.member.handle at.label 0 in_P at.mine here (ap (λ (y : Member). y.handle) first_is) in
    let part : (place r at.label).size ≡ part_size r = ap (λ k. (member_at r k).size) zero_is ∙ ap (λ (y : Member). y.size) first_is ∙ sym (ap size_among m.is) in
    let offset : offset_in r at.label ≡ s.offset = ap (λ (t : Space). t.offset) at.shows in
    let size : at.label.raw_size ≡ s.length = ap (λ (t : Space). t.length) at.shows in
    let low = in_it.low in
    let high = in_it.high in
    omega arith

module _ (L : Labels) (r : Region) where
  by_slot-from : (ms : List Member) (s : Space) → Contains (spaces_among L r ms) s → space L r s.uuid ≡ Some s
  by_slot-from [] s c = Contains-none s c
  by_slot-from (x ∷ xs) s c =
      let from : ComesFrom L r (L x.handle).at (L x.handle).slots s = spaces_below-from L r (L x.handle).at (L x.handle).slots s c in
      subst (λ v. space L r v ≡ Some s) (sym (space-uuid L r from.label.uuid s from.space_is)) from.space_is

  by_slot-to : (u : List ℕ) (s : Space) → space L r u ≡ Some s → Contains (spaces_by_slot L r) s
  by_slot-to u s is =
      let m : IsFirstMember r = first-member L r u s is in
      let at : IsLeading L r u s m.member = leading L r u s is m.member m.members m.is in
      subst (λ ms. Contains (spaces_among L r ms) s) (sym m.is)
      (spaces_below-to L r (L m.member.handle).at (L m.member.handle).slots s (record {
        slot = at.slot;
        label = at.label;
        within = at.within;
        is = at.is;
        space_is = subst (λ v. space L r v ≡ Some s) (uuid_is u at.label.uuid at.has_u) is;
      }))

  by_slot-distinct : (ms : List Member) → ((x : Member) → Contains ms x → Contains r.members x) → AreDistinct (spaces_among L r ms)
  by_slot-distinct [] sub = tt
  by_slot-distinct (x ∷ xs) sub = spaces_below-distinct L r (L x.handle).at (L x.handle).slots (λ j k a b s t j_lt k_lt at_j at_k a_is b_is same.
      let w : is_whole L r a.uuid ≡ true = space-whole L r a.uuid s a_is in
      let few : label_count (labels_with a.uuid L) x.handle ≡ 1 = whole-count r a.uuid L x w (sub x (Contains-here x xs)) in
      count-one any_label (labels_with a.uuid L x.handle).at (L x.handle).slots (omega arith) j k a b j_lt k_lt
      (label_if-passes (has a.uuid) _ a at_j (uuid_same a.uuid)) (label_if-passes (has a.uuid) _ b at_k (ap (λ v. bytes_eq a.uuid v) (sym same) ∙ uuid_same a.uuid)) refl refl)

  pub namespaces-from : (s : Space) → Contains (namespaces L r) s → space L r s.uuid ≡ Some s
  namespaces-from s c = by_slot-from r.members s (in_order-from (spaces_by_slot L r) s c)

  pub namespaces-to : (u : List ℕ) (s : Space) → space L r u ≡ Some s → Contains (namespaces L r) s
  namespaces-to u s is = in_order-to (spaces_by_slot L r) s (by_slot-to u s is)

  pub namespaces-ascends : Ascends (namespaces L r)
  namespaces-ascends = in_order-ascends (spaces_by_slot L r) (by_slot-distinct r.members (λ x here. here))

-- The list is told by what the namespaces show.
pub namespaces-one : (L : Labels) (r : Region) (xs : List Space) → Ascends xs → ((s : Space) → Contains xs s → space L r s.uuid ≡ Some s) → ((u : List ℕ) (s : Space) → space L r u ≡ Some s → Contains xs s) → namespaces L r ≡ xs
namespaces-one L r xs a from to = one-list (namespaces L r) xs (namespaces-ascends L r) a
    (λ t c. to t.uuid t (namespaces-from L r t c)) (λ t c. namespaces-to L r t.uuid t (from t c))

pub namespaces-same : (L M : Labels) (r : Region) → ((u : List ℕ) → space M r u ≡ space L r u) → namespaces M r ≡ namespaces L r
namespaces-same L M r same = namespaces-one M r (namespaces L r) (namespaces-ascends L r)
    (λ s c. same s.uuid ∙ namespaces-from L r s c) (λ u s is. namespaces-to L r u s (sym (same u) ∙ is))

-- the namespaces with other uuids
pub without_uuid-cases : (u : List ℕ) (xs : List Space) (t : Space) → Contains (without_uuid u xs) t → Contains xs t × (bytes_eq u t.uuid ≡ false)
without_uuid-cases u [] t c = Contains-none t c
without_uuid-cases u (x ∷ xs) t c = by (bytes_eq u x.uuid) refl c (λ there. without_uuid-cases u xs t there)
  where
    by : (b : Bool) → bytes_eq u x.uuid ≡ b → Contains (cond (not b) (x ∷ without_uuid u xs) (without_uuid u xs)) t → (Contains (without_uuid u xs) t → Contains xs t × (bytes_eq u t.uuid ≡ false)) → Contains (x ∷ xs) t × (bytes_eq u t.uuid ≡ false)
    by true e c rest = let found = rest c in (Contains-there x xs t found.0, found.1)
    by false e c rest = ⊎_elim (λ is. (subst (λ y. Contains (x ∷ xs) y) (sym is) (Contains-here x xs), ap (λ (y : Space). bytes_eq u y.uuid) is ∙ e)) (λ there. let found = rest there in (Contains-there x xs t found.0, found.1)) (Contains-cases x (without_uuid u xs) t c)

pub without_uuid-to : (u : List ℕ) (xs : List Space) (t : Space) → Contains xs t → bytes_eq u t.uuid ≡ false → Contains (without_uuid u xs) t
without_uuid-to u [] t c n = Contains-none t c
without_uuid-to u (x ∷ xs) t c n = by (bytes_eq u x.uuid) refl (Contains-cases x xs t c) (λ there. without_uuid-to u xs t there n)
  where
    by : (b : Bool) → bytes_eq u x.uuid ≡ b → (t ≡ x) ⊎ Contains xs t → (Contains xs t → Contains (without_uuid u xs) t) → Contains (cond (not b) (x ∷ without_uuid u xs) (without_uuid u xs)) t
    by true e (inl is) rest = never (bytes_eq u x.uuid) e (ap (λ (y : Space). bytes_eq u y.uuid) (sym is) ∙ n)
    by true e (inr there) rest = rest there
    by false e (inl is) rest = subst (λ y. Contains (x ∷ without_uuid u xs) y) (sym is) (Contains-here x (without_uuid u xs))
    by false e (inr there) rest = Contains-there x (without_uuid u xs) t (rest there)

pub without_uuid-ascends : (u : List ℕ) (xs : List Space) → Ascends xs → Ascends (without_uuid u xs)
without_uuid-ascends u [] a = tt
without_uuid-ascends u (x ∷ xs) a = by (bytes_eq u x.uuid) (without_uuid-ascends u xs a.1)
  where
    by : (b : Bool) → Ascends (without_uuid u xs) → Ascends (cond (not b) (x ∷ without_uuid u xs) (without_uuid u xs))
    by true rest = rest
    by false rest = (λ t c. a.0 t (without_uuid-cases u xs t c).0, rest)

-- One namespace is gone,
pub namespaces-without : (L M : Labels) (r : Region) (u : List ℕ) → space M r u ≡ None → ((v : List ℕ) → bytes_eq u v ≡ false → space M r v ≡ space L r v) → namespaces M r ≡ without_uuid u (namespaces L r)
namespaces-without L M r u gone same = namespaces-one M r (without_uuid u (namespaces L r)) (without_uuid-ascends u (namespaces L r) (namespaces-ascends L r))
    (λ s c. let old = without_uuid-cases u (namespaces L r) s c in same s.uuid old.1 ∙ namespaces-from L r s old.0)
    (λ v s is. elim (both (bytes_eq u v)) [
      | inl e ↦ none_some (space M r v) (subst (λ w. space M r w ≡ None) (uuid_is u v e) gone) is
      | inr n ↦ without_uuid-to u (namespaces L r) s (namespaces-to L r v s (sym (same v n) ∙ is)) (ap (λ w. bytes_eq u w) (space-uuid M r v s is) ∙ n)
    ])

-- or shows something else, or is new.
pub namespaces-with : (L M : Labels) (r : Region) (s : Space) → space M r s.uuid ≡ Some s → ((v : List ℕ) → bytes_eq s.uuid v ≡ false → space M r v ≡ space L r v) → namespaces M r ≡ insert_space s (without_uuid s.uuid (namespaces L r))
namespaces-with L M r s is same = namespaces-one M r (insert_space s (without_uuid s.uuid (namespaces L r)))
    (insert_space-ascends s (without_uuid s.uuid (namespaces L r)) (without_uuid-ascends s.uuid (namespaces L r) (namespaces-ascends L r)) (λ t c. uuid_other s.uuid t.uuid (without_uuid-cases s.uuid (namespaces L r) t c).1))
    (λ t c. ⊎_elim (λ e. subst (λ y. space M r y.uuid ≡ Some y) (sym e) is) (λ there. let old = without_uuid-cases s.uuid (namespaces L r) t there in same t.uuid old.1 ∙ namespaces-from L r t old.0) (insert_space-cases s (without_uuid s.uuid (namespaces L r)) t c))
    (λ v t t_is. elim (both (bytes_eq s.uuid v)) [
      | inl e ↦ subst (λ y. Contains (insert_space s (without_uuid s.uuid (namespaces L r))) y) (some_is (sym is ∙ (λ i. space M r (uuid_is s.uuid v e i)) ∙ t_is)) (insert_space-new s (without_uuid s.uuid (namespaces L r)))
      | inr n ↦ insert_space-old s (without_uuid s.uuid (namespaces L r)) t (without_uuid-to s.uuid (namespaces L r) t (namespaces-to L r v t (sym (same v n) ∙ t_is)) (ap (λ w. bytes_eq s.uuid w) (space-uuid M r v t t_is) ∙ n))
    ])
