-- Held labels of one uuid in one module are released: what becomes of the table.
use Rattle.std.proofs.Common.{◌≡◌, ◌≢◌, inl, inr, ℕ, ◌+◌, ◌≤◌, Bool, true, false, not, ◌&&◌, cond, List, Some, None, refl, sym, ap, subst, ◌∙◌, arith}
use Rattle.std.specs.Prelude.{◌==◌, nat_lt}
use Rattle.std.specs.List.{Contains}
use Rattle.std.specs.Option.{option_map_or}
use Rattle.std.specs.Str.{bytes_eq}
use Rattle.std.proofs.lemmas.Bool.{and_parts, cases_eq}
use Rattle.label_codec.specs.declared.label.Label.{Label}
use Rattle.label_codec.specs.ModuleLabels.{IsBounded, Labels, Module, has, is_ready, number, of_uuid}
use Rattle.label_codec.proofs.Counting.{count-le}
use Rattle.region_map.specs.declared.platform.Member.{Member}
use Rattle.region_map.specs.declared.platform.Region.{Region}
use Rattle.region_map.specs.declared.platform.Platform.{Platform}
use Rattle.label_table.specs.Belonging.{IsDisjoint, belongs, region_of}
use Rattle.region_map.specs.Platforms.{region_at}
use Rattle.label_table.specs.Fates.{held_count, is_dead, is_held, is_of_namespace, is_whole_in, kept_count, spare, without_slot}
use Rattle.label_table.specs.Flips.{other_labels}
use Rattle.label_table.specs.Settling.{IsReleased, settled, vanishes, without_held}
use Rattle.label_table.specs.Spaces.{is_pending, space}
use Rattle.label_table.specs.Tables.{table}
use Rattle.label_table.specs.Wholes.{all_ready, any_label, is_doubled, is_whole, label_count, labels_with}
use Rattle.label_table.proofs.Confined.{kind-same, number-none, number-same, number-split, other-same, slots-same, whole-count}
use Rattle.label_table.proofs.Equations.{by_index-same}
use Rattle.label_table.proofs.Leaving.{label_if-some}
use Rattle.label_table.proofs.ListTests.{both, eq_other, eq_same, list_all-same, list_any-more, list_any-same, never, not_true, uuid_is, uuid_other}
use Rattle.label_table.proofs.WholeUuids.{IsOnce, pending-same, region_of-belongs, space-same, whole-each, whole-same}
use Rattle.label_table.proofs.Settled.{Settles, and_three, held-often, number-either, settled-held, settled-kept, stays_dead, vanishes-dead}

module _ (P : Platform) (disjoint : IsDisjoint P) (L M : Labels) (bounded : IsBounded L) (m : ℕ) (u : List ℕ) (release : IsReleased P m u L M) where
  none-after : label_count (labels_with u M) m ≡ 0
  none-after = number-none any_label (of_uuid u (M m)) (λ k l is. let at = label_if-some (has u) ((M m).at k) l is in never (has u l) at.1 (release.none k l at.0))

  -- a region where u is whole doesn't have the module
  away_before : (r : Region) → Contains P.regions r → is_whole L r u ≡ true → (x : Member) → Contains r.members x → x.handle ≢ m
  away_before r in_P w x in_x e =
      let it : IsOnce r (labels_with u L) x = whole-each r (labels_with u L) x w in_x in
      let at = label_if-some (has u) ((L x.handle).at it.there.slot) it.there.label it.there.is in
      let found : region_of P x.handle it.there.label ≡ Some r = region_of-belongs P disjoint r x.handle it.there.label in_P (and_parts (belongs r x.handle it.there.label) _ it.there.passes).0 in
      let uuid : it.there.label.uuid ≡ u = sym (uuid_is u it.there.label.uuid at.1) in
      let of : is_of_namespace P L x.handle it.there.label ≡ true = (λ i. is_whole_in L (uuid i) (found i)) ∙ w in
      let h : is_held P L x.handle it.there.label ≡ true = subst (λ j. is_held P L j it.there.label ≡ true) (sym e) (release.held it.there.slot it.there.label (subst (λ j. (L j).at it.there.slot ≡ Some it.there.label) e at.0) at.1) in
      never (is_of_namespace P L x.handle it.there.label) of (not_true (is_of_namespace P L x.handle it.there.label) (and_parts (not (is_dead P L x.handle it.there.label)) _ h).1)

  away_after : (r : Region) → is_whole M r u ≡ true → (x : Member) → Contains r.members x → x.handle ≢ m
  away_after r w x in_x e =
      let t : label_count (labels_with u M) x.handle ≡ 1 = whole-count r u M x w in_x in
      let s : label_count (labels_with u M) x.handle ≡ label_count (labels_with u M) m = ap (label_count (labels_with u M)) e in
      let z = none-after in
      omega arith

  same_where : (r : Region) → ((x : Member) → Contains r.members x → x.handle ≢ m) → (x : Member) → Contains r.members x → labels_with u M x.handle ≡ labels_with u L x.handle
  same_where r away x in_x = ap (of_uuid u) (release.confined.others x.handle (away x in_x))

  whole_u : (r : Region) → Contains P.regions r → is_whole M r u ≡ is_whole L r u
  whole_u r in_P = elim (both (is_whole L r u)) [
    | inl w ↦ whole-same r (labels_with u L) (labels_with u M) (same_where r (away_before r in_P w))
    | inr n ↦ elim (both (is_whole M r u)) [
      | inl w ↦ whole-same r (labels_with u L) (labels_with u M) (same_where r (away_after r w))
      | inr o ↦ o ∙ sym n
    ]
  ]

  other : (v : List ℕ) → bytes_eq u v ≡ false → (r : Region) (x : Member) → Contains r.members x → labels_with v M x.handle ≡ labels_with v L x.handle
  other v n r x in_x = other-same u m L M release.confined v x.handle (uuid_other u v n)

  release-whole : (r : Region) (v : List ℕ) → Contains P.regions r → is_whole M r v ≡ is_whole L r v
  release-whole r v in_P = elim (both (bytes_eq u v)) [
    | inl e ↦ subst (λ w. is_whole M r w ≡ is_whole L r w) (uuid_is u v e) (whole_u r in_P)
    | inr n ↦ whole-same r (labels_with v L) (labels_with v M) (other v n r)
  ]

  space_u : (r : Region) → Contains P.regions r → space M r u ≡ space L r u
  space_u r in_P = elim (both (is_whole L r u)) [
    | inl w ↦ space-same r (labels_with u L) (labels_with u M) (same_where r (away_before r in_P w))
    | inr n ↦ let o : is_whole M r u ≡ false = whole_u r in_P ∙ n in rw (o, n) refl
  ]

  pub release-space : (r : Region) (v : List ℕ) → Contains P.regions r → space M r v ≡ space L r v
  release-space r v in_P = elim (both (bytes_eq u v)) [
    | inl e ↦ subst (λ w. space M r w ≡ space L r w) (uuid_is u v e) (space_u r in_P)
    | inr n ↦ space-same r (labels_with v L) (labels_with v M) (other v n r)
  ]

  pending_u : (r : Region) → Contains P.regions r → is_pending M r u ≡ is_pending L r u
  pending_u r in_P = elim (both (is_whole L r u)) [
    | inl w ↦ pending-same r (labels_with u L) (labels_with u M) (same_where r (away_before r in_P w))
    | inr n ↦ let o : is_whole M r u ≡ false = whole_u r in_P ∙ n in rw (o, n) refl
  ]

  pub release-pending : (r : Region) (v : List ℕ) → Contains P.regions r → is_pending M r v ≡ is_pending L r v
  release-pending r v in_P = elim (both (bytes_eq u v)) [
    | inl e ↦ subst (λ w. is_pending M r w ≡ is_pending L r w) (uuid_is u v e) (pending_u r in_P)
    | inr n ↦ pending-same r (labels_with v L) (labels_with v M) (other v n r)
  ]

  -- how often a module has a uuid afterwards, read off the table without the released labels
  twice_at : (v : List ℕ) (y : ℕ) → nat_lt 1 ((without_held m u (table P L)).held y (has v)) ≡ nat_lt 1 (label_count (labels_with v M) y)
  twice_at v y = elim (cases_eq y m) [
    | inr differ ↦
        (let f : (y == m) ≡ false = eq_other y m differ in
        (λ i. nat_lt 1 (cond (f i) (held_count P L y (λ l. not (has u l) && has v l)) (held_count P L y (has v)))) ∙ held-often P L bounded v y ∙ sym (ap (λ (N : Module). nat_lt 1 (number any_label (of_uuid v N))) (release.confined.others y differ)))
    | inl e ↦
        (let t : (y == m) ≡ true = eq_same y m e in
        (λ i. nat_lt 1 (cond (t i) (held_count P L y (λ l. not (has u l) && has v l)) (held_count P L y (has v)))) ∙ subst (λ j. nat_lt 1 (held_count P L j (λ l. not (has u l) && has v l)) ≡ nat_lt 1 (label_count (labels_with v M) j)) (sym e) here)
  ]
    where
      false_and : (a : Bool) → (a && false) ≡ false
      false_and true = refl
      false_and false = refl

      here : nat_lt 1 (held_count P L m (λ l. not (has u l) && has v l)) ≡ nat_lt 1 (label_count (labels_with v M) m)
      here = elim (both (bytes_eq u v)) [
        | inl same ↦
            let none : held_count P L m (λ l. not (has u l) && has v l) ≡ 0 = number-none _ (L m) (λ k l is. elim (both (has u l)) [
              | inl h ↦ (λ i. is_held P L m l && (not (h i) && has v l)) ∙ false_and (is_held P L m l)
              | inr n ↦ (let f : has v l ≡ false = subst (λ w. has w l ≡ false) (uuid_is u v same) n in (λ i. is_held P L m l && (not (has u l) && f i)) ∙ (λ i. is_held P L m l && (false_and (not (has u l)) i)) ∙ false_and (is_held P L m l))
            ]) in
            let none_M : label_count (labels_with v M) m ≡ 0 = subst (λ w. label_count (labels_with w M) m ≡ 0) (uuid_is u v same) none-after in
            λ i. nat_lt 1 ((none ∙ sym none_M) i)
        | inr differ ↦
            let same_count : held_count P L m (λ l. not (has u l) && has v l) ≡ held_count P L m (has v) = number-same (λ l. is_held P L m l && (not (has u l) && has v l)) (λ l. is_held P L m l && has v l) (L m) (λ k l is. elim (both (has v l)) [
              | inl h ↦ (let n : has u l ≡ false = elim (both (has u l)) [
                | inr f ↦ f
                | inl g ↦ absurd (uuid_other u v differ (uuid_is v l.uuid h ∙ sym (uuid_is u l.uuid g)))
              ] in λ i. is_held P L m l && (not (n i) && has v l))
              | inr f ↦ ((λ i. is_held P L m l && (not (has u l) && f i)) ∙ (λ i. is_held P L m l && false_and (not (has u l)) i) ∙ sym (λ i. is_held P L m l && f i))
            ]) in
            ap (nat_lt 1) same_count ∙ held-often P L bounded v m ∙ sym (ap (λ (N : Module). nat_lt 1 (number any_label N)) (other-same u m L M release.confined v m (uuid_other u v differ)))
      ]

  fewer_doubled : (r : Region) (v : List ℕ) → is_doubled M r v ≡ true → is_doubled L r v ≡ true
  fewer_doubled r v = list_any-more _ _ r.members (λ x in_x t. by x.handle t)
    where
      by : (y : ℕ) → nat_lt 1 (label_count (labels_with v M) y) ≡ true → nat_lt 1 (label_count (labels_with v L) y) ≡ true
      by y t = elim (both (bytes_eq u v)) [
        | inr n ↦ sym (ap (λ (N : Module). nat_lt 1 (number any_label N)) (other-same u m L M release.confined v y (uuid_other u v n))) ∙ t
        | inl same ↦ elim (cases_eq y m) [
          | inr differ ↦ sym (ap (λ (N : Module). nat_lt 1 (number any_label (of_uuid v N))) (release.confined.others y differ)) ∙ t
          | inl e ↦
              let z : label_count (labels_with v M) y ≡ 0 = (λ i. label_count (labels_with (sym (uuid_is u v same) i) M) (e i)) ∙ none-after in
              never (nat_lt 1 (label_count (labels_with v M) y)) t (ap (nat_lt 1) z)
        ]
      ]

  ready_same : (r : Region) → all_ready r M ≡ all_ready r L
  ready_same r = list_all-same _ _ r.members (λ x in_x. ap is_ready (kind-same u m L M release.confined x.handle))

  space_before : (r : Region) (v : List ℕ) → Contains P.regions r → (table P L).space r.index v ≡ space L r v
  space_before r v in_P = let found : region_at P r.index ≡ Some r = disjoint.indexes r in_P in λ i. option_map_or (λ q. space L q v) (found i) None

  release-settles : Settles P L M (without_held m u (table P L))
  release-settles = record {
    whole = release-whole;
    dies = stays_dead P L M (λ r t. ready_same r ∙ t) release-whole fewer_doubled;
    vanish = vanishes-dead P disjoint M (without_held m u (table P L)) (λ y. sym (kind-same u m L M release.confined y)) (λ r v in_P. space_before r v in_P ∙ sym (release-space r v in_P))
        (λ r v. list_any-same _ _ r.members (λ x in_x. twice_at v x.handle));
  }

  -- a held label of u is no dead one
  held_alive : (k : ℕ) (l : Label) → (L m).at k ≡ Some l → has u l ≡ true → is_dead P L m l ≡ false
  held_alive k l is h = not_true (is_dead P L m l) (and_parts (not (is_dead P L m l)) _ (release.held k l is h)).0

  others_at : (l : Label) (k : ℕ) (N : Module) → (other_labels u N).at k ≡ Some l → has u l ≡ false
  others_at l k N is = not_true (has u l) (label_if-some (λ a. not (has u a)) (N.at k) l is).1

  false_right : (a : Bool) → (a && false) ≡ false
  false_right true = refl
  false_right false = refl

  -- what is counted of the labels that do not have u
  counted_rest : (p : Label → Bool) → number (λ l. is_held P L m l && (not (has u l) && p l)) (L m) ≡ number (λ l. is_held P L m l && p l) (other_labels u (L m))
  counted_rest p =
      let split : number (λ l. is_held P L m l && (not (has u l) && p l)) (L m) ≡ number (λ l. is_held P L m l && (not (has u l) && p l)) (of_uuid u (L m)) + number (λ l. is_held P L m l && (not (has u l) && p l)) (other_labels u (L m)) = number-split u _ (L m) in
      let none : number (λ l. is_held P L m l && (not (has u l) && p l)) (of_uuid u (L m)) ≡ 0 = number-none _ (of_uuid u (L m)) (λ k l is. let h = (label_if-some (has u) ((L m).at k) l is).1 in (λ i. is_held P L m l && (not (h i) && p l)) ∙ false_right (is_held P L m l)) in
      let rest : number (λ l. is_held P L m l && (not (has u l) && p l)) (other_labels u (L m)) ≡ number (λ l. is_held P L m l && p l) (other_labels u (L m)) = number-same (λ l. is_held P L m l && (not (has u l) && p l)) (λ l. is_held P L m l && p l) (other_labels u (L m)) (λ k l is. let n = others_at l k (L m) is in λ i. is_held P L m l && (not (n i) && p l)) in
      omega arith

  left_here : (p : Label → Bool) → number p (M m) ≡ number p (other_labels u (L m))
  left_here p =
      let split : number p (M m) ≡ number p (of_uuid u (M m)) + number p (other_labels u (M m)) = number-split u p (M m) in
      let none : number p (of_uuid u (M m)) ≡ 0 = number-none p (of_uuid u (M m)) (λ k l is. let at = label_if-some (has u) ((M m).at k) l is in never (has u l) at.1 (release.none k l at.0)) in
      let rest : number p (other_labels u (M m)) ≡ number p (other_labels u (L m)) = ap (number p) release.confined.rest in
      omega arith

  release-held : (y : ℕ) (p : Label → Bool) → held_count P M y p ≡ (without_held m u (table P L)).held y (λ l. not (vanishes P (without_held m u (table P L)) y l) && p l)
  release-held y p = elim (cases_eq y m) [
    | inl e ↦
        let t : (y == m) ≡ true = eq_same y m e in
        let here : held_count P M m p ≡ held_count P L m (λ l. not (has u l) && (not (vanishes P (without_held m u (table P L)) m l) && p l)) =
        left_here (λ l. is_held P M m l && p (without_slot l))
        ∙ number-same (λ l. is_held P M m l && p (without_slot l)) (λ l. is_held P L m l && (not (vanishes P (without_held m u (table P L)) m l) && p (without_slot l))) (other_labels u (L m))
        (λ k l is. (λ i. settled-held P L M (without_held m u (table P L)) release-settles m l i && p (without_slot l)) ∙ and_three (is_held P L m l) (not (vanishes P (without_held m u (table P L)) m l)) (p (without_slot l)))
        ∙ sym (counted_rest (λ l. not (vanishes P (without_held m u (table P L)) m l) && p (without_slot l))) in
        subst (λ j. held_count P M j p ≡ held_count P L j (λ l. not (has u l) && (not (vanishes P (without_held m u (table P L)) j l) && p l))) (sym e) here
        ∙ sym (λ i. cond (t i) (held_count P L y (λ l. not (has u l) && (not (vanishes P (without_held m u (table P L)) y l) && p l))) (held_count P L y (λ l. not (vanishes P (without_held m u (table P L)) y l) && p l)))
    | inr differ ↦
        let f : (y == m) ≡ false = eq_other y m differ in
        ap (number (λ l. is_held P M y l && p (without_slot l))) (release.confined.others y differ)
        ∙ number-same (λ l. is_held P M y l && p (without_slot l)) (λ l. is_held P L y l && (not (vanishes P (without_held m u (table P L)) y l) && p (without_slot l))) (L y)
        (λ k l is. (λ i. settled-held P L M (without_held m u (table P L)) release-settles y l i && p (without_slot l)) ∙ and_three (is_held P L y l) (not (vanishes P (without_held m u (table P L)) y l)) (p (without_slot l)))
        ∙ sym (λ i. cond (f i) (held_count P L y (λ l. not (has u l) && (not (vanishes P (without_held m u (table P L)) y l) && p l))) (held_count P L y (λ l. not (vanishes P (without_held m u (table P L)) y l) && p l)))
  ]

  release-spare : (y : ℕ) → spare P M y ≡ (without_held m u (table P L)).spare y + (without_held m u (table P L)).held y (vanishes P (without_held m u (table P L)) y)
  release-spare y = elim (cases_eq y m) [
    | inl e ↦
        let t : (y == m) ≡ true = eq_same y m e in
        subst (λ j. spare P M j ≡ (spare P L j + held_count P L j (has u)) + held_count P L j (λ l. not (has u l) && vanishes P (without_held m u (table P L)) j l)) (sym e) here
        ∙ sym (λ i. (cond (t i) (spare P L y + held_count P L y (has u)) (spare P L y)) + cond (t i) (held_count P L y (λ l. not (has u l) && vanishes P (without_held m u (table P L)) y l)) (held_count P L y (vanishes P (without_held m u (table P L)) y)))
    | inr differ ↦
        let f : (y == m) ≡ false = eq_other y m differ in
        let same : M y ≡ L y = release.confined.others y differ in
        let size : (M y).slots ≡ (L y).slots = ap (λ (N : Module). N.slots) same in
        let kept : kept_count P L y ≡ number (λ l. not (is_dead P M y l)) (L y) + held_count P L y (vanishes P (without_held m u (table P L)) y) =
        number-either (λ l. not (is_dead P L y l)) (λ l. not (is_dead P M y l)) (λ l. is_held P L y l && vanishes P (without_held m u (table P L)) y l) (L y) (λ k l is. settled-kept P L M (without_held m u (table P L)) release-settles y l) in
        let after : kept_count P M y ≡ number (λ l. not (is_dead P M y l)) (L y) = ap (number (λ l. not (is_dead P M y l))) same in
        let few : kept_count P L y ≤ (L y).slots = count-le (λ l. not (is_dead P L y l)) (L y).at (L y).slots in
        let there : spare P M y ≡ spare P L y + held_count P L y (vanishes P (without_held m u (table P L)) y) = omega arith in
        there ∙ sym (λ i. (cond (f i) (spare P L y + held_count P L y (has u)) (spare P L y)) + cond (f i) (held_count P L y (λ l. not (has u l) && vanishes P (without_held m u (table P L)) y l)) (held_count P L y (vanishes P (without_held m u (table P L)) y)))
  ]
    where
      here : spare P M m ≡ (spare P L m + held_count P L m (has u)) + held_count P L m (λ l. not (has u l) && vanishes P (without_held m u (table P L)) m l)
      here =
          let size : (M m).slots ≡ (L m).slots = slots-same u m L M release.confined m in
          let split : kept_count P L m ≡ number (λ l. not (is_dead P L m l)) (of_uuid u (L m)) + number (λ l. not (is_dead P L m l)) (other_labels u (L m)) = number-split u _ (L m) in
          let held_split : held_count P L m (has u) ≡ number (λ l. is_held P L m l && has u l) (of_uuid u (L m)) + number (λ l. is_held P L m l && has u l) (other_labels u (L m)) = number-split u _ (L m) in
          let held_rest : number (λ l. is_held P L m l && has u l) (other_labels u (L m)) ≡ 0 = number-none _ (other_labels u (L m)) (λ k l is. let n = others_at l k (L m) is in (λ i. is_held P L m l && n i) ∙ false_right (is_held P L m l)) in
          let all_held : number (λ l. not (is_dead P L m l)) (of_uuid u (L m)) ≡ number (λ l. is_held P L m l && has u l) (of_uuid u (L m)) = number-same (λ l. not (is_dead P L m l)) (λ l. is_held P L m l && has u l) (of_uuid u (L m))
          (λ k l is. let at = label_if-some (has u) ((L m).at k) l is in ap not (held_alive k l at.0 at.1) ∙ sym (λ i. release.held k l at.0 at.1 i && at.1 i)) in
          let rest : number (λ l. not (is_dead P L m l)) (other_labels u (L m)) ≡ number (λ l. not (is_dead P M m l)) (other_labels u (L m)) + number (λ l. is_held P L m l && vanishes P (without_held m u (table P L)) m l) (other_labels u (L m)) =
          number-either (λ l. not (is_dead P L m l)) (λ l. not (is_dead P M m l)) (λ l. is_held P L m l && vanishes P (without_held m u (table P L)) m l) (other_labels u (L m)) (λ k l is. settled-kept P L M (without_held m u (table P L)) release-settles m l) in
          let gone : held_count P L m (λ l. not (has u l) && vanishes P (without_held m u (table P L)) m l) ≡ number (λ l. is_held P L m l && vanishes P (without_held m u (table P L)) m l) (other_labels u (L m)) = counted_rest (vanishes P (without_held m u (table P L)) m) in
          let after : kept_count P M m ≡ number (λ l. not (is_dead P M m l)) (other_labels u (L m)) = left_here (λ l. not (is_dead P M m l)) in
          let few : kept_count P L m ≤ (L m).slots = count-le (λ l. not (is_dead P L m l)) (L m).at (L m).slots in
          omega arith

  -- The table is that without the labels, settled.
  pub release-table : table P M ≡ settled P (without_held m u (table P L))
  release-table =
      let spaces : (i : ℕ) (v : List ℕ) → (table P M).space i v ≡ (table P L).space i v = by_index-same P None (space M) (space L) release-space in
      λ i. record { kind = λ y. kind-same u m L M release.confined y i; spare = λ y. release-spare y i; held = λ y p. release-held y p i; space = λ n v. spaces n v i }
