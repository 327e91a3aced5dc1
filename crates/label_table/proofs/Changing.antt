-- A label of a namespace is replaced.
use Rattle.std.proofs.Common.{◌≡◌, ◌≢◌, ⊎_elim, ℕ, ◌-◌, Bool, true, false, not, ◌&&◌, List, ◌∷◌, Some, None, refl, sym, ap, ◌∙◌, arith}
use Rattle.std.specs.List.{Contains}
use Rattle.std.specs.Option.{option_map_or}
use Rattle.std.proofs.lemmas.Bool.{and_right}
use Rattle.label_codec.specs.declared.label.Label.{Label}
use Rattle.label_codec.specs.ModuleLabels.{IsBounded, Labels, first, has, number, of_uuid}
use Rattle.region_map.specs.declared.platform.Member.{Member}
use Rattle.region_map.specs.declared.platform.Region.{Region}
use Rattle.region_map.specs.declared.platform.Platform.{Platform}
use Rattle.label_table.specs.Belonging.{IsDisjoint, region_of}
use Rattle.region_map.specs.Platforms.{region_at}
use Rattle.label_table.specs.Wholes.{all_ready, any_label, any_read_only, is_doubled, is_whole, labels_with, leading_among, leading_label}
use Rattle.label_table.specs.Spaces.{Space, is_pending, space, space_if, space_of}
use Rattle.label_table.specs.Fates.{held_count, is_dead, is_held, is_of_namespace, is_stale, is_unfinished, is_whole_in, kept_count, spare, without_slot}
use Rattle.label_table.specs.Flips.{ReplacesOne}
use Rattle.label_table.specs.Tables.{changed_at, state, table, with_changed_namespace}
use Rattle.label_table.proofs.ListTests.{uuid_is}
use Rattle.label_table.proofs.WholeUuids.{IsLed, region_of-belongs, whole-led}
use Rattle.label_table.proofs.Leaving.{label_if-some}
use Rattle.label_table.proofs.Confined.{ChangesOne, dead-else, held-else, kind-same, number-none, number-same, number-shared, pending-else, pending-other, slots-same, space-else, space-other, whole-count, whole-mine}
use Rattle.label_table.proofs.Equations.{by_index, by_index-changed, changed_at-same}

-- the labels of a namespace are neither dead nor held
module _ (P : Platform) (disjoint : IsDisjoint P) (L : Labels) (bounded : IsBounded L) (r : Region) (u : List ℕ) (in_P : Contains P.regions r) (w : is_whole L r u ≡ true)
    (x : Member) (in_x : Contains r.members x) where
  module _ (k : ℕ) (l : Label) (is : (L x.handle).at k ≡ Some l) (h : has u l ≡ true) where
    found : region_of P x.handle l ≡ Some r
    found = region_of-belongs P disjoint r x.handle l in_P (whole-mine r u L x w in_x bounded k l is h)

    uuid : l.uuid ≡ u
    uuid = sym (uuid_is u l.uuid h)

    pub whole-alive : is_dead P L x.handle l ≡ false
    whole-alive =
        let n : is_unfinished L l.uuid (region_of P x.handle l) ≡ false = (λ i. is_unfinished L (uuid i) (found i)) ∙ (λ i. all_ready r L && (not (w i) && not (is_doubled L r u))) ∙ and_right (all_ready r L) false refl in
        (λ i. is_stale P x.handle l && n i) ∙ and_right (is_stale P x.handle l) false refl

    pub whole-not_held : is_held P L x.handle l ≡ false
    whole-not_held =
        let n : is_of_namespace P L x.handle l ≡ true = (λ i. is_whole_in L (uuid i) (found i)) ∙ w in
        λ i. not (whole-alive i) && not (n i)

  pub kept-one : number (λ l. not (is_dead P L x.handle l)) (of_uuid u (L x.handle)) ≡ 1
  kept-one =
      number-same (λ l. not (is_dead P L x.handle l)) any_label (of_uuid u (L x.handle)) (λ k l is. let at = label_if-some (has u) _ l is in ap not (whole-alive k l at.0 at.1))
      ∙ whole-count r u L x w in_x

  pub held-none : (p : Label → Bool) → number (λ l. is_held P L x.handle l && p (without_slot l)) (of_uuid u (L x.handle)) ≡ 0
  held-none p = number-none _ (of_uuid u (L x.handle)) (λ k l is. let at = label_if-some (has u) _ l is in λ i. whole-not_held k l at.0 at.1 i && p (without_slot l))

module _ (P : Platform) (r : Region) (u : List ℕ) (z : Member) (L M : Labels) (c : ReplacesOne P r u z L M) where
  changes_one : ChangesOne P r u z.handle L M
  changes_one = record {
    disjoint = c.disjoint;
    region_in = c.region_in;
    member = z;
    member_in = c.member_in;
    handle_is = refl;
    confined = c.confined;
    mine = whole-mine r u L z c.whole c.member_in c.bounded;
    mine_after = whole-mine r u M z c.whole_after c.member_in c.bounded_after;
    few = (let t = whole-count r u L z c.whole c.member_in in omega arith);
    few_after = (let t = whole-count r u M z c.whole_after c.member_in in omega arith);
  }

  kept_same : (y : ℕ) → kept_count P M y ≡ kept_count P L y
  kept_same = number-shared P r u z.handle L M changes_one (λ m l. not (is_dead P L m l)) (λ m l. not (is_dead P M m l))
      (λ x in_x. kept-one P c.disjoint M c.bounded_after r u c.region_in c.whole_after x in_x ∙ sym (kept-one P c.disjoint L c.bounded r u c.region_in c.whole x in_x))
      (λ m l other. ap not (dead-else P r u z.handle L M changes_one m l other))

  held_same : (y : ℕ) (p : Label → Bool) → held_count P M y p ≡ held_count P L y p
  held_same y p = number-shared P r u z.handle L M changes_one (λ m l. is_held P L m l && p (without_slot l)) (λ m l. is_held P M m l && p (without_slot l))
      (λ x in_x. held-none P c.disjoint M c.bounded_after r u c.region_in c.whole_after x in_x p ∙ sym (held-none P c.disjoint L c.bounded r u c.region_in c.whole x in_x p))
      (λ m l other. ap (λ t. t && p (without_slot l)) (held-else P r u z.handle L M changes_one m l other)) y

  -- The namespace shows what it shows now, and all else is the same.
  pub replaced-state : (s : Space) → s.uuid ≡ u → space M r u ≡ Some s → state P M ≡ with_changed_namespace r s (is_pending M r u) (state P L)
  replaced-state s s_uuid s_is =
      let spaces : (i : ℕ) (v : List ℕ) → by_index P None (space M) i v ≡ changed_at r u (Some s) (by_index P None (space L)) i v = by_index-changed P None (space M) (space L) c.disjoint r u (Some s) c.region_in s_is
      (λ q v in_q other. ⊎_elim (λ d. space-else P r u z.handle L M changes_one q v in_q d) (λ d. space-other u z.handle L M c.confined q v d) other) in
      let pendings : (i : ℕ) (v : List ℕ) → by_index P false (is_pending M) i v ≡ changed_at r u (is_pending M r u) (by_index P false (is_pending L)) i v = by_index-changed P false (is_pending M) (is_pending L) c.disjoint r u (is_pending M r u) c.region_in refl
      (λ q v in_q other. ⊎_elim (λ d. pending-else P r u z.handle L M changes_one q v in_q d) (λ d. pending-other u z.handle L M c.confined q v d) other) in
      let spares : (m : ℕ) → spare P M m ≡ spare P L m = λ m. λ i. slots-same u z.handle L M c.confined m i - kept_same m i in
      (λ i. record {
        table = record { kind = λ m. kind-same u z.handle L M c.confined m i; spare = λ m. spares m i; held = λ m p. held_same m p i; space = λ n v. spaces n v i };
        pending = λ n v. pendings n v i;
      })
      ∙ (λ i. record { table = record { kind = λ m. (L m).kind; spare = spare P L; held = held_count P L; space = changed_at r (sym s_uuid i) (Some s) (by_index P None (space L)) }; pending = changed_at r (sym s_uuid i) (is_pending M r u) (by_index P false (is_pending L)) })

  -- Where it shows the same the table is kept,
  pub replaced-kept : space M r u ≡ space L r u → table P M ≡ table P L
  replaced-kept same =
      let found : region_at P r.index ≡ Some r = c.disjoint.indexes r c.region_in in
      let spaces : (i : ℕ) (v : List ℕ) → by_index P None (space M) i v ≡ changed_at r u (space L r u) (by_index P None (space L)) i v = by_index-changed P None (space M) (space L) c.disjoint r u (space L r u) c.region_in same
      (λ q v in_q other. ⊎_elim (λ d. space-else P r u z.handle L M changes_one q v in_q d) (λ d. space-other u z.handle L M c.confined q v d) other) in
      let back : changed_at r u (space L r u) (by_index P None (space L)) ≡ by_index P None (space L) = changed_at-same r u (space L r u) (by_index P None (space L)) (λ i. option_map_or (λ q. space L q u) (found i) None) in
      let all : (λ i v. by_index P None (space M) i v) ≡ by_index P None (space L) = (λ j i v. spaces i v j) ∙ back in
      let spares : (m : ℕ) → spare P M m ≡ spare P L m = λ m. λ i. slots-same u z.handle L M c.confined m i - kept_same m i in
      λ i. record { kind = λ m. kind-same u z.handle L M c.confined m i; spare = λ m. spares m i; held = λ m p. held_same m p i; space = all i }

  -- as where the module is not that of position 0, and no label is read-only.
  pub replaced-elsewhere : (x : Member) (xs : List Member) → r.members ≡ x ∷ xs → x.handle ≢ z.handle → any_read_only r (labels_with u L) ≡ false → any_read_only r (labels_with u M) ≡ false → table P M ≡ table P L
  replaced-elsewhere x xs members differ writes writes_after =
      let first_same : labels_with u M x.handle ≡ labels_with u L x.handle = ap (of_uuid u) (c.confined.others x.handle differ) in
      let leads : leading_label r (labels_with u M) ≡ leading_label r (labels_with u L) = (λ i. leading_among (members i) (labels_with u M)) ∙ ap first first_same ∙ sym (λ i. leading_among (members i) (labels_with u L)) in
      let flags : any_read_only r (labels_with u M) ≡ any_read_only r (labels_with u L) = writes_after ∙ sym writes in
      let led : IsLed r (labels_with u L) = whole-led r (labels_with u L) c.whole in
      replaced-kept ((λ i. space_if r (labels_with u M) (c.whole_after i) ((leads ∙ led.leads) i)) ∙ (λ i. Some (space_of r (flags i) led.lead)) ∙ sym led.space_is)
