-- A namespace whose labels are all stale loses one of them.
use Rattle.std.proofs.Common.{◌≡◌, inl, inr, ⊎_elim, ℕ, ◌+◌, ◌≤◌, Bool, true, false, not, ◌&&◌, List, Some, None, refl, sym, ap, subst, ◌∙◌, arith}
use Rattle.std.specs.Prelude.{is_some}
use Rattle.std.specs.List.{Contains}
use Rattle.std.proofs.lemmas.Bool.{cases_eq, and_parts}
use Rattle.label_codec.specs.declared.label.Label.{Label}
use Rattle.label_codec.specs.ModuleLabels.{Labels, Module, has, number, of_uuid}
use Rattle.label_codec.proofs.Counting.{count-le}
use Rattle.region_map.specs.declared.platform.Member.{Member}
use Rattle.region_map.specs.declared.platform.Region.{Region}
use Rattle.region_map.specs.declared.platform.Platform.{Platform}
use Rattle.label_table.specs.Belonging.{region_of}
use Rattle.label_table.specs.Wholes.{all_ready, any_label, any_read_only, any_updating, is_doubled, is_whole, label_count, labels_with, leading_label}
use Rattle.label_table.specs.Spaces.{is_pending, space, space_if}
use Rattle.label_table.specs.Fates.{held_count, is_dead, is_held, is_of_namespace, is_stale, is_unfinished, is_whole_in, kept_count, spare, without_slot}
use Rattle.label_table.specs.Flips.{FreesOne, other_labels}
use Rattle.label_table.specs.Tables.{slot_of, state, without_namespace}
use Rattle.label_table.proofs.ListTests.{both, list_any-never, never, uuid_is}
use Rattle.label_table.proofs.WholeUuids.{dead-from, region_of-belongs}
use Rattle.label_table.proofs.Leaving.{label_if-some}
use Rattle.label_table.proofs.Confined.{ChangesOne, dead-else, held-else, kind-same, member-cases, number-away, number-none, number-rest, number-same, number-shared, number-split, doubled-else, pending-else, pending-other, ready-any, slots-same, space-else, space-other, whole-count, whole-mine}
use Rattle.label_table.proofs.Equations.{by_index-changed, slot_of-member, slot_of-other}

module _ (P : Platform) (r : Region) (u : List ℕ) (z : Member) (L M : Labels) (f : FreesOne P r u z L M) where
  none_after : label_count (labels_with u M) z.handle ≡ 0
  none_after = number-none any_label (of_uuid u (M z.handle)) (λ k l is. let at = label_if-some (has u) _ l is in never (has u l) at.1 (f.none k l at.0))

  pub changes_one : ChangesOne P r u z.handle L M
  changes_one = record {
    disjoint = f.disjoint;
    region_in = f.region_in;
    member = z;
    member_in = f.member_in;
    handle_is = refl;
    confined = f.confined;
    mine = whole-mine r u L z f.whole f.member_in f.bounded;
    mine_after = λ k l is h. never (has u l) h (f.none k l is);
    few = (let t = whole-count r u L z f.whole f.member_in in omega arith);
    few_after = (let t = none_after in omega arith);
  }

  not_whole : is_whole M r u ≡ false
  not_whole = elim (both (is_whole M r u)) [
    | inl t ↦ let a : label_count (labels_with u M) z.handle ≡ 1 = whole-count r u M z t f.member_in in let b = none_after in absurd (omega arith)
    | inr n ↦ n
  ]

  all_there : all_ready r L ≡ true
  all_there = (and_parts _ _ f.whole).0

  single : is_doubled L r u ≡ false
  single = list_any-never _ r.members (λ x in_x. let a : label_count (labels_with u L) x.handle ≡ 1 = whole-count r u L x f.whole in_x in rw a refl)

  single_after : is_doubled M r u ≡ false
  single_after = doubled-else P r u z.handle L M changes_one r u ∙ single

  there_after : all_ready r M ≡ true
  there_after = ready-any u z.handle L M f.confined r ∙ all_there

  -- the labels of the namespace
  module _ (x : Member) (in_x : Contains r.members x) (k : ℕ) (l : Label) (is : (L x.handle).at k ≡ Some l) (h : has u l ≡ true) where
    found : region_of P x.handle l ≡ Some r
    found = region_of-belongs P f.disjoint r x.handle l f.region_in (whole-mine r u L x f.whole in_x f.bounded k l is h)

    uuid : l.uuid ≡ u
    uuid = sym (uuid_is u l.uuid h)

    alive : is_dead P L x.handle l ≡ false
    alive =
        let s = f.stale x k l in_x is h in
        let n : is_unfinished L l.uuid (region_of P x.handle l) ≡ false = (λ i. is_unfinished L (uuid i) (found i)) ∙ (λ i. all_there i && (not (f.whole i) && not (is_doubled L r u))) in
        let stale : is_stale P x.handle l ≡ true = λ i. s.0 i && (not (s.1 i) && is_some (found i)) in
        λ i. stale i && n i

    not_held : is_held P L x.handle l ≡ false
    not_held =
        let n : is_of_namespace P L x.handle l ≡ true = (λ i. is_whole_in L (uuid i) (found i)) ∙ f.whole in
        λ i. not (alive i) && not (n i)

    dies : is_dead P M x.handle l ≡ true
    dies = let s = f.stale x k l in_x is h in dead-from P M x.handle l r u found uuid s.0 s.1 there_after not_whole single_after

    not_held_after : is_held P M x.handle l ≡ false
    not_held_after = λ i. not (dies i) && not (is_of_namespace P M x.handle l)

  -- a test that the namespace's labels do not pass, of those that stand
  left-none : (p : Label → Bool) (x : Member) → Contains r.members x → ((k : ℕ) (l : Label) → (L x.handle).at k ≡ Some l → has u l ≡ true → p l ≡ false) → number p (of_uuid u (M x.handle)) ≡ 0
  left-none p x in_x none = number-none p (of_uuid u (M x.handle)) (λ k l is. by k l (label_if-some (has u) _ l is))
    where
      by : (k : ℕ) (l : Label) → ((M x.handle).at k ≡ Some l) × (has u l ≡ true) → p l ≡ false
      by k l at = elim (cases_eq x.handle z.handle) [
        | inl e ↦ never (has u l) at.1 (f.none k l (subst (λ j. (M j).at k ≡ Some l) e at.0))
        | inr differ ↦ none k l (subst (λ (N : Module). N.at k ≡ Some l) (f.confined.others x.handle differ) at.0) at.1
      ]

  kept_less : (x : Member) → Contains r.members x → kept_count P L x.handle ≡ kept_count P M x.handle + 1
  kept_less x in_x =
      let split : number (λ l. not (is_dead P L x.handle l)) (L x.handle) ≡ number (λ l. not (is_dead P L x.handle l)) (of_uuid u (L x.handle)) + number (λ l. not (is_dead P L x.handle l)) (other_labels u (L x.handle)) = number-split u _ (L x.handle) in
      let split_after : number (λ l. not (is_dead P M x.handle l)) (M x.handle) ≡ number (λ l. not (is_dead P M x.handle l)) (of_uuid u (M x.handle)) + number (λ l. not (is_dead P M x.handle l)) (other_labels u (M x.handle)) = number-split u _ (M x.handle) in
      let rest : number (λ l. not (is_dead P M x.handle l)) (other_labels u (M x.handle)) ≡ number (λ l. not (is_dead P L x.handle l)) (other_labels u (L x.handle)) =
      number-rest P r u z.handle L M changes_one (λ l. not (is_dead P L x.handle l)) (λ l. not (is_dead P M x.handle l)) x.handle
      (λ l other. ap not (dead-else P r u z.handle L M changes_one x.handle l other)) in
      let none : number (λ l. not (is_dead P M x.handle l)) (of_uuid u (M x.handle)) ≡ 0 = left-none (λ l. not (is_dead P M x.handle l)) x in_x (λ k l is h. ap not (dies x in_x k l is h)) in
      let all : number (λ l. not (is_dead P L x.handle l)) (of_uuid u (L x.handle)) ≡ label_count (labels_with u L) x.handle =
      number-same (λ l. not (is_dead P L x.handle l)) any_label (of_uuid u (L x.handle)) (λ k l is. let at = label_if-some (has u) _ l is in ap not (alive x in_x k l at.0 at.1)) in
      let one_is : label_count (labels_with u L) x.handle ≡ 1 = whole-count r u L x f.whole in_x in
      omega arith

  pub freed-spare : (y : ℕ) → spare P M y ≡ spare P L y + slot_of r y
  freed-spare y = elim (member-cases r y) [
    | inl found ↦ subst (λ j. spare P M j ≡ spare P L j + slot_of r j) found.2 (more found.0 found.1)
    | inr away ↦
        let s : (M y).slots ≡ (L y).slots = slots-same u z.handle L M f.confined y in
        let t : kept_count P M y ≡ kept_count P L y =
        number-away P r u z.handle L M changes_one (λ l. not (is_dead P L y l)) (λ l. not (is_dead P M y l)) y
        (λ l other. ap not (dead-else P r u z.handle L M changes_one y l other)) (λ e. away.1 z f.member_in (sym e)) away.1 in
        let none : slot_of r y ≡ 0 = slot_of-other r y away.0 in
        omega arith
  ]
    where
      more : (x : Member) → Contains r.members x → spare P M x.handle ≡ spare P L x.handle + slot_of r x.handle
      more x in_x =
          let t : kept_count P L x.handle ≡ kept_count P M x.handle + 1 = kept_less x in_x in
          let s : (M x.handle).slots ≡ (L x.handle).slots = slots-same u z.handle L M f.confined x.handle in
          let b : kept_count P L x.handle ≤ (L x.handle).slots = count-le (λ l. not (is_dead P L x.handle l)) (L x.handle).at (L x.handle).slots in
          let one_slot : slot_of r x.handle ≡ 1 = slot_of-member r x in_x in
          omega arith

  freed-held : (y : ℕ) (p : Label → Bool) → held_count P M y p ≡ held_count P L y p
  freed-held y p = number-shared P r u z.handle L M changes_one (λ m l. is_held P L m l && p (without_slot l)) (λ m l. is_held P M m l && p (without_slot l))
      (λ x in_x. left-none (λ l. is_held P M x.handle l && p (without_slot l)) x in_x (λ k l is h. λ i. not_held_after x in_x k l is h i && p (without_slot l))
      ∙ sym (number-none _ (of_uuid u (L x.handle)) (λ k l is. let at = label_if-some (has u) _ l is in λ i. not_held x in_x k l at.0 at.1 i && p (without_slot l))))
      (λ m l other. ap (λ t. t && p (without_slot l)) (held-else P r u z.handle L M changes_one m l other)) y

  -- The namespace is gone, each module of its region has one slot more to spare, and all else is the same.
  pub freed-state : state P M ≡ without_namespace r u (state P L)
  freed-state =
      let spaces : (i : ℕ) (v : List ℕ) → _ = by_index-changed P None (space M) (space L) f.disjoint r u None f.region_in (λ i. space_if r (labels_with u M) (not_whole i) (leading_label r (labels_with u M)))
      (λ q v in_q other. ⊎_elim (λ d. space-else P r u z.handle L M changes_one q v in_q d) (λ d. space-other u z.handle L M f.confined q v d) other) in
      let pendings : (i : ℕ) (v : List ℕ) → _ = by_index-changed P false (is_pending M) (is_pending L) f.disjoint r u false f.region_in (λ i. not_whole i && (not (any_read_only r (labels_with u M)) && any_updating r (labels_with u M)))
      (λ q v in_q other. ⊎_elim (λ d. pending-else P r u z.handle L M changes_one q v in_q d) (λ d. pending-other u z.handle L M f.confined q v d) other) in
      λ i. record {
        table = record { kind = λ m. kind-same u z.handle L M f.confined m i; spare = λ m. freed-spare m i; held = λ m p. freed-held m p i; space = λ n v. spaces n v i };
        pending = λ n v. pendings n v i;
      }
