-- Stale labels of a new namespace are added one by one.
use Rattle.std.proofs.Common.{◌≡◌, ◌⊎◌, inl, inr, ℕ, ◌+◌, ◌-◌, ◌≤◌, ◌<◌, Bool, true, false, not, ◌&&◌, List, ◌∷◌, Option, Some, None, refl, sym, ap, subst, ◌∙◌, arith}
use Rattle.std.specs.Prelude.{◌||◌, ◌==◌, nat_lt}
use Rattle.std.specs.List.{Contains, list_all}
use Rattle.std.specs.Option.{option_map_or}
use Rattle.std.proofs.lemmas.Bool.{cases_eq, and_from}
use Rattle.label_codec.specs.declared.label.Label.{Label}
use Rattle.label_codec.specs.Flags.{is_read_only, is_updating}
use Rattle.label_codec.specs.ModuleLabels.{Labels, Module, first_below, has, label_if, number, one}
use Rattle.label_codec.proofs.Counting.{IsFirst, count-none, first_below-cases}
use Rattle.region_map.specs.declared.platform.Member.{Member}
use Rattle.region_map.specs.declared.platform.Region.{Region}
use Rattle.region_map.specs.declared.platform.Platform.{Platform}
use Rattle.label_table.specs.Belonging.{belongs, offset_in, region_of}
use Rattle.region_map.specs.Platforms.{region_at}
use Rattle.label_table.specs.Wholes.{agrees, all_ready, any_label, any_read_only, any_updating, has_one, has_size, is_doubled, is_whole, is_whole_after, label_count, labels_with, leading_among, leading_label}
use Rattle.label_table.specs.Spaces.{Space, is_pending, space}
use Rattle.label_table.specs.Fates.{is_dead}
use Rattle.label_table.specs.Flips.{AddsOne, AreAligned, ExactlyOne, FreesOne, IsConfined, LeavesOut, LeavesOutDead, LosesDead}
use Rattle.label_table.specs.Tables.{State, changed_at, slot_of, state, with_namespace, without_namespace}
use Rattle.label_table.proofs.ListTests.{both, eq_same, list_all-from, list_any-at, list_any-never, some_is, uuid_is}
use Rattle.label_table.proofs.WholeUuids.{dead-from, region_of-belongs}
use Rattle.label_table.proofs.Leaving.{label_if-some, held-kept, kept_count-kept, number-kept, pending-kept, space-kept}
use Rattle.label_table.proofs.Confined.{IsConfined-sym, kind-same, number-none, number-same, slots-same, whole-count}
use Rattle.label_table.proofs.Equations.{changed_at-same, changed_at-twice, state-same}
use Rattle.label_table.proofs.Losing.{freed-state}
use Rattle.label_table.specs.Fates.{is_held, without_slot}

-- Leaving out dead labels keeps the state.
pub left-state : (P : Platform) (L M : Labels) → LeavesOutDead P L M → state P M ≡ state P L
left-state P L M left = state-same P L M (record {
  kinds = left.leaves.kind;
  spares = λ m. λ i. left.leaves.slots m i - kept_count-kept P L M left m i;
  helds = λ m p. number-kept P L M left (λ l. is_held P L m l && p (without_slot l)) (λ l. is_held P M m l && p (without_slot l)) m
      (λ l. ap (λ t. t && p (without_slot l)) (held-kept P L M left m l)) (λ l d. rw d refl);
  spaces = λ r u here. space-kept P L M left r u here;
}) (λ r u here. pending-kept P L M left r u here)

-- With an aligned label in each of its modules a uuid is whole.
module _ (r : Region) (u : List ℕ) (at size : ℕ) (M : Labels) (all_there : all_ready r M ≡ true) (aligned : AreAligned r u at size M) (all : ExactlyOne r u M) where
  mine_once : (p : Label → Bool) (y : Member) → Contains r.members y → ((k : ℕ) (a : Label) → (M y.handle).at k ≡ Some a → has u a ≡ true → p a ≡ true) → (number p (labels_with u M y.handle) == 1) ≡ true
  mine_once p y in_y passes =
      let n : number p (labels_with u M y.handle) ≡ label_count (labels_with u M) y.handle =
      number-same p any_label (labels_with u M y.handle) (λ k a is. let found = label_if-some (has u) ((M y.handle).at k) a is in passes k a found.0 found.1) in
      eq_same (number p (labels_with u M y.handle)) 1 (n ∙ all y in_y)

  one_agrees : (l : Label) (y : Member) → Contains r.members y → offset_in r l ≡ at → has_one r l (labels_with u M) y ≡ true
  one_agrees l y in_y l_at =
      and_from _ _ (eq_same (label_count (labels_with u M) y.handle) 1 (all y in_y)) (mine_once (agrees r l y.handle) y in_y (λ k a is h.
      let m = aligned y k a in_y is h in and_from (belongs r y.handle a) _ m.0 (eq_same (offset_in r a) (offset_in r l) (m.1 ∙ sym l_at))))

  one_size : (l : Label) (y : Member) → Contains r.members y → l.raw_size ≡ size → has_size l (labels_with u M) y ≡ true
  one_size l y in_y l_size = mine_once (λ a. a.raw_size == l.raw_size) y in_y (λ k a is h. eq_same a.raw_size l.raw_size ((aligned y k a in_y is h).2 ∙ sym l_size))

  or_first : (a b : Bool) → a ≡ true → (a || b) ≡ true
  or_first a b e = rw e refl

  pub whole-aligned : (x : Member) (xs : List Member) → r.members ≡ x ∷ xs → is_whole M r u ≡ true
  whole-aligned x xs members = by (first_below-cases (labels_with u M x.handle).at (labels_with u M x.handle).slots)
    where
      in_x : Contains r.members x
      in_x = subst (λ ms. Contains ms x) (sym members) (0, omega arith, refl)

      by : ((first_below (labels_with u M x.handle).at (M x.handle).slots ≡ None) × ((k : ℕ) → k < (M x.handle).slots → label_if (has u) ((M x.handle).at k) ≡ None))
          ⊎ ((l : Label) × (first_below (labels_with u M x.handle).at (M x.handle).slots ≡ Some l) × IsFirst (labels_with u M x.handle).at (M x.handle).slots l) → is_whole M r u ≡ true
      by (inl none) =
          let t : label_count (labels_with u M) x.handle ≡ 1 = all x in_x in
          let z : label_count (labels_with u M) x.handle ≡ 0 = count-none any_label (labels_with u M x.handle).at (M x.handle).slots (λ k lt. ap (one any_label) (none.1 k lt)) in
          absurd (omega arith)
      by (inr found) =
          let first_at = found.2 in
          let here = label_if-some (has u) ((M x.handle).at first_at.slot) found.0 first_at.is in
          let m = aligned x first_at.slot found.0 in_x here.0 here.1 in
          let lead : leading_label r (labels_with u M) ≡ Some found.0 = ap (λ ms. leading_among ms (labels_with u M)) members ∙ found.1 in
          and_from (all_ready r M) _ all_there
          (ap (is_whole_after r (labels_with u M)) lead ∙ and_from (list_all (has_one r found.0 (labels_with u M)) r.members) _
          (list_all-from (has_one r found.0 (labels_with u M)) r.members (λ y in_y. one_agrees found.0 y in_y m.1))
          (or_first (list_all (has_size found.0 (labels_with u M)) r.members) _ (list_all-from (has_size found.0 (labels_with u M)) r.members (λ y in_y. one_size found.0 y in_y m.2))))

module _ (P : Platform) (r : Region) (u : List ℕ) (z : Member) (L M : Labels) (a : AddsOne P r u z L M) where
  -- While the uuid is not whole each of its labels is dead,
  all_dead : is_whole M r u ≡ false → (x : Member) (k : ℕ) (l : Label) → Contains r.members x → (M x.handle).at k ≡ Some l → has u l ≡ true → is_dead P M x.handle l ≡ true
  all_dead n x k l in_x is h =
      let s = a.stale x k l in_x is h in
      let found : region_of P x.handle l ≡ Some r = region_of-belongs P a.disjoint r x.handle l a.region_in (a.mine x k l in_x is h) in
      let d : is_doubled M r u ≡ false = list_any-never _ r.members (λ y in_y. let f : label_count (labels_with u M) y.handle ≤ 1 = a.few y in_y in grind arith) in
      dead-from P M x.handle l r u found (sym (uuid_is u l.uuid h)) s.0 s.1 a.all_there n d

  back : IsConfined u z.handle M L
  back = IsConfined-sym u z.handle L M a.confined

  -- so that L is M without one of them.
  left_out : is_whole M r u ≡ false → LeavesOut P M L
  left_out n = record { kind = kind-same u z.handle M L back; slots = slots-same u z.handle M L back; each = each }
    where
      drop_none : (o : Option Label) → ((l : Label) → o ≡ Some l → has u l ≡ false) → label_if (λ l. not (has u l)) o ≡ o
      drop_none None f = refl
      drop_none (Some l) f = let t : has u l ≡ false = f l refl in rw t refl

      rest_at : (k : ℕ) → (L z.handle).at k ≡ label_if (λ l. not (has u l)) ((M z.handle).at k)
      rest_at k = sym (drop_none ((L z.handle).at k) (a.none k)) ∙ ap (λ (N : Module). N.at k) back.rest

      here : (k : ℕ) (o : Option Label) → (M z.handle).at k ≡ o → ((L z.handle).at k ≡ (M z.handle).at k) ⊎ LosesDead P M L z.handle k
      here k None e = inl (rest_at k ∙ ap (label_if (λ l. not (has u l))) e ∙ sym e)
      here k (Some l) e = elim (both (has u l)) [
        | inl h ↦ inr (record { label = l; was = e; dead = all_dead n z k l a.member_in e h; gone = rest_at k ∙ ap (label_if (λ b. not (has u b))) e ∙ drops h })
        | inr f ↦ inl (rest_at k ∙ drop_none ((M z.handle).at k) (λ b is. subst (λ (c : Label). has u c ≡ false) (some_is (sym e ∙ is)) f))
      ]
        where
          drops : has u l ≡ true → label_if (λ b. not (has u b)) (Some l) ≡ None
          drops h = rw h refl

      each : (q k : ℕ) → ((L q).at k ≡ (M q).at k) ⊎ LosesDead P M L q k
      each q k = elim (cases_eq q z.handle) [
        | inl e ↦ subst (λ j. ((L j).at k ≡ (M j).at k) ⊎ LosesDead P M L j k) (sym e) (here k ((M z.handle).at k) refl)
        | inr differ ↦ inl (ap (λ (N : Module). N.at k) (back.others q differ))
      ]

  -- While a module lacks a label the state is kept.
  pub staged-kept : is_whole M r u ≡ false → state P M ≡ state P L
  staged-kept n = sym (left-state P M L (record { disjoint = a.disjoint; bounded = a.bounded; leaves = left_out n }))

  frees : is_whole M r u ≡ true → FreesOne P r u z M L
  frees w = record { disjoint = a.disjoint; bounded = a.bounded; region_in = a.region_in; member_in = a.member_in; confined = back; whole = w; stale = a.stale; none = a.none }

  -- the namespace is pending
  pending : is_whole M r u ≡ true → is_pending M r u ≡ true
  pending w =
      let writes : any_read_only r (labels_with u M) ≡ false = list_any-never _ r.members (λ x in_x.
      let none : number is_read_only (labels_with u M x.handle) ≡ 0 = number-none is_read_only (labels_with u M x.handle) (λ k l is. let at = label_if-some (has u) _ l is in (a.stale x k l in_x at.0 at.1).1) in
      ap (nat_lt 0) none) in
      let updates : any_updating r (labels_with u M) ≡ true = list_any-at _ r.members z a.member_in (
      let same : number is_updating (labels_with u M z.handle) ≡ label_count (labels_with u M) z.handle = number-same is_updating any_label (labels_with u M z.handle) (λ k l is. let at = label_if-some (has u) _ l is in (a.stale z k l a.member_in at.0 at.1).0) in
      ap (nat_lt 0) (same ∙ whole-count r u M z w a.member_in)) in
      λ i. w i && (not (writes i) && updates i)

  -- Once all have one the namespace stands, pending, and each module of its region has one slot less to spare.
  pub staged-gains : (s : Space) → is_whole M r u ≡ true → s.uuid ≡ u → space M r u ≡ Some s → state P M ≡ with_namespace r s (state P L)
  staged-gains s w s_uuid s_is =
      let less : state P L ≡ without_namespace r u (state P M) = freed-state P r u z M L (frees w) in
      gained (state P M) (state P L) less
      (space_in M ∙ s_is) (pending_in M ∙ pending w)
    where
      found : region_at P r.index ≡ Some r
      found = a.disjoint.indexes r a.region_in

      space_in : (N : Labels) → (state P N).table.space r.index u ≡ space N r u
      space_in N = λ i. option_map_or (λ q. space N q u) (found i) None

      pending_in : (N : Labels) → (state P N).pending r.index u ≡ is_pending N r u
      pending_in N = λ i. option_map_or (λ q. is_pending N q u) (found i) false

      gained : (after before : State) → before ≡ without_namespace r u after → after.table.space r.index u ≡ Some s → after.pending r.index u ≡ true → after ≡ with_namespace r s before
      gained after before less s_at p_at =
          let spaces : after.table.space ≡ changed_at r u (Some s) before.table.space = sym (changed_at-same r u (Some s) after.table.space s_at) ∙ sym (changed_at-twice r u (Some s) None after.table.space) ∙ sym (λ i. changed_at r u (Some s) (less i).table.space) in
          let pendings : after.pending ≡ changed_at r u true before.pending = sym (changed_at-same r u true after.pending p_at) ∙ sym (changed_at-twice r u true false after.pending) ∙ sym (λ i. changed_at r u true (less i).pending) in
          let spares : (m : ℕ) → after.table.spare m ≡ before.table.spare m - slot_of r m = λ m. let e : before.table.spare m ≡ after.table.spare m + slot_of r m = (λ i. (less i).table.spare m) in omega arith in
          let kinds : before.table.kind ≡ after.table.kind = (λ i. (less i).table.kind) in
          let helds : before.table.held ≡ after.table.held = (λ i. (less i).table.held) in
          (λ i. record { table = record { kind = sym kinds i; spare = λ m. spares m i; held = sym helds i; space = spaces i }; pending = pendings i })
          ∙ (λ i. record { table = record { kind = before.table.kind; spare = λ m. before.table.spare m - slot_of r m; held = before.table.held; space = changed_at r (sym s_uuid i) (Some s) before.table.space }; pending = changed_at r (sym s_uuid i) true before.pending })
