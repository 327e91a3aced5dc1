-- An area is initialised: what becomes of the table.
use Rattle.std.proofs.Common.{◌≡◌, ◌≢◌, inl, inr, ℕ, ◌+◌, ◌≤◌, Bool, true, false, not, ◌&&◌, cond, List, Some, None, refl, sym, ap, subst, ◌∙◌, arith}
use Rattle.std.specs.Prelude.{◌==◌, nat_lt}
use Rattle.std.specs.List.{Contains}
use Rattle.std.specs.Option.{option_map_or}
use Rattle.std.proofs.lemmas.Bool.{and_parts, cases_eq}
use Rattle.label_codec.specs.declared.label.Label.{Label}
use Rattle.label_codec.specs.declared.kind.AreaKind.TheVariants.{Ready}
use Rattle.label_codec.specs.ModuleLabels.{IsBounded, Labels, Module, has, is_ready, label_if, number, of_uuid}
use Rattle.label_codec.proofs.Counting.{count-le}
use Rattle.region_map.specs.declared.platform.Member.{Member}
use Rattle.region_map.specs.declared.platform.Region.{Region}
use Rattle.region_map.specs.declared.platform.Platform.{Platform}
use Rattle.label_table.specs.Belonging.{IsDisjoint}
use Rattle.region_map.specs.Platforms.{region_at}
use Rattle.label_table.specs.Fates.{held_count, is_dead, is_held, kept_count, spare, without_slot}
use Rattle.label_table.specs.Settling.{IsInitialised, settled, vanishes, with_ready_area}
use Rattle.label_table.specs.Spaces.{is_pending, space}
use Rattle.label_table.specs.Tables.{table}
use Rattle.label_table.specs.Wholes.{all_ready, any_label, is_doubled, is_whole, label_count, labels_with}
use Rattle.label_table.proofs.Confined.{number-none, number-same, whole-count}
use Rattle.label_table.proofs.Equations.{by_index-same}
use Rattle.label_table.proofs.ListTests.{both, eq_other, eq_same, list_all-at, list_all-from, list_any-same, never}
use Rattle.label_table.proofs.WholeUuids.{pending-same, space-same, whole-same}
use Rattle.label_table.proofs.Settled.{Settles, and_three, held-often, number-either, settled-held, settled-kept, stays_dead, vanishes-dead}

module _ (P : Platform) (disjoint : IsDisjoint P) (L M : Labels) (bounded : IsBounded L) (m slots : ℕ) (init : IsInitialised m slots L M) where
  none-left : (u : List ℕ) (N : Module) → ((k : ℕ) → N.at k ≡ None) → number any_label (of_uuid u N) ≡ 0
  none-left u N none = number-none any_label (of_uuid u N) (λ k l is. absurd (let e : label_if (has u) (N.at k) ≡ None = ap (label_if (has u)) (none k) in let d : Some l ≡ None = sym is ∙ e in cc))

  count-same_init : (u : List ℕ) (y : ℕ) → label_count (labels_with u M) y ≡ label_count (labels_with u L) y
  count-same_init u y = elim (cases_eq y m) [
    | inl e ↦ subst (λ j. label_count (labels_with u M) j ≡ label_count (labels_with u L) j) (sym e) (none-left u (M m) init.has_none ∙ sym (none-left u (L m) init.had_none))
    | inr differ ↦ ap (λ (N : Module). number any_label (of_uuid u N)) (init.others y differ)
  ]

  init-doubled : (r : Region) (u : List ℕ) → is_doubled M r u ≡ is_doubled L r u
  init-doubled r u = list_any-same _ _ r.members (λ x in_x. ap (nat_lt 1) (count-same_init u x.handle))

  away_ready : (r : Region) → all_ready r L ≡ true → (x : Member) → Contains r.members x → x.handle ≢ m
  away_ready r all x in_x e = let t : is_ready (L x.handle).kind ≡ true = list_all-at _ r.members x all in_x in never (is_ready (L m).kind) (subst (λ j. is_ready (L j).kind ≡ true) e t) init.was_not_ready

  away_whole : (r : Region) (u : List ℕ) → is_whole M r u ≡ true → (x : Member) → Contains r.members x → x.handle ≢ m
  away_whole r u w x in_x e =
      let t : label_count (labels_with u M) x.handle ≡ 1 = whole-count r u M x w in_x in
      let z : label_count (labels_with u M) m ≡ 0 = none-left u (M m) init.has_none in
      let s : label_count (labels_with u M) x.handle ≡ label_count (labels_with u M) m = ap (label_count (labels_with u M)) e in
      omega arith

  same_away : (r : Region) (u : List ℕ) → ((x : Member) → Contains r.members x → x.handle ≢ m) → (x : Member) → Contains r.members x → labels_with u M x.handle ≡ labels_with u L x.handle
  same_away r u away x in_x = ap (of_uuid u) (init.others x.handle (away x in_x))

  init-whole : (r : Region) (u : List ℕ) → is_whole M r u ≡ is_whole L r u
  init-whole r u = elim (both (is_whole L r u)) [
    | inl w ↦ whole-same r (labels_with u L) (labels_with u M) (same_away r u (away_ready r (and_parts _ _ w).0))
    | inr n ↦ elim (both (is_whole M r u)) [
      | inl w ↦ whole-same r (labels_with u L) (labels_with u M) (same_away r u (away_whole r u w))
      | inr o ↦ o ∙ sym n
    ]
  ]

  pub init-space : (r : Region) (u : List ℕ) → space M r u ≡ space L r u
  init-space r u = elim (both (is_whole L r u)) [
    | inl w ↦ space-same r (labels_with u L) (labels_with u M) (same_away r u (away_ready r (and_parts _ _ w).0))
    | inr n ↦ let o : is_whole M r u ≡ false = init-whole r u ∙ n in rw (o, n) refl
  ]

  pub init-pending : (r : Region) (u : List ℕ) → is_pending M r u ≡ is_pending L r u
  init-pending r u = elim (both (is_whole L r u)) [
    | inl w ↦ pending-same r (labels_with u L) (labels_with u M) (same_away r u (away_ready r (and_parts _ _ w).0))
    | inr n ↦ let o : is_whole M r u ≡ false = init-whole r u ∙ n in rw (o, n) refl
  ]

  ready_up : (r : Region) → all_ready r L ≡ true → all_ready r M ≡ true
  ready_up r all = list_all-from _ r.members (λ x in_x. ap (λ (N : Module). is_ready N.kind) (init.others x.handle (away_ready r all x in_x)) ∙ list_all-at _ r.members x all in_x)

  kinds_are : (y : ℕ) → (with_ready_area m slots (table P L)).kind y ≡ (M y).kind
  kinds_are y = elim (cases_eq y m) [
    | inl e ↦ (let t : (y == m) ≡ true = eq_same y m e in (λ i. cond (t i) Ready (L y).kind) ∙ sym init.is_now ∙ (λ i. (M (sym e i)).kind))
    | inr differ ↦ (let f : (y == m) ≡ false = eq_other y m differ in (λ i. cond (f i) Ready (L y).kind) ∙ sym (ap (λ (N : Module). N.kind) (init.others y differ)))
  ]

  space_table : (r : Region) (u : List ℕ) → Contains P.regions r → (table P L).space r.index u ≡ space L r u
  space_table r u in_P = let found : region_at P r.index ≡ Some r = disjoint.indexes r in_P in λ i. option_map_or (λ q. space L q u) (found i) None

  init-settles : Settles P L M (with_ready_area m slots (table P L))
  init-settles = record {
    whole = λ r u in_P. init-whole r u;
    dies = stays_dead P L M ready_up (λ r u in_P. init-whole r u) (λ r u t. sym (init-doubled r u) ∙ t);
    vanish = vanishes-dead P disjoint M (with_ready_area m slots (table P L)) kinds_are (λ r u in_P. space_table r u in_P ∙ sym (init-space r u))
        (λ r u. list_any-same _ _ r.members (λ x in_x. held-often P L bounded u x.handle) ∙ sym (init-doubled r u));
  }

  init-held : (y : ℕ) (p : Label → Bool) → held_count P M y p ≡ held_count P L y (λ l. not (vanishes P (with_ready_area m slots (table P L)) y l) && p l)
  init-held y p = elim (cases_eq y m) [
    | inl e ↦ subst (λ j. held_count P M j p ≡ held_count P L j (λ l. not (vanishes P (with_ready_area m slots (table P L)) j l) && p l)) (sym e)
        (number-none _ (M m) (λ k l is. absurd (let d : Some l ≡ None = sym is ∙ init.has_none k in cc)) ∙ sym (number-none _ (L m) (λ k l is. absurd (let d : Some l ≡ None = sym is ∙ init.had_none k in cc))))
    | inr differ ↦
        ap (number (λ l. is_held P M y l && p (without_slot l))) (init.others y differ)
        ∙ number-same (λ l. is_held P M y l && p (without_slot l)) (λ l. is_held P L y l && (not (vanishes P (with_ready_area m slots (table P L)) y l) && p (without_slot l))) (L y)
        (λ k l is. (λ i. settled-held P L M (with_ready_area m slots (table P L)) init-settles y l i && p (without_slot l)) ∙ and_three (is_held P L y l) (not (vanishes P (with_ready_area m slots (table P L)) y l)) (p (without_slot l)))
  ]

  init-spare : (y : ℕ) → spare P M y ≡ (cond (y == m) slots (spare P L y)) + held_count P L y (vanishes P (with_ready_area m slots (table P L)) y)
  init-spare y = elim (cases_eq y m) [
    | inl e ↦
        let t : (y == m) ≡ true = eq_same y m e in
        let none : kept_count P M y ≡ 0 = subst (λ j. kept_count P M j ≡ 0) (sym e) (number-none _ (M m) (λ k l is. absurd (let d : Some l ≡ None = sym is ∙ init.has_none k in cc))) in
        let left : held_count P L y (vanishes P (with_ready_area m slots (table P L)) y) ≡ 0 = subst (λ j. held_count P L j (vanishes P (with_ready_area m slots (table P L)) j) ≡ 0) (sym e) (number-none _ (L m) (λ k l is. absurd (let d : Some l ≡ None = sym is ∙ init.had_none k in cc))) in
        let size : (M y).slots ≡ slots = (λ i. (M (e i)).slots) ∙ init.slots_are in
        let here : cond {A = ℕ} (y == m) slots (spare P L y) ≡ slots = λ i. cond {A = ℕ} (t i) slots (spare P L y) in
        omega arith
    | inr differ ↦
        let f : (y == m) ≡ false = eq_other y m differ in
        let same : M y ≡ L y = init.others y differ in
        let size : (M y).slots ≡ (L y).slots = ap (λ (N : Module). N.slots) same in
        let kept : kept_count P L y ≡ number (λ l. not (is_dead P M y l)) (L y) + held_count P L y (vanishes P (with_ready_area m slots (table P L)) y) =
        number-either (λ l. not (is_dead P L y l)) (λ l. not (is_dead P M y l)) (λ l. is_held P L y l && vanishes P (with_ready_area m slots (table P L)) y l) (L y) (λ k l is. settled-kept P L M (with_ready_area m slots (table P L)) init-settles y l) in
        let after : kept_count P M y ≡ number (λ l. not (is_dead P M y l)) (L y) = ap (number (λ l. not (is_dead P M y l))) same in
        let few : kept_count P L y ≤ (L y).slots = count-le (λ l. not (is_dead P L y l)) (L y).at (L y).slots in
        let here : cond {A = ℕ} (y == m) slots (spare P L y) ≡ spare P L y = λ i. cond {A = ℕ} (f i) slots (spare P L y) in
        omega arith
  ]

  -- The table is that with the Ready area, settled.
  pub init-table : table P M ≡ settled P (with_ready_area m slots (table P L))
  init-table =
      let spaces : (i : ℕ) (u : List ℕ) → (table P M).space i u ≡ (table P L).space i u = by_index-same P None (space M) (space L) (λ r u in_P. init-space r u) in
      λ i. record { kind = λ y. sym (kinds_are y) i; spare = λ y. init-spare y i; held = λ y p. init-held y p i; space = λ n u. spaces n u i }
