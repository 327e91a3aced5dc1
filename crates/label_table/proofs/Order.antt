-- The namespaces of a region as a list: it has each of them once, in order, and so is one list.
use Rattle.std.proofs.Common.{◌≡◌, ◌≢◌, ◌⊎◌, inl, inr, ⊎_elim, ℕ, zero, suc, ◌<◌, Bool, true, false, cond, List, [], ◌∷◌, ◌++◌, Option, Some, None, refl, sym, ap, subst, ◌∙◌, arith}
use Rattle.std.specs.Cmp.{IsTotalOrder}
use Rattle.std.specs.Cmp.Lexicographic.{slice_cmp}
use Rattle.std.specs.declared.cmp.Ordering.{Ordering}
use Rattle.std.specs.declared.cmp.Ordering.TheVariants.{Less, Equal, Greater}
use Rattle.std.specs.List.{Contains}
use Rattle.std.specs.Option.{option_and_then, option_to_list}
use Rattle.std.specs.Ordering.{is_eq, is_lt, nat_cmp, ordering_reverse, ordering_then}
use Rattle.std.proofs.lemmas.Bool.{cases_eq}
use Rattle.std.proofs.lemmas.Cmp.{nat_cmp_total, nat_list_cmp_total, on_total, then_total}
use Rattle.std.proofs.lemmas.List.Elements.{Contains-append_left, Contains-push, Contains-push_cases}
use Rattle.std.proofs.lemmas.Map.Text.{is_eq-slice_cmp}
use Rattle.label_codec.specs.declared.label.Label.{Label}
use Rattle.label_codec.specs.ModuleLabels.{Labels, first_below, has, label_if}
use Rattle.label_codec.proofs.Counting.{IsFirst, Slots, first_below-cases}
use Rattle.region_map.specs.declared.platform.Member.{Member}
use Rattle.region_map.specs.declared.platform.Region.{Region}
use Rattle.label_table.specs.Wholes.{any_read_only, is_whole, labels_with, leading_among, leading_label}
use Rattle.label_table.specs.Spaces.{Space, space, space_if, space_of}
use Rattle.label_table.specs.Namespaces.{in_order, insert_space, space_cmp, spaces_below}
use Rattle.label_table.proofs.ListTests.{Contains-cases, Contains-here, Contains-none, Contains-there, both, none_some, some_is, uuid_is}
use Rattle.label_table.proofs.WholeUuids.{IsLed, whole-led}
use Rattle.label_table.proofs.Leaving.{label_if-some}

-- the order
space_total : IsTotalOrder space_cmp
space_total = then_total (on_total (λ (s : Space). s.offset) nat_cmp_total) (on_total (λ (s : Space). s.uuid) nat_list_cmp_total)

abbrev pub Before : Space → Space → Type 0
Before a b = is_lt (space_cmp a b) ≡ true

is_less : (o : Ordering) → is_lt o ≡ true → o ≡ Less
is_less Less e = refl
is_less Equal e = absurd cc
is_less Greater e = absurd cc

pub before-trans : (a b c : Space) → Before a b → Before b c → Before a c
before-trans a b c ab bc = ap is_lt (space_total.trans a b c (is_less _ ab) (is_less _ bc))

pub before-asym : {A : Type 0} (a b : Space) → Before a b → Before b a → A
before-asym a b ab ba = absurd (let e : Less ≡ Greater = sym (is_less _ ab) ∙ space_total.antisymm a b ∙ ap ordering_reverse (is_less _ ba) in cc)

then_equal : (a b : Ordering) → is_eq (ordering_then a b) ≡ true → is_eq b ≡ true
then_equal Less b e = absurd cc
then_equal Equal b e = e
then_equal Greater b e = absurd cc

pub before-total : (a b : Space) → b.uuid ≢ a.uuid → is_lt (space_cmp a b) ≡ false → Before b a
before-total a b differ n = by (space_cmp a b) refl n
  where
    by : (o : Ordering) → space_cmp a b ≡ o → is_lt o ≡ false → Before b a
    by Less e f = absurd cc
    by Equal e f = absurd (differ (sym (uuid_is a.uuid b.uuid (sym (is_eq-slice_cmp a.uuid b.uuid) ∙ then_equal (nat_cmp a.offset b.offset) (slice_cmp nat_cmp a.uuid b.uuid) (ap is_eq e)))))
    by Greater e f = ap is_lt (space_total.antisymm b a ∙ ap ordering_reverse e)

-- each stands before all that follow
abbrev pub Ascends : List Space → Type 0
Ascends [] = Unit {0}
Ascends (s ∷ ss) = ((t : Space) → Contains ss t → Before s t) × Ascends ss

-- no two have one uuid
abbrev pub AreDistinct : List Space → Type 0
AreDistinct [] = Unit {0}
AreDistinct (s ∷ ss) = ((t : Space) → Contains ss t → t.uuid ≢ s.uuid) × AreDistinct ss

pub insert_space-cases : (new : Space) (xs : List Space) (t : Space) → Contains (insert_space new xs) t → (t ≡ new) ⊎ Contains xs t
insert_space-cases new [] t c = ⊎_elim (λ e. inl e) (λ none. Contains-none t none) (Contains-cases new [] t c)
insert_space-cases new (x ∷ xs) t c = by (is_lt (space_cmp new x)) c (λ there. insert_space-cases new xs t there)
  where
    by : (b : Bool) → Contains (cond b (new ∷ x ∷ xs) (x ∷ insert_space new xs)) t → (Contains (insert_space new xs) t → (t ≡ new) ⊎ Contains xs t) → (t ≡ new) ⊎ Contains (x ∷ xs) t
    by true c rest = Contains-cases new (x ∷ xs) t c
    by false c rest = ⊎_elim (λ e. inr (subst (λ y. Contains (x ∷ xs) y) (sym e) (Contains-here x xs))) (λ there. ⊎_elim (λ e. inl e) (λ in_xs. inr (Contains-there x xs t in_xs)) (rest there)) (Contains-cases x (insert_space new xs) t c)

pub insert_space-new : (new : Space) (xs : List Space) → Contains (insert_space new xs) new
insert_space-new new [] = Contains-here new []
insert_space-new new (x ∷ xs) = by (is_lt (space_cmp new x)) (insert_space-new new xs)
  where
    by : (b : Bool) → Contains (insert_space new xs) new → Contains (cond b (new ∷ x ∷ xs) (x ∷ insert_space new xs)) new
    by true rest = Contains-here new (x ∷ xs)
    by false rest = Contains-there x (insert_space new xs) new rest

pub insert_space-old : (new : Space) (xs : List Space) (t : Space) → Contains xs t → Contains (insert_space new xs) t
insert_space-old new [] t c = Contains-none t c
insert_space-old new (x ∷ xs) t c = by (is_lt (space_cmp new x)) (λ there. insert_space-old new xs t there)
  where
    by : (b : Bool) → (Contains xs t → Contains (insert_space new xs) t) → Contains (cond b (new ∷ x ∷ xs) (x ∷ insert_space new xs)) t
    by true rest = Contains-there new (x ∷ xs) t c
    by false rest = ⊎_elim (λ e. subst (λ y. Contains (x ∷ insert_space new xs) y) (sym e) (Contains-here x (insert_space new xs))) (λ there. Contains-there x (insert_space new xs) t (rest there)) (Contains-cases x xs t c)

pub insert_space-ascends : (new : Space) (xs : List Space) → Ascends xs → ((t : Space) → Contains xs t → t.uuid ≢ new.uuid) → Ascends (insert_space new xs)
insert_space-ascends new [] a differ = (λ t none. Contains-none t none, tt)
insert_space-ascends new (x ∷ xs) a differ = by (is_lt (space_cmp new x)) refl (insert_space-ascends new xs a.1 (λ t there. differ t (Contains-there x xs t there)))
  where
    by : (b : Bool) → is_lt (space_cmp new x) ≡ b → Ascends (insert_space new xs) → Ascends (cond b (new ∷ x ∷ xs) (x ∷ insert_space new xs))
    by true e rest = (λ t c. ⊎_elim (λ is. subst (λ y. Before new y) (sym is) e) (λ there. before-trans new x t e (a.0 t there)) (Contains-cases x xs t c), a)
    by false e rest = (
      λ t c. ⊎_elim
          (λ is. subst (λ y. Before x y) (sym is) (before-total new x (differ x (Contains-here x xs)) e))
          (λ there. a.0 t there) (insert_space-cases new xs t c),
      rest,
    )

pub in_order-from : (xs : List Space) (t : Space) → Contains (in_order xs) t → Contains xs t
in_order-from [] t c = Contains-none t c
in_order-from (x ∷ xs) t c = ⊎_elim (λ e. subst (λ y. Contains (x ∷ xs) y) (sym e) (Contains-here x xs)) (λ there. Contains-there x xs t (in_order-from xs t there)) (insert_space-cases x (in_order xs) t c)

pub in_order-to : (xs : List Space) (t : Space) → Contains xs t → Contains (in_order xs) t
in_order-to [] t c = Contains-none t c
in_order-to (x ∷ xs) t c = ⊎_elim (λ e. subst (λ y. Contains (insert_space x (in_order xs)) y) (sym e) (insert_space-new x (in_order xs))) (λ there. insert_space-old x (in_order xs) t (in_order-to xs t there)) (Contains-cases x xs t c)

pub in_order-ascends : (xs : List Space) → AreDistinct xs → Ascends (in_order xs)
in_order-ascends [] d = tt
in_order-ascends (x ∷ xs) d = insert_space-ascends x (in_order xs) (in_order-ascends xs d.1) (λ t c. d.0 t (in_order-from xs t c))

-- lists in order that have the same are one list
pub one-list : (xs ys : List Space) → Ascends xs → Ascends ys → ((t : Space) → Contains xs t → Contains ys t) → ((t : Space) → Contains ys t → Contains xs t) → xs ≡ ys
one-list [] [] a b sub sup = refl
one-list [] (y ∷ ys) a b sub sup = Contains-none y (sup y (Contains-here y ys))
one-list (x ∷ xs) [] a b sub sup = Contains-none x (sub x (Contains-here x xs))
one-list (x ∷ xs) (y ∷ ys) a b sub sup = by (Contains-cases y ys x (sub x (Contains-here x xs))) (Contains-cases x xs y (sup y (Contains-here y ys)))
    (λ is. one-list xs ys a.1 b.1
    (λ t there. rest x xs y ys a (sym is) t there (sub t (Contains-there x xs t there)))
    (λ t there. rest y ys x xs b is t there (sup t (Contains-there y ys t there))))
  where
    rest : (x : Space) (xs : List Space) (y : Space) (ys : List Space) → Ascends (x ∷ xs) → y ≡ x → (t : Space) → Contains xs t → Contains (y ∷ ys) t → Contains ys t
    rest x xs y ys a is t there c = ⊎_elim (λ e. let before : Before x t = a.0 t there in before-asym x t before (subst (λ z. Before z x) (sym (e ∙ is)) (subst (λ z. Before x z) (e ∙ is) before))) (λ in_ys. in_ys) (Contains-cases y ys t c)

    by : (x ≡ y) ⊎ Contains ys x → (y ≡ x) ⊎ Contains xs y → (x ≡ y → xs ≡ ys) → (x ∷ xs) ≡ (y ∷ ys)
    by (inl e) q tails = let t : xs ≡ ys = tails e in λ i. e i ∷ t i
    by (inr x_in) (inl e) tails = let t : xs ≡ ys = tails (sym e) in λ i. sym e i ∷ t i
    by (inr x_in) (inr y_in) tails = before-asym x y (a.0 y y_in) (b.0 x x_in)

-- a namespace has its uuid
pub space-uuid : (L : Labels) (r : Region) (u : List ℕ) (s : Space) → space L r u ≡ Some s → s.uuid ≡ u
space-uuid L r u s is = elim (both (is_whole L r u)) [
  | inr n ↦ none_some (space L r u) (λ i. space_if r (labels_with u L) (n i) (leading_label r (labels_with u L))) is
  | inl w ↦
      let led : IsLed r (labels_with u L) = whole-led r (labels_with u L) w in
      let same : space_of r (any_read_only r (labels_with u L)) led.lead ≡ s = some_is (sym led.space_is ∙ is) in
      sym (ap (λ (t : Space). t.uuid) same) ∙ sym (uuid_is u led.lead.uuid (lead_has r.members led.lead led.leads))
]
  where
    lead_has : (ms : List Member) (l : Label) → leading_among ms (labels_with u L) ≡ Some l → has u l ≡ true
    lead_has [] l e = absurd cc
    lead_has (m ∷ ms) l e = by (first_below-cases (labels_with u L m.handle).at (L m.handle).slots) e
      where
        by : ((first_below (labels_with u L m.handle).at (L m.handle).slots ≡ None) × ((k : ℕ) → k < (L m.handle).slots → label_if (has u) ((L m.handle).at k) ≡ None))
            ⊎ ((a : Label) × (first_below (labels_with u L m.handle).at (L m.handle).slots ≡ Some a) × IsFirst (labels_with u L m.handle).at (L m.handle).slots a)
            → first_below (labels_with u L m.handle).at (L m.handle).slots ≡ Some l → has u l ≡ true
        by (inl none) e = none_some _ none.0 e
        by (inr found) e =
            let same : found.0 ≡ l = some_is (sym found.1 ∙ e) in
            subst (λ (a : Label). has u a ≡ true) same (label_if-some (has u) ((L m.handle).at found.2.slot) found.0 found.2.is).1

-- a namespace that comes from a label of position 0's module
pub record ComesFrom (L : Labels) (r : Region) (at : Slots) (n : ℕ) (s : Space) : Type 0 where
  pub slot : ℕ
  pub label : Label
  pub within : slot < n
  pub is : at slot ≡ Some label
  pub space_is : space L r label.uuid ≡ Some s

module _ (L : Labels) (r : Region) (at : Slots) where
  pub spaces_below-from : (n : ℕ) (s : Space) → Contains (spaces_below L r at n) s → ComesFrom L r at n s
  spaces_below-from zero s c = Contains-none s c
  spaces_below-from (suc n) s c = by (at n) refl c (λ there. spaces_below-from n s there)
    where
      more : ComesFrom L r at n s → ComesFrom L r at (suc n) s
      more f = record { slot = f.slot; label = f.label; within = (let lt : f.slot < n = f.within in omega arith); is = f.is; space_is = f.space_is }

      by : (o : Option Label) → at n ≡ o → Contains (spaces_below L r at n ++ option_to_list (option_and_then (λ (l : Label). space L r l.uuid) o)) s → (Contains (spaces_below L r at n) s → ComesFrom L r at n s) → ComesFrom L r at (suc n) s
      by None e c rest = more (rest (subst (λ xs. Contains xs s) (append_none (spaces_below L r at n)) c))
        where
          append_none : (xs : List Space) → (xs ++ []) ≡ xs
          append_none [] = refl
          append_none (x ∷ xs) = ap (λ ys. x ∷ ys) (append_none xs)
      by (Some l) e c rest = at_label (space L r l.uuid) refl c
        where
          append_none : (xs : List Space) → (xs ++ []) ≡ xs
          append_none [] = refl
          append_none (x ∷ xs) = ap (λ ys. x ∷ ys) (append_none xs)

          at_label : (o : Option Space) → space L r l.uuid ≡ o → Contains (spaces_below L r at n ++ option_to_list o) s → ComesFrom L r at (suc n) s
          at_label None d c = more (rest (subst (λ xs. Contains xs s) (append_none (spaces_below L r at n)) c))
          at_label (Some t) d c = ⊎_elim (λ there. more (rest there)) (λ is. record { slot = n; label = l; within = omega arith; is = e; space_is = d ∙ ap Some is }) (Contains-push_cases (spaces_below L r at n) t s c)

  pub spaces_below-to : (n : ℕ) (s : Space) → ComesFrom L r at n s → Contains (spaces_below L r at n) s
  spaces_below-to zero s f = absurd (let lt : f.slot < 0 = f.within in omega arith)
  spaces_below-to (suc n) s f = elim (cases_eq f.slot n) [
    | inl e ↦
        let is : at n ≡ Some f.label = subst (λ k. at k ≡ Some f.label) e f.is in
        subst (λ o. Contains (spaces_below L r at n ++ option_to_list (option_and_then (λ (l : Label). space L r l.uuid) o)) s) (sym is)
        (subst (λ o. Contains (spaces_below L r at n ++ option_to_list o) s) (sym f.space_is) (Contains-push (spaces_below L r at n) s))
    | inr differ ↦ Contains-append_left (spaces_below L r at n) _ s (spaces_below-to n s (record { slot = f.slot; label = f.label; within = (let lt : f.slot < suc n = f.within in omega arith); is = f.is; space_is = f.space_is }))
  ]

  -- where each uuid stands at most once, no two have one uuid
  pub spaces_below-distinct : (n : ℕ) → ((j k : ℕ) (a b : Label) (s t : Space) → j < n → k < n → at j ≡ Some a → at k ≡ Some b → space L r a.uuid ≡ Some s → space L r b.uuid ≡ Some t → a.uuid ≡ b.uuid → j ≡ k) → AreDistinct (spaces_below L r at n)
  spaces_below-distinct zero once = tt
  spaces_below-distinct (suc n) once = by (at n) refl (spaces_below-distinct n (λ j k a b s t j_lt k_lt. once j k a b s t (omega arith) (omega arith)))
    where
      push : (xs : List Space) (s : Space) → AreDistinct xs → ((t : Space) → Contains xs t → s.uuid ≢ t.uuid) → AreDistinct (xs ++ s ∷ [])
      push [] s d differ = (λ t none. Contains-none t none, tt)
      push (x ∷ xs) s d differ = (λ t c. ⊎_elim (λ there. d.0 t there) (λ is. subst (λ (y : Space). y.uuid ≢ x.uuid) is (differ x (Contains-here x xs))) (Contains-push_cases xs s t c), push xs s d.1 (λ t there. differ t (Contains-there x xs t there)))

      append_none : (xs : List Space) → AreDistinct xs → AreDistinct (xs ++ [])
      append_none [] d = d
      append_none (x ∷ xs) d = (λ t c. d.0 t (subst (λ ys. Contains ys t) (same xs) c), append_none xs d.1)
        where
          same : (xs : List Space) → (xs ++ []) ≡ xs
          same [] = refl
          same (x ∷ xs) = ap (λ ys. x ∷ ys) (same xs)

      by : (o : Option Label) → at n ≡ o → AreDistinct (spaces_below L r at n) → AreDistinct (spaces_below L r at n ++ option_to_list (option_and_then (λ (l : Label). space L r l.uuid) o))
      by None e d = append_none (spaces_below L r at n) d
      by (Some l) e d = at_label (space L r l.uuid) refl
        where
          at_label : (o : Option Space) → space L r l.uuid ≡ o → AreDistinct (spaces_below L r at n ++ option_to_list o)
          at_label None f = append_none (spaces_below L r at n) d
          at_label (Some s) f = push (spaces_below L r at n) s d (λ t c same.
              let from : ComesFrom L r at n t = spaces_below-from n t c in
              let uuids : l.uuid ≡ from.label.uuid = sym (space-uuid L r l.uuid s f) ∙ same ∙ space-uuid L r from.label.uuid t from.space_is in
              let lt : from.slot < n = from.within in
              let e_slot : n ≡ from.slot = once n from.slot l from.label s t (omega arith) (omega arith) e from.is f from.space_is uuids in
              omega arith)
