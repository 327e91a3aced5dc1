-- The namespaces that are sorted are the namespaces in their order.
use Rattle.std.proofs.Common.{◌≡◌, ⊎_elim, ℕ, suc, ◌≤◌, ◌<◌, Bool, true, false, cond, List, [], ◌∷◌, length, get_or, map, refl, sym, ap, subst, ◌∙◌, arith}
use Rattle.std.specs.Cmp.{IsTotalOrder, both_ways}
use Rattle.std.specs.List.{All, AllByRecursion, Contains, IsDistinct}
use Rattle.std.specs.List.Sorted.{IsPermutation, IsSortedByKey}
use Rattle.std.specs.Ordering.{is_lt}
use Rattle.std.specs.Str.{bytes_eq}
use Rattle.std.proofs.lemmas.List.{get_or-map, length-map}
use Rattle.std.proofs.lemmas.Cmp.{nat_cmp_total, nat_list_cmp_total, on_total, then_total}
use Rattle.std.proofs.lemmas.List.Elements.{All-cons, All-head, All-nil, All-tail}
use Rattle.std.proofs.lemmas.List.Sorted.{All-permutation, Contains-permutation, IsPermutation-cons, IsPermutation-map, IsPermutation-middle, IsPermutation-refl, IsPermutation-sym, IsPermutation-trans, ranks_by, sorted_far}
use Rattle.std.proofs.lemmas.Slice.Eq.{bytes_eq-Decides}
use Rattle.std.proofs.lemmas.Map.Keys.{IsDistinct-IsPermutation, IsDistinct-head, IsDistinct-tail}
use Rattle.view_types.specs.declared.namespaces.Namespace.{Namespace}
use Rattle.label_codec.specs.ModuleLabels.{Labels}
use Rattle.region_map.specs.declared.platform.Region.{Region}
use Rattle.label_table.specs.Namespaces.{in_order, insert_space, namespaces, space_cmp, spaces_by_slot}
use Rattle.label_table.specs.Spaces.{Space, space}
use Rattle.label_table.proofs.Listed.{namespaces-ascends, namespaces-from}
use Rattle.label_table.proofs.ListTests.{Contains-cases, Contains-here, Contains-none, Contains-there, some_is, uuid_differs, uuid_other}
use Rattle.label_table.proofs.Order.{Ascends, Before, before-asym, before-total, one-list}
use Rattle.region_labels.specs.Marks.{listed_in}
use Rattle.region_labels.specs.Namespaces.{key_cmp, space_key}
use Rattle.region_labels.specs.Statuses.{space_in}

insert_space-permutes : (new : Space) (xs : List Space) → IsPermutation (new ∷ xs) (insert_space new xs)
insert_space-permutes new [] = IsPermutation-refl (new ∷ [])
insert_space-permutes new (x ∷ xs) = by (is_lt (space_cmp new x)) (insert_space-permutes new xs)
  where
    by : (b : Bool) → IsPermutation (new ∷ xs) (insert_space new xs) → IsPermutation (new ∷ x ∷ xs) (cond b (new ∷ x ∷ xs) (x ∷ insert_space new xs))
    by true rest = IsPermutation-refl (new ∷ x ∷ xs)
    by false rest =
        IsPermutation-trans (new ∷ x ∷ xs) (x ∷ new ∷ xs) (x ∷ insert_space new xs)
        (IsPermutation-sym (x ∷ new ∷ xs) (new ∷ x ∷ xs) (IsPermutation-middle (x ∷ []) new xs))
        (IsPermutation-cons x (new ∷ xs) (insert_space new xs) rest)

in_order-permutes : (xs : List Space) → IsPermutation xs (in_order xs)
in_order-permutes [] = IsPermutation-refl []
in_order-permutes (x ∷ xs) =
    IsPermutation-trans (x ∷ xs) (x ∷ in_order xs) (insert_space x (in_order xs)) (IsPermutation-cons x xs (in_order xs) (in_order-permutes xs)) (insert_space-permutes x (in_order xs))

-- two have one uuid
abbrev same_uuid : Space → Space → Bool
same_uuid a b = bytes_eq a.uuid b.uuid

turned : (u v : List ℕ) → bytes_eq u v ≡ bytes_eq v u
turned u v = both_ways (bytes_eq u v) (bytes_eq v u) (turn u v) (turn v u)
  where
    turn : (u v : List ℕ) → bytes_eq u v ≡ true → bytes_eq v u ≡ true
    turn u v t = (bytes_eq-Decides v u).1 (sym ((bytes_eq-Decides u v).0 t))

each-from : (P : Space → Type 0) (xs : List Space) → ((t : Space) → Contains xs t → P t) → AllByRecursion P xs
each-from P [] each = tt
each-from P (x ∷ xs) each = (each x (Contains-here x xs), each-from P xs (λ t there. each t (Contains-there x xs t there)))

each-at : (P : Space → Type 0) (xs : List Space) (t : Space) → AllByRecursion P xs → Contains xs t → P t
each-at P [] t all c = Contains-none t c
each-at P (x ∷ xs) t all c = ⊎_elim (λ is. subst P (sym is) all.0) (λ there. each-at P xs t all.1 there) (Contains-cases x xs t c)

-- spaces in order of which two with one uuid are one
distinct : (xs : List Space) → Ascends xs → ((s t : Space) → Contains xs s → Contains xs t → s.uuid ≡ t.uuid → s ≡ t) → IsDistinct same_uuid xs
unfolding IsDistinct
distinct [] a one = tt
distinct (x ∷ xs) a one = (
  each-from (λ t. same_uuid x t ≡ false) xs (λ t there. uuid_differs x.uuid t.uuid (λ e.
      let same : x ≡ t = one x t (Contains-here x xs) (Contains-there x xs t there) (sym e) in
      before-asym x t (a.0 t there) (subst (λ y. Before y x) same (subst (λ y. Before x y) (sym same) (a.0 t there))))),
  distinct xs a.1 (λ s t in_s in_t e. one s t (Contains-there x xs s in_s) (Contains-there x xs t in_t) e),
)

-- no space is less than one before it
abbrev NeverFalls : List Space → Type 0
NeverFalls xs = (i j : ℕ) (d : Space) → i ≤ j → j < length xs → is_lt (space_cmp (get_or xs j d) (get_or xs i d)) ≡ false

ascends : (xs : List Space) → NeverFalls xs → IsDistinct same_uuid xs → Ascends xs
ascends [] far apart = tt
ascends (x ∷ xs) far apart = (
  λ t c.
      let differs : same_uuid x t ≡ false = each-at (λ y. same_uuid x y ≡ false) xs t (IsDistinct-head same_uuid x xs apart) c in
      let not_less : is_lt (space_cmp t x) ≡ false = subst (λ y. is_lt (space_cmp y x) ≡ false) c.2 (far 0 (suc c.0) t (omega arith) (omega (arith, c.1))) in
      before-total t x (λ e. uuid_other x.uuid t.uuid differs (sym e)) not_less,
  ascends xs (λ i j d le lt. far (suc i) (suc j) d (omega arith) (omega arith)) (IsDistinct-tail same_uuid x xs apart),
)

total : IsTotalOrder space_cmp
total = then_total (on_total (λ (s : Space). s.offset) nat_cmp_total) (on_total (λ (s : Space). s.uuid) nat_list_cmp_total)

abbrev no_namespace : Namespace
no_namespace = record { uuid = []; name = []; abstraction = []; sector = 0; offset = 0; length = 0; pending = false; read_only = false }

never-falls : (xs : List Namespace) → IsSortedByKey space_key key_cmp xs → NeverFalls (map space_in xs)
never-falls xs sorted i j d le lt =
    let len : length (map space_in xs) ≡ length xs = length-map xs space_in in
    let at_j : get_or (map space_in xs) j d ≡ space_in (get_or xs j no_namespace) = get_or-map space_in xs j no_namespace d (omega arith) in
    let at_i : get_or (map space_in xs) i d ≡ space_in (get_or xs i no_namespace) = get_or-map space_in xs i no_namespace d (omega arith) in
    (λ k. is_lt (space_cmp (at_j k) (at_i k))) ∙ sorted_far (λ a b. is_lt (space_cmp (space_in a) (space_in b))) (ranks_by total space_in) xs sorted i j no_namespace le (omega arith)

module _ (L : Labels) (r : Region) where
  back : (ss : List Space) → map space_in (map (listed_in L r) ss) ≡ ss
  back [] = refl
  back (s ∷ ss) = ap (λ ts. s ∷ ts) (back ss)

  listed-again : (xs : List Namespace) → All (λ n. listed_in L r (space_in n) ≡ n) xs → map (listed_in L r) (map space_in xs) ≡ xs
  listed-again [] all = refl
  listed-again (x ∷ xs) all =
      (λ i. All-head (λ n. listed_in L r (space_in n) ≡ n) x xs all i ∷ listed-again xs (All-tail (λ n. listed_in L r (space_in n) ≡ n) x xs all) i)

  listed-all : (ss : List Space) → All (λ n. listed_in L r (space_in n) ≡ n) (map (listed_in L r) ss)
  listed-all [] = All-nil (λ n. listed_in L r (space_in n) ≡ n)
  listed-all (s ∷ ss) = All-cons (λ n. listed_in L r (space_in n) ≡ n) (listed_in L r s) (map (listed_in L r) ss) refl (listed-all ss)

  pub sorted-namespaces : (xs : List Namespace) → IsPermutation (map (listed_in L r) (spaces_by_slot L r)) xs → IsSortedByKey space_key key_cmp xs → xs ≡ map (listed_in L r) (namespaces L r)
  sorted-namespaces xs permutes sorted =
      let ss = spaces_by_slot L r in
      let from_slots : IsPermutation ss (map space_in xs) = subst (λ ts. IsPermutation ts (map space_in xs)) (back ss) (IsPermutation-map space_in (map (listed_in L r) ss) xs permutes) in
      let from : IsPermutation (namespaces L r) (map space_in xs) = IsPermutation-trans (namespaces L r) ss (map space_in xs) (IsPermutation-sym ss (namespaces L r) (in_order-permutes ss)) from_slots in
      let apart : IsDistinct same_uuid (namespaces L r) = distinct (namespaces L r) (namespaces-ascends L r) (λ s t in_s in_t e. some_is (sym (namespaces-from L r s in_s) ∙ ap (space L r) e ∙ namespaces-from L r t in_t)) in
      let up : Ascends (map space_in xs) = ascends (map space_in xs) (never-falls xs sorted) (IsDistinct-IsPermutation same_uuid (λ a b. turned a.uuid b.uuid) (namespaces L r) (map space_in xs) from apart) in
      let same : map space_in xs ≡ namespaces L r = one-list (map space_in xs) (namespaces L r) up (namespaces-ascends L r)
      (λ t c. Contains-permutation (map space_in xs) (namespaces L r) t (IsPermutation-sym (namespaces L r) (map space_in xs) from) c)
      (λ t c. Contains-permutation (namespaces L r) (map space_in xs) t from c) in
      sym (listed-again xs (All-permutation (λ n. listed_in L r (space_in n) ≡ n) (map (listed_in L r) ss) xs permutes (listed-all ss))) ∙ ap (map (listed_in L r)) same

  pub unlisted : (ss : List Space) → map space_in (map (listed_in L r) ss) ≡ ss
  unlisted ss = back ss
