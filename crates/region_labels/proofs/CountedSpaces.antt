-- The namespaces of a region, counted by slots.
use Rattle.std.proofs.Common.{◌≡◌, ℕ, zero, suc, ◌+◌, ◌≤◌, ◌<◌, Bool, true, false, cond, List, [], ◌∷◌, ◌++◌, length, get_or, Option, Some, None, map, refl, sym, ap, subst, ◌∙◌, arith}
use Rattle.std.specs.Prelude.{count_by, find}
use Rattle.std.specs.List.Sorted.{IsPermutation}
use Rattle.std.specs.Option.{option_and_then, option_to_list}
use Rattle.std.specs.Ordering.{is_lt}
use Rattle.std.proofs.lemmas.List.{append-nil, length-map, length-append}
use Rattle.std.proofs.lemmas.List.Sorted.{IsPermutation-cons, IsPermutation-map, IsPermutation-middle, IsPermutation-refl, IsPermutation-sym, IsPermutation-trans, sum_by-IsPermutation, Contains-permutation}
use Rattle.std.proofs.lemmas.List.Sums.{count_by-le-length, sum_by-append, sum_by-cons}
use Rattle.std.proofs.lemmas.Map.Entries.{option_filter}
use Rattle.std.proofs.lemmas.Option.{none-some}
use Rattle.view_types.specs.declared.namespaces.Namespace.{Namespace}
use Rattle.label_codec.specs.declared.label.Label.{Label}
use Rattle.label_codec.specs.ModuleLabels.{Labels}
use Rattle.region_map.specs.declared.platform.Member.{Member}
use Rattle.region_map.specs.declared.platform.Region.{Region}
use Rattle.label_table.specs.Belonging.{member_at, no_member}
use Rattle.label_table.specs.Namespaces.{in_order, insert_space, namespaces, space_cmp, spaces_among, spaces_below, spaces_by_slot}
use Rattle.label_table.specs.Spaces.{Space, space}
use Rattle.label_table.proofs.ListTests.{some_is}
use Rattle.region_labels.specs.Marks.{listed_in}
use Rattle.region_labels.specs.declared.tallies.Tally.{Tally}
use Rattle.region_labels.specs.ListedSpaces.{listed_spaces}
use Rattle.region_labels.specs.Tallies.{IsFirstSuch, IsTally}
use Rattle.region_labels.proofs.Ordered.{first-found, first-same, first-stays, listed-rises}

insert-permutes : (new : Space) (xs : List Space) → IsPermutation (new ∷ xs) (insert_space new xs)
insert-permutes new [] = IsPermutation-refl (new ∷ [])
insert-permutes new (x ∷ xs) = by (is_lt (space_cmp new x)) (insert-permutes new xs)
  where
    by : (b : Bool) → IsPermutation (new ∷ xs) (insert_space new xs) → IsPermutation (new ∷ x ∷ xs) (cond b (new ∷ x ∷ xs) (x ∷ insert_space new xs))
    by true rest = IsPermutation-refl (new ∷ x ∷ xs)
    by false rest =
        IsPermutation-trans (new ∷ x ∷ xs) (x ∷ new ∷ xs) (x ∷ insert_space new xs)
        (IsPermutation-sym (x ∷ new ∷ xs) (new ∷ x ∷ xs) (IsPermutation-middle (x ∷ []) new xs))
        (IsPermutation-cons x (new ∷ xs) (insert_space new xs) rest)

order-permutes : (xs : List Space) → IsPermutation xs (in_order xs)
order-permutes [] = IsPermutation-refl []
order-permutes (x ∷ xs) =
    IsPermutation-trans (x ∷ xs) (x ∷ in_order xs) (insert_space x (in_order xs)) (IsPermutation-cons x xs (in_order xs) (order-permutes xs)) (insert-permutes x (in_order xs))

pub count-push : (p : Namespace → Bool) (ns : List Namespace) (n : Namespace) (b : Bool) → p n ≡ b → count_by p (ns ++ n ∷ []) ≡ count_by p ns + cond b 1 0
count-push p ns n b e =
    let one : count_by p (n ∷ []) ≡ cond (p n) 1 0 + count_by p [] = sum_by-cons (λ x. cond (p x) 1 0) n [] in
    let more : count_by p (ns ++ n ∷ []) ≡ count_by p ns + count_by p (n ∷ []) = sum_by-append (λ x. cond (p x) 1 0) ns (n ∷ []) in
    let none : count_by p [] ≡ 0 = refl in
    let here : cond {A = ℕ} (p n) 1 0 ≡ cond b 1 0 = ap (λ x. cond {A = ℕ} x 1 0) e in
    omega arith

-- One namespace more.
pub tally-passes : (p : Namespace → Bool) (ns : List Namespace) (n : Namespace) (tally : Tally) (first : Namespace) → IsTally p ns tally → p n ≡ true → IsFirstSuch p (ns ++ n ∷ []) first
    → IsTally p (ns ++ n ∷ []) (record { count = tally.count + 1; first = Some first })
tally-passes p ns n tally first is passes found = record {
  count = (let before = is.count in let more = count-push p ns n true passes in omega arith);
  first = found;
}

pub tally-fails : (p : Namespace → Bool) (ns : List Namespace) (n : Namespace) (tally : Tally) → IsTally p ns tally → p n ≡ false → IsTally p (ns ++ n ∷ []) tally
tally-fails p ns n tally is fails = record {
  count = (let before = is.count in let more = count-push p ns n false fails in omega arith);
  first = first-stays p ns n tally.first is.first fails;
}

module _ (L : Labels) (r : Region) where
  pub few-below : (at : ℕ → Option Label) (n : ℕ) → length (spaces_below L r at n) ≤ n
  few-below at zero = omega arith
  few-below at (suc n) =
      let below : length (spaces_below L r at n) ≤ n = few-below at n in
      let here : length (option_to_list (option_and_then (λ (l : Label). space L r l.uuid) (at n))) ≤ 1 = at_most (option_and_then (λ (l : Label). space L r l.uuid) (at n)) in
      let both : length (spaces_below L r at (suc n)) ≡ length (spaces_below L r at n) + length (option_to_list (option_and_then (λ (l : Label). space L r l.uuid) (at n))) = length-append (spaces_below L r at n) (option_to_list (option_and_then (λ (l : Label). space L r l.uuid) (at n))) in
      omega arith
    where
      at_most : (o : Option Space) → length (option_to_list o) ≤ 1
      at_most None = omega arith
      at_most (Some s) = omega arith

  pub tally-few : (p : Namespace → Bool) (at : ℕ → Option Label) (n : ℕ) (tally : Tally) → IsTally p (map (listed_in L r) (spaces_below L r at n)) tally → tally.count ≤ n
  tally-few p at n tally is =
      let count = is.count in
      let le = count_by-le-length p (map (listed_in L r) (spaces_below L r at n)) in
      let len = length-map (spaces_below L r at n) (listed_in L r) in
      let few = few-below at n in
      omega arith

  pub slots-of-first : 0 < length r.members → spaces_by_slot L r ≡ spaces_below L r (L (member_at r 0).handle).at (L (member_at r 0).handle).slots
  slots-of-first some = by r.members refl some
    where
      by : (ms : List Member) → r.members ≡ ms → 0 < length ms → spaces_among L r r.members ≡ spaces_below L r (L (member_at r 0).handle).at (L (member_at r 0).handle).slots
      by [] e lt = absurd (omega arith)
      by (x ∷ xs) e lt = ap (spaces_among L r) e ∙ ap (λ (m : Member). spaces_below L r (L m.handle).at (L m.handle).slots) (sym (ap (λ ms. get_or ms 0 no_member) e))

  pub none-without_members : length r.members ≡ 0 → spaces_by_slot L r ≡ []
  none-without_members none = by r.members none
    where
      by : (ms : List Member) → length ms ≡ 0 → spaces_among L r ms ≡ []
      by [] e = refl
      by (x ∷ xs) e = absurd (omega arith)

  -- What is counted by slots, in whatever order, is so of the list.
  permutes : IsPermutation (map (listed_in L r) (spaces_by_slot L r)) (listed_spaces L r)
  permutes = IsPermutation-map (listed_in L r) (spaces_by_slot L r) (namespaces L r) (order-permutes (spaces_by_slot L r))

  pub tally-count : (p : Namespace → Bool) (tally : Tally) → IsTally p (map (listed_in L r) (spaces_by_slot L r)) tally → tally.count ≡ count_by p (listed_spaces L r)
  tally-count p tally is = is.count ∙ sym (sum_by-IsPermutation (λ x. cond (p x) 1 0) (map (listed_in L r) (spaces_by_slot L r)) (listed_spaces L r) permutes)

  pub tally-first : (p : Namespace → Bool) (tally : Tally) → IsTally p (map (listed_in L r) (spaces_by_slot L r)) tally → tally.first ≡ find p (listed_spaces L r)
  tally-first p tally is =
      let by_slot = map (listed_in L r) (spaces_by_slot L r) in
      first-found p (listed_spaces L r) tally.first (listed-rises L r)
      (first-same p by_slot (listed_spaces L r) tally.first
      (λ t c. Contains-permutation by_slot (listed_spaces L r) t permutes c)
      (λ t c. Contains-permutation (listed_spaces L r) by_slot t (IsPermutation-sym by_slot (listed_spaces L r) permutes) c) is.first)

-- what a filter leaves passes, and what it takes away does not
pub filter-some : (p : Namespace → Bool) (space : Option Namespace) (n : Namespace) → Some n ≡ option_filter p space → (space ≡ Some n) × (p n ≡ true)
filter-some p None n is = absurd cc
filter-some p (Some s) n is = by (p s) refl
  where
    by : (b : Bool) → p s ≡ b → (Some s ≡ Some n) × (p n ≡ true)
    by true e = let same : n ≡ s = some_is (is ∙ ap (λ b. cond b (Some s) None) e) in (ap Some (sym same), ap p same ∙ e)
    by false e = absurd (none-some n (sym (is ∙ ap (λ b. cond b (Some s) None) e)))

pub tally-filtered : (p : Namespace → Bool) (ns : List Namespace) (space : Option Namespace) (tally : Tally) → None ≡ option_filter p space → IsTally p ns tally → IsTally p (ns ++ option_to_list space) tally
tally-filtered p ns None tally none is = subst (λ xs. IsTally p xs tally) (sym (append-nil ns)) is
tally-filtered p ns (Some n) tally none is = by (p n) refl
  where
    by : (b : Bool) → p n ≡ b → IsTally p (ns ++ n ∷ []) tally
    by true e = absurd (none-some n (none ∙ ap (λ b. cond b (Some n) None) e))
    by false e = tally-fails p ns n tally is e
