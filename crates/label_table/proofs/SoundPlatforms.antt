-- The platform of a table is disjoint.
use Rattle.std.proofs.Common.{◌≡◌, ◌⊎◌, inl, inr, ℕ, suc, ◌+◌, ◌≤◌, ◌<◌, true, false, cond, List, [], ◌∷◌, length, find, Option, Some, None, refl, sym, ap, subst, ◌∙◌, arith}
use Rattle.std.specs.Prelude.{◌==◌, AllPairs, slice_index_or}
use Rattle.std.specs.List.{Contains}
use Rattle.std.proofs.lemmas.Bool.{cases_eq, cases_lt}
use Rattle.view_types.specs.declared.rule.Rule.{Rule}
use Rattle.region_map.specs.declared.platform.Member.{Member}
use Rattle.region_map.specs.declared.platform.Region.{Region}
use Rattle.region_map.specs.declared.platform.Platform.{Platform}
use Rattle.region_map.specs.Platforms.{IsSound, region_at}
use Rattle.region_map.specs.Sound.{IsUsable}
use Rattle.region_map.proofs.Disjoint.{disjoint, unusable_region, usable_region}
use Rattle.region_map.proofs.Ordered.{ordered}
use Rattle.label_table.specs.Belonging.{IsDisjoint, member_at, no_member}
use Rattle.label_table.proofs.ListTests.{Contains-cases, Contains-none, eq_other, eq_same, some_is}

-- where indexes ascend, the first region with an index is the only one
first_index : (rs : List Region) → AllPairs (λ (a b : Region). a.index < b.index) rs → (r : Region) → Contains rs r → find (λ (q : Region). q.index == r.index) rs ≡ Some r
first_index [] pairs r c = Contains-none r c
first_index (x ∷ xs) pairs r c = by (Contains-cases x xs r c) (λ there. first_index xs (λ i j d lt j_lt. pairs (suc i) (suc j) d (omega arith) (omega arith)) r there)
  where
    by : (r ≡ x) ⊎ Contains xs r → (Contains xs r → find (λ (q : Region). q.index == r.index) xs ≡ Some r) → cond (x.index == r.index) (Some x) (find (λ (q : Region). q.index == r.index) xs) ≡ Some r
    by (inl is) rest =
        let same : (x.index == r.index) ≡ true = eq_same x.index r.index (ap (λ (q : Region). q.index) (sym is)) in
        (λ i. cond (same i) (Some x) (find (λ (q : Region). q.index == r.index) xs)) ∙ ap Some (sym is)
    by (inr there) rest =
        let at : x.index < (slice_index_or xs there.0 r).index = pairs 0 (suc there.0) r (omega arith) (let lt : there.0 < length xs = there.1 in omega arith) in
        let below : x.index < r.index = subst (λ (q : Region). x.index < q.index) there.2 at in
        let differ : (x.index == r.index) ≡ false = eq_other x.index r.index (λ e. omega arith) in
        (λ i. cond (differ i) (Some x) (find (λ (q : Region). q.index == r.index) xs)) ∙ rest there

pub sound-disjoint : (P : Platform) → IsSound P → IsDisjoint P
sound-disjoint P sound = record { indexes = indexes; positions = positions; bytes = bytes }
  where
    indexes : (r : Region) → Contains P.regions r → region_at P r.index ≡ Some r
    indexes r in_P = first_index P.regions (ordered P sound) r in_P

    positions : (r : Region) (i j : ℕ) → Contains P.regions r → i < length r.members → j < length r.members → (member_at r i).handle ≡ (member_at r j).handle → i ≡ j
    positions r i j in_P i_lt j_lt same = by r.rule refl
      where
        by : (o : Option Rule) → r.rule ≡ o → i ≡ j
        by (Some rule) e = absurd (let none : length r.members ≡ 0 = ap length (unusable_region P r rule sound in_P e).members in omega arith)
        by None e =
            let usable : IsUsable P r = usable_region P r sound in_P e in
            elim (cases_eq i j) [
              | inl is ↦ is
              | inr differ ↦ elim (cases_lt i j) [
                | inl lt ↦ absurd (usable.modules i j no_member lt j_lt same)
                | inr le ↦ absurd (usable.modules j i no_member (omega arith) i_lt (sym same))
              ]
            ]

    bytes : (r q : Region) (a b : Member) → Contains P.regions r → Contains P.regions q → Contains r.members a → Contains q.members b → a.handle ≡ b.handle
        → (q ≡ r) ⊎ ((a.dpa_base + a.size ≤ b.dpa_base) ⊎ (b.dpa_base + b.size ≤ a.dpa_base))
    bytes r q a b in_r in_q a_in b_in same = elim (cases_eq r.index q.index) [
      | inl e ↦ inl (some_is (sym (indexes q in_q) ∙ (λ i. region_at P (sym e i)) ∙ indexes r in_r))
      | inr differ ↦ inr ((disjoint P sound).each r q a b in_r in_q differ a_in b_in same)
    ]
