-- The state behind a create, by what it shows; and the fewest spare slots.
use Rattle.std.proofs.Common.{◌≡◌, ◌≢◌, ◌⊎◌, inl, inr, ℕ, ◌≤◌, ◌<◌, true, false, List, [], ◌∷◌, length, min, refl, sym, subst, ◌∙◌, arith}
use Rattle.std.specs.List.{Contains, fold}
use Rattle.std.proofs.Math.Nat.{min-eq_left, min-eq_right, min-le_left, min-le_right}
use Rattle.std.proofs.lemmas.Bool.{cases_lt}
use Rattle.region_map.specs.declared.platform.Member.{Member}
use Rattle.region_map.specs.declared.platform.Region.{Region}
use Rattle.label_table.specs.Tables.{State, with_namespace}
use Rattle.label_table.proofs.ListTests.{Contains-cases, Contains-here, Contains-none, Contains-there}
use Rattle.table_steps.specs.declared.new_namespace.NewNamespace.{NewNamespace}
use Rattle.table_steps.specs.Changes.{least_among, least_spare}
use Rattle.table_steps.specs.Create.{made, with_made}
use Rattle.table_steps.proofs.Marks.{marked-is}

pub made-is : (a : NewNamespace) (r : Region) (offset : ℕ) (before after : State) → after.table ≡ (with_namespace r (made a r offset) before).table
    → ((v : List ℕ) → after.pending r.index v ≡ false) → ((i : ℕ) (v : List ℕ) → i ≢ r.index → after.pending i v ≡ before.pending i v) → after ≡ with_made a r offset before
made-is a r offset before after tables cleared others = marked-is r a.uuid true (with_namespace r (made a r offset) before).table before after tables cleared others

module _ (spare : ℕ → ℕ) where
  abbrev least_of : ℕ → List Member → ℕ
  least_of least xs = fold (λ (n : ℕ) (x : Member). min n (spare x.handle)) least xs

  least-start : (least : ℕ) (xs : List Member) → least_of least xs ≤ least
  least-start least [] = omega arith
  least-start least (x ∷ xs) =
      let rest : least_of (min least (spare x.handle)) xs ≤ min least (spare x.handle) = least-start (min least (spare x.handle)) xs in
      let le : min least (spare x.handle) ≤ least = min-le_left least (spare x.handle) in
      omega (arith, rest, le)

  least-all : (least : ℕ) (xs : List Member) (x : Member) → Contains xs x → least_of least xs ≤ spare x.handle
  least-all least [] x here = Contains-none x here
  least-all least (y ∷ ys) x here = by (Contains-cases y ys x here) (λ there. least-all (min least (spare y.handle)) ys x there)
    where
      by : (x ≡ y) ⊎ Contains ys x → (Contains ys x → least_of (min least (spare y.handle)) ys ≤ spare x.handle) → least_of least (y ∷ ys) ≤ spare x.handle
      by (inl is) rest =
          let first : least_of (min least (spare y.handle)) ys ≤ min least (spare y.handle) = least-start (min least (spare y.handle)) ys in
          let le : min least (spare y.handle) ≤ spare y.handle = min-le_right least (spare y.handle) in
          subst (λ (z : Member). least_of least (y ∷ ys) ≤ spare z.handle) (sym is) (omega (arith, first, le))
      by (inr there) rest = rest there

  -- it is the first number, or that of some module
  least-is : (least : ℕ) (xs : List Member) → (least_of least xs ≡ least) ⊎ ((x : Member) × Contains xs x × (least_of least xs ≡ spare x.handle))
  least-is least [] = inl refl
  least-is least (y ∷ ys) = by (least-is (min least (spare y.handle)) ys) (cases_lt least (spare y.handle))
    where
      by : (least_of (min least (spare y.handle)) ys ≡ min least (spare y.handle)) ⊎ ((x : Member) × Contains ys x × (least_of (min least (spare y.handle)) ys ≡ spare x.handle)) → (least < spare y.handle) ⊎ (spare y.handle ≤ least)
          → (least_of least (y ∷ ys) ≡ least) ⊎ ((x : Member) × Contains (y ∷ ys) x × (least_of least (y ∷ ys) ≡ spare x.handle))
      by (inr found) cases = inr (found.0, Contains-there y ys found.0 found.1, found.2)
      by (inl is) (inl lt) = inl (is ∙ min-eq_left (omega arith))
      by (inl is) (inr le) = inr (y, Contains-here y ys, is ∙ min-eq_right le)

  among-all : (xs : List Member) (x : Member) → Contains xs x → least_among spare xs ≤ spare x.handle
  among-all [] x here = Contains-none x here
  among-all (y ∷ ys) x here = elim (Contains-cases y ys x here) [
    | inl is ↦ subst (λ (z : Member). least_of (spare y.handle) ys ≤ spare z.handle) (sym is) (least-start (spare y.handle) ys)
    | inr there ↦ least-all (spare y.handle) ys x there
  ]

  among-is : (xs : List Member) → 0 < length xs → (x : Member) × Contains xs x × (least_among spare xs ≡ spare x.handle)
  among-is [] some = absurd (omega arith)
  among-is (y ∷ ys) some = elim (least-is (spare y.handle) ys) [
    | inl is ↦ (y, Contains-here y ys, is)
    | inr found ↦ (found.0, Contains-there y ys found.0 found.1, found.2)
  ]

pub least-le : (s : State) (r : Region) (x : Member) → Contains r.members x → least_spare s r ≤ s.table.spare x.handle
least-le s r x in_r = among-all s.table.spare r.members x in_r

pub least-one : (s : State) (r : Region) → 0 < length r.members → (x : Member) × Contains r.members x × (least_spare s r ≡ s.table.spare x.handle)
least-one s r some = among-is s.table.spare r.members some
