-- The namespaces that pass a test, as a list.
use Rattle.std.proofs.Common.{◌≡◌, ℕ, Bool, true, false, cond, List, [], ◌∷◌, length, Some, None, refl, sym, ap, ◌∙◌, arith}
use Rattle.std.specs.Prelude.{count_by, filter, find}
use Rattle.std.proofs.lemmas.List.Sums.{length-filter}
use Rattle.view_types.specs.declared.namespaces.Namespace.{Namespace}
use Rattle.region_labels.specs.declared.named.Named.TheVariants as shown
use Rattle.region_labels.specs.Named.{named_among}

-- none passes where none is found
pub filter-none : (p : Namespace → Bool) (ns : List Namespace) → None ≡ find p ns → filter p ns ≡ []
filter-none p [] e = refl
filter-none p (n ∷ ns) e = by (p n) e (λ rest. filter-none p ns rest)
  where
    by : (b : Bool) → None ≡ cond b (Some n) (find p ns) → (None ≡ find p ns → filter p ns ≡ []) → cond b (n ∷ filter p ns) (filter p ns) ≡ []
    by true f rest = absurd cc
    by false f rest = rest f

-- the first that passes is the one that is found
pub filter-first : (p : Namespace → Bool) (ns : List Namespace) (f : Namespace) → Some f ≡ find p ns → (others : List Namespace) × (filter p ns ≡ f ∷ others)
filter-first p [] f e = absurd cc
filter-first p (n ∷ ns) f e = by (p n) e (λ rest. filter-first p ns f rest)
  where
    by : (b : Bool) → Some f ≡ cond b (Some n) (find p ns) → (Some f ≡ find p ns → (others : List Namespace) × (filter p ns ≡ f ∷ others)) → (others : List Namespace) × (cond b (n ∷ filter p ns) (filter p ns) ≡ f ∷ others)
    by true g rest = (filter p ns, (let same : n ≡ f = cc in ap (λ x. x ∷ filter p ns) same))
    by false g rest = rest g

-- How those with a name are told.
module _ (p : Namespace → Bool) (ns : List Namespace) where
  pub named-none : None ≡ find p ns → shown.None ≡ named_among (filter p ns)
  named-none e = ap named_among (sym (filter-none p ns e))

  pub named-one : (f : Namespace) (count : ℕ) → Some f ≡ find p ns → count ≡ count_by p ns → count ≡ 1 → shown.One f ≡ named_among (filter p ns)
  named-one f count e is one = by (filter-first p ns f e).0 (filter-first p ns f e).1
    where
      by : (others : List Namespace) → filter p ns ≡ f ∷ others → shown.One f ≡ named_among (filter p ns)
      by [] g = ap named_among (sym g)
      by (x ∷ xs) g =
          let len = ap length g in
          let all = length-filter p ns in
          absurd (omega arith)

  pub named-several : (f : Namespace) (count : ℕ) → Some f ≡ find p ns → count ≡ count_by p ns → (count ≡ 1 → ⊥) → shown.Several count f ≡ named_among (filter p ns)
  named-several f count e is more = by (filter-first p ns f e).0 (filter-first p ns f e).1
    where
      by : (others : List Namespace) → filter p ns ≡ f ∷ others → shown.Several count f ≡ named_among (filter p ns)
      by [] g =
          let len = ap length g in
          let all = length-filter p ns in
          absurd (more (omega arith))
      by (x ∷ xs) g =
          let len = ap length g in
          let all = length-filter p ns in
          let same : count ≡ length (f ∷ x ∷ xs) = omega arith in
          ap (λ k. shown.Several k f) same ∙ ap named_among (sym g)
