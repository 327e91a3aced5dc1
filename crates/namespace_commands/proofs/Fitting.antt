-- The namespaces of a region that fit a key, as look-ups tell them.
use Rattle.std.proofs.Common.{◌≡◌, inl, inr, ℕ, Bool, true, false, cond, List, [], ◌∷◌, map, find, length, Option, Some, None, refl, sym, ap, subst, ◌∙◌, arith}
use Rattle.std.specs.Prelude.{filter, if◌then◌else◌, nat_lt, option_map}
use Rattle.std.specs.List.{Contains}
use Rattle.std.specs.Option.{option_or}
use Rattle.std.specs.Str.{bytes_eq}
use Rattle.std.proofs.lemmas.List.{length-map}
use Rattle.view_types.specs.declared.namespaces.Namespace.{Namespace}
use Rattle.view_types.specs.declared.refusal.Refusal.{Refusal}
use Rattle.view_types.specs.declared.refusal.Refusal.TheVariants.{Ambiguous, NameInUse, ReadOnly, UnknownNamespace}
use Rattle.cmd_words.specs.declared.name_keys.NameKey.TheVariants.{Uuid, Name}
use Rattle.label_codec.specs.ModuleLabels.{Labels}
use Rattle.region_map.specs.declared.platform.Region.{Region}
use Rattle.label_table.specs.Namespaces.{namespaces}
use Rattle.label_table.specs.Spaces.{Space, space}
use Rattle.label_table.proofs.Listed.{namespaces-ascends, namespaces-from, namespaces-to}
use Rattle.label_table.proofs.ListTests.{Contains-cases, Contains-here, Contains-none, Contains-there, both, lt_from, never, none_some, some_is, uuid_is, uuid_same}
use Rattle.label_table.proofs.Order.{Ascends, before-asym, space-uuid}
use Rattle.region_labels.specs.Marks.{listed_in, namespace_at}
use Rattle.region_labels.specs.Statuses.{space_in}
use Rattle.region_labels.specs.declared.named.Named.{Named}
use Rattle.region_labels.specs.declared.named.Named.TheVariants as named
use Rattle.region_labels.specs.Named.{named_among, named_in}
use Rattle.region_labels.specs.ListedSpaces.{has_name, has_name_beside, listed_spaces}
use Rattle.table_steps.specs.Create.{is_unnamed}
use Rattle.table_steps.specs.Namespaces.{ambiguous_among, fits, fitting, read_only_among, unknown_among}
use Rattle.table_steps.specs.Refusals.{first_of, refused_if}
use Rattle.table_steps.specs.Rename.{is_other_named, name_taken_beside}
use Rattle.namespace_commands.proofs.LookUps.{find-map}

filter-nothing : {X : Type 0} (p : X → Bool) (xs : List X) → ((x : X) → Contains xs x → p x ≡ false) → filter p xs ≡ []
filter-nothing p [] fails = refl
filter-nothing p (x ∷ xs) fails =
    let here : p x ≡ false = fails x (Contains-here x xs) in
    (λ i. cond (here i) (x ∷ filter p xs) (filter p xs)) ∙ filter-nothing p xs (λ y there. fails y (Contains-there x xs y there))

filter-map : {X Y : Type 0} (p : Y → Bool) (f : X → Y) (xs : List X) → filter p (map f xs) ≡ map f (filter (λ x. p (f x)) xs)
filter-map p f [] = refl
filter-map p f (x ∷ xs) = by (p (f x)) (filter-map p f xs)
  where
    by : (b : Bool) → filter p (map f xs) ≡ map f (filter (λ x. p (f x)) xs) → cond b (f x ∷ filter p (map f xs)) (filter p (map f xs)) ≡ map f (cond b (x ∷ filter (λ x. p (f x)) xs) (filter (λ x. p (f x)) xs))
    by true rest = ap (λ ys. f x ∷ ys) rest
    by false rest = rest

module _ (L : Labels) (r : Region) where
  -- No uuid stands twice in the list, so at most one namespace has a uuid.
  only-uuid : (u : List ℕ) (s : Space) → space L r u ≡ Some s → (ss : List Space) → Ascends ss → ((t : Space) → Contains ss t → space L r t.uuid ≡ Some t) → Contains ss s → filter (fits (Uuid u)) ss ≡ s ∷ []
  only-uuid u s is [] a from c = Contains-none s c
  only-uuid u s is (t ∷ ts) a from c = by (bytes_eq u t.uuid) refl (λ there. only-uuid u s is ts a.1 (λ v d. from v (Contains-there t ts v d)) there)
    where
      same : bytes_eq u t.uuid ≡ true → t ≡ s
      same e = some_is (sym (from t (Contains-here t ts)) ∙ (λ i. space L r (sym (uuid_is u t.uuid e) i)) ∙ is)

      own : bytes_eq u s.uuid ≡ true
      own = ap (bytes_eq u) (space-uuid L r u s is) ∙ uuid_same u

      by : (b : Bool) → bytes_eq u t.uuid ≡ b → (Contains ts s → filter (fits (Uuid u)) ts ≡ s ∷ []) → cond b (t ∷ filter (fits (Uuid u)) ts) (filter (fits (Uuid u)) ts) ≡ s ∷ []
      by true e rest =
          let none : filter (fits (Uuid u)) ts ≡ [] = filter-nothing (fits (Uuid u)) ts (λ v d. elim (both (bytes_eq u v.uuid)) [
            | inr n ↦ n
            | inl f ↦
                let twin : v ≡ s = some_is (sym (from v (Contains-there t ts v d)) ∙ (λ i. space L r (sym (uuid_is u v.uuid f) i)) ∙ is) in
                let before = subst (λ (y : Space). Contains ts y) (twin ∙ sym (same e)) d in
                before-asym t t (a.0 t before) (a.0 t before)
          ]) in
          (λ i. same e i ∷ none i)
      by false e rest = elim (Contains-cases t ts s c) [
        | inl here ↦ never (bytes_eq u t.uuid) (ap (λ (y : Space). bytes_eq u y.uuid) (sym here) ∙ own) e
        | inr there ↦ rest there
      ]

  pub fitting-uuid : (u : List ℕ) (s : Space) → space L r u ≡ Some s → fitting L r (Uuid u) ≡ s ∷ []
  fitting-uuid u s is = only-uuid u s is (namespaces L r) (namespaces-ascends L r) (namespaces-from L r) (namespaces-to L r u s is)

  pub fitting-no_uuid : (u : List ℕ) → space L r u ≡ None → fitting L r (Uuid u) ≡ []
  fitting-no_uuid u none = filter-nothing (fits (Uuid u)) (namespaces L r) (λ t c. elim (both (bytes_eq u t.uuid)) [
    | inr n ↦ n
    | inl e ↦ none_some (space L r u) none ((λ i. space L r (uuid_is u t.uuid e i)) ∙ namespaces-from L r t c)
  ])

  -- What is found for a uuid is told so.
  abbrev pub named_by : Option Namespace → Named
  named_by None = named.None
  named_by (Some n) = named.One n

  pub uuid-fits : (u : List ℕ) (found : Option Namespace) → found ≡ namespace_at L r u → named_by found ≡ named_among (map (listed_in L r) (fitting L r (Uuid u)))
  uuid-fits u found is = ap named_by is ∙ by (space L r u) refl
    where
      by : (o : Option Space) → space L r u ≡ o → named_by (option_map (listed_in L r) o) ≡ named_among (map (listed_in L r) (fitting L r (Uuid u)))
      by None e = sym (ap (λ ss. named_among (map (listed_in L r) ss)) (fitting-no_uuid u e))
      by (Some s) e = sym (ap (λ ss. named_among (map (listed_in L r) ss)) (fitting-uuid u s e))

  pub name-fits : (name : List ℕ) → named_in L r name ≡ named_among (map (listed_in L r) (fitting L r (Name name)))
  name-fits name = ap named_among (filter-map (has_name name) (listed_in L r) (namespaces L r))

  -- How many fit, by what is told of them.
  abbrev told : List Space → Named
  told ss = named_among (map (listed_in L r) ss)

  one-is : {a b : Namespace} → named.One a ≡ named.One b → a ≡ b
  one-is e = cc

  count-is : {a b : Namespace} {n k : ℕ} → named.Several n a ≡ named.Several k b → n ≡ k
  count-is e = cc

  pub told-none : (ss : List Space) → told ss ≡ named.None → ss ≡ []
  told-none [] e = refl
  told-none (s ∷ []) e = absurd cc
  told-none (s ∷ t ∷ ss) e = absurd cc

  pub told-one : (ss : List Space) (n : Namespace) → told ss ≡ named.One n → ss ≡ space_in n ∷ []
  told-one [] n e = absurd cc
  told-one (s ∷ []) n e = λ i. space_in (one-is e i) ∷ []
  told-one (s ∷ t ∷ ss) n e = absurd cc

  -- what refuses a change of the namespaces that fit
  abbrev pub refused_among : List Space → Option Refusal
  refused_among ss = first_of (unknown_among ss ∷ ambiguous_among ss ∷ read_only_among ss ∷ [])

  pub refused-none : (ss : List Space) → told ss ≡ named.None → refused_among ss ≡ Some UnknownNamespace
  refused-none ss e = ap refused_among (told-none ss e)

  pub refused-several : (ss : List Space) (count : ℕ) (first : Namespace) → told ss ≡ named.Several count first → refused_among ss ≡ Some (Ambiguous count)
  refused-several [] count first e = absurd cc
  refused-several (s ∷ []) count first e = absurd cc
  refused-several (s ∷ t ∷ ss) count first e =
      let len : length (map (listed_in L r) (s ∷ t ∷ ss)) ≡ length (s ∷ t ∷ ss) = length-map (s ∷ t ∷ ss) (listed_in L r) in
      let several : nat_lt 1 (length (s ∷ t ∷ ss)) ≡ true = lt_from 1 (length (s ∷ t ∷ ss)) (omega arith) in
      (λ i. option_or (refused_if (several i) (Ambiguous (length (s ∷ t ∷ ss)))) (option_or (read_only_among (s ∷ t ∷ ss)) None))
      ∙ ap (λ n. Some (Ambiguous n)) (sym len ∙ count-is e)

  pub refused-read_only : (ss : List Space) (n : Namespace) → told ss ≡ named.One n → n.read_only ≡ true → refused_among ss ≡ Some (ReadOnly n.uuid)
  refused-read_only ss n e fixed = ap refused_among (told-one ss n e) ∙ (λ i. option_or (refused_if (fixed i) (ReadOnly n.uuid)) None)

  pub refused-not : (ss : List Space) (n : Namespace) → ss ≡ space_in n ∷ [] → n.read_only ≡ false → refused_among ss ≡ None
  refused-not ss n is free = ap refused_among is ∙ (λ i. option_or (refused_if (free i) (ReadOnly n.uuid)) None)

  -- another namespace has a name, or none
  pub taken-is : (name : List ℕ) (own : Namespace) → is_unnamed name ≡ false → (other : Option Namespace) → other ≡ find (has_name_beside name own.uuid) (listed_spaces L r)
      → name_taken_beside L r name (space_in own ∷ []) ≡ option_map (λ (n : Namespace). NameInUse n.uuid) other
  taken-is name own some other is =
      (λ i. if some i then None else option_map (λ (s : Space). NameInUse s.uuid) (find (is_other_named name own.uuid) (namespaces L r)))
      ∙ sym (ap (option_map (λ (n : Namespace). NameInUse n.uuid)) (is ∙ find-map (has_name_beside name own.uuid) (listed_in L r) (namespaces L r))
      ∙ twice (find (is_other_named name own.uuid) (namespaces L r)))
    where
      twice : (o : Option Space) → option_map (λ (n : Namespace). NameInUse n.uuid) (option_map (listed_in L r) o) ≡ option_map (λ (s : Space). NameInUse s.uuid) o
      twice None = refl
      twice (Some s) = refl

  pub taken-unnamed : (name : List ℕ) (own : Namespace) → is_unnamed name ≡ true → name_taken_beside L r name (space_in own ∷ []) ≡ None
  taken-unnamed name own none = λ i. if none i then None else option_map (λ (s : Space). NameInUse s.uuid) (find (is_other_named name own.uuid) (namespaces L r))
