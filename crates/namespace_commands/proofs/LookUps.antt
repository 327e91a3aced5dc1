-- What look-ups in the state tell of why a create is refused, and of where it puts its namespace.
use Rattle.std.proofs.Common.{◌≡◌, ◌⊎◌, inl, inr, ℕ, zero, suc, ◌-◌, ◌^◌, ◌≤◌, ◌<◌, Bool, true, false, cond, List, [], ◌∷◌, map, find, length, min, Option, Some, None, refl, sym, ap, subst, ◌∙◌, arith}
use Rattle.std.specs.Prelude.{filter, if◌then◌else◌, is_some, nat_lt, option_map, slice_index_or}
use Rattle.std.specs.List.{list_any}
use Rattle.std.proofs.Math.Nat.{min-eq_left, min-eq_right}
use Rattle.std.proofs.lemmas.Bool.{cases_lt}
use Rattle.view_types.specs.declared.extents.Extent.{Extent}
use Rattle.view_types.specs.declared.namespaces.Namespace.{Namespace}
use Rattle.view_types.specs.declared.refusal.Refusal.TheVariants.{NameInUse, NoSlots, NoSpace, Unhealed}
use Rattle.view_types.specs.Intervals.{IsFirstFit, is_free}
use Rattle.label_codec.specs.ModuleLabels.{Labels}
use Rattle.region_map.specs.declared.platform.Member.{Member}
use Rattle.region_map.specs.declared.platform.Platform.{Platform}
use Rattle.region_map.specs.declared.platform.Region.{Region}
use Rattle.label_table.specs.Belonging.{member_at, no_member}
use Rattle.label_table.specs.Division.{AreFreeExtents, is_common_free, largest}
use Rattle.label_table.specs.Fates.{spare}
use Rattle.label_table.specs.Namespaces.{namespaces}
use Rattle.label_table.specs.Spaces.{Space, is_pending}
use Rattle.label_table.proofs.ListTests.{lt_from, lt_not}
use Rattle.region_labels.specs.Marks.{listed_in}
use Rattle.region_labels.specs.declared.positions.ModuleSpare.{ModuleSpare}
use Rattle.region_labels.specs.Named.{named_among, named_in}
use Rattle.region_labels.specs.Positions.{IsFirstWithoutSpare, spare_at}
use Rattle.region_labels.specs.ListedSpaces.{has_name, listed_spaces, shows_pending}
use Rattle.table_steps.specs.Create.{is_named, is_unnamed, name_in_use_in, no_space_in}
use Rattle.table_steps.specs.Refusals.{any_pending, first_below, no_slots_in, refused_if, unhealed_in}
use Rattle.namespace_commands.specs.Create.{first_named}

-- Lists.

pub find-map : {X Y : Type 0} (p : Y → Bool) (f : X → Y) (xs : List X) → find p (map f xs) ≡ option_map f (find (λ x. p (f x)) xs)
find-map p f [] = refl
find-map p f (x ∷ xs) = by (p (f x)) (find-map p f xs)
  where
    by : (b : Bool) → find p (map f xs) ≡ option_map f (find (λ x. p (f x)) xs) → cond b (Some (f x)) (find p (map f xs)) ≡ option_map f (cond b (Some x) (find (λ x. p (f x)) xs))
    by true rest = refl
    by false rest = rest

find-any : {X : Type 0} (p : X → Bool) (xs : List X) → is_some (find p xs) ≡ list_any p xs
find-any p [] = refl
find-any p (x ∷ xs) = by (p x) refl (find-any p xs)
  where
    by : (b : Bool) → p x ≡ b → is_some (find p xs) ≡ list_any p xs → is_some (find p (x ∷ xs)) ≡ list_any p (x ∷ xs)
    by true e rest = rw e refl
    by false e rest = rw e rest

map-some : {X Y : Type 0} (f : X → Y) (o : Option X) → is_some (option_map f o) ≡ is_some o
map-some f None = refl
map-some f (Some x) = refl

-- the first element that passes, by its index
find-at : {X : Type 0} (p : X → Bool) (xs : List X) (i : ℕ) (d : X) → i < length xs → p (slice_index_or xs i d) ≡ true → ((j : ℕ) → j < i → p (slice_index_or xs j d) ≡ false)
    → find p xs ≡ Some (slice_index_or xs i d)
find-at p [] i d lt passes before = absurd (omega arith)
find-at p (x ∷ xs) zero d lt passes before = λ k. cond (passes k) (Some x) (find p xs)
find-at p (x ∷ xs) (suc i) d lt passes before =
    let first : p x ≡ false = before 0 (omega arith) in
    (λ k. cond (first k) (Some x) (find p xs)) ∙ find-at p xs i d (omega arith) passes (λ j below. before (suc j) (omega arith))

find-nowhere : {X : Type 0} (p : X → Bool) (xs : List X) (d : X) → ((j : ℕ) → j < length xs → p (slice_index_or xs j d) ≡ false) → find p xs ≡ None
find-nowhere p [] d none = refl
find-nowhere p (x ∷ xs) d none =
    let first : p x ≡ false = none 0 (omega arith) in
    (λ k. cond (first k) (Some x) (find p xs)) ∙ find-nowhere p xs d (λ j below. none (suc j) (omega arith))

-- A namespace of a region is pending where the first such is found.
pub pending-told : {A : Type 0} (tell : Namespace → A) (L : Labels) (r : Region) → any_pending L r ≡ is_some (option_map tell (find shows_pending (listed_spaces L r)))
pending-told tell L r = sym (map-some tell (find shows_pending (listed_spaces L r))
    ∙ ap is_some (find-map shows_pending (listed_in L r) (namespaces L r))
    ∙ map-some (listed_in L r) (find (λ (s : Space). is_pending L r s.uuid) (namespaces L r))
    ∙ find-any (λ (s : Space). is_pending L r s.uuid) (namespaces L r))

-- The first module with too few spare slots is the one that a refusal names.
module _ (P : Platform) (L : Labels) (r : Region) (least : ℕ) where
  pub below-told : (found : Option ModuleSpare) → IsFirstWithoutSpare P L r least found → first_below P L least r ≡ option_map (λ (m : ModuleSpare). member_at r m.position) found
  below-told None all = find-nowhere (λ (x : Member). nat_lt (spare P L x.handle) least) r.members no_member (λ j below. lt_not (spare P L (member_at r j).handle) least (all j below))
  below-told (Some m) is =
      let few : spare_at P L r m.position < least = subst (λ n. n < least) is.spare_is is.few in
      find-at (λ (x : Member). nat_lt (spare P L x.handle) least) r.members m.position no_member is.within (lt_from (spare P L (member_at r m.position).handle) least few)
      (λ j before. lt_not (spare P L (member_at r j).handle) least (is.before j before))

  pub slots-told : (found : Option ModuleSpare) → IsFirstWithoutSpare P L r least found → no_slots_in P L least r ≡ option_map (λ (m : ModuleSpare). NoSlots m.dimm m.spare) found
  slots-told found is = ap (option_map (λ (x : Member). NoSlots x.handle (spare P L x.handle))) (below-told found is) ∙ by found is
    where
      by : (o : Option ModuleSpare) → IsFirstWithoutSpare P L r least o
          → option_map (λ (x : Member). NoSlots x.handle (spare P L x.handle)) (option_map (λ (m : ModuleSpare). member_at r m.position) o) ≡ option_map (λ (m : ModuleSpare). NoSlots m.dimm m.spare) o
      by None all = refl
      by (Some m) is = λ i. Some (NoSlots (sym is.dimm_is i) (sym is.spare_is i))

pub unhealed-told : (P : Platform) (L : Labels) (r : Region) (found : Option ModuleSpare) → IsFirstWithoutSpare P L r 1 found
    → unhealed_in P L r ≡ (if any_pending L r then option_map (λ (m : ModuleSpare). Unhealed m.dimm) found else None)
unhealed-told P L r found is = ap (λ o. if any_pending L r then option_map (λ (x : Member). Unhealed x.handle) o else None) (below-told P L r 1 found is) ∙ ap (λ o. if any_pending L r then o else None) (by found is)
  where
    by : (o : Option ModuleSpare) → IsFirstWithoutSpare P L r 1 o
        → option_map (λ (x : Member). Unhealed x.handle) (option_map (λ (m : ModuleSpare). member_at r m.position) o) ≡ option_map (λ (m : ModuleSpare). Unhealed m.dimm) o
    by None all = refl
    by (Some m) is = λ i. Some (Unhealed (sym is.dimm_is i))

-- The first namespace with a name is the one that a refusal names.
head-named : (n : Namespace) (ns : List Namespace) → first_named (named_among (n ∷ ns)) ≡ Some n.uuid
head-named n [] = refl
head-named n (m ∷ ns) = refl

named-first : (p : Namespace → Bool) (L : Labels) (r : Region) (ss : List Space) → first_named (named_among (filter p (map (listed_in L r) ss))) ≡ option_map (λ (s : Space). s.uuid) (find (λ (s : Space). p (listed_in L r s)) ss)
named-first p L r [] = refl
named-first p L r (s ∷ ss) = by (p (listed_in L r s)) refl (named-first p L r ss)
  where
    by : (b : Bool) → p (listed_in L r s) ≡ b → first_named (named_among (filter p (map (listed_in L r) ss))) ≡ option_map (λ (s : Space). s.uuid) (find (λ (s : Space). p (listed_in L r s)) ss)
        → first_named (named_among (filter p (map (listed_in L r) (s ∷ ss)))) ≡ option_map (λ (s : Space). s.uuid) (find (λ (s : Space). p (listed_in L r s)) (s ∷ ss))
    by true e rest = rw e (head-named (listed_in L r s) (filter p (map (listed_in L r) ss)))
    by false e rest = rw e rest

pub names-told : (L : Labels) (r : Region) (name : List ℕ) → name_in_use_in L name r ≡ (if is_unnamed name then None else option_map NameInUse (first_named (named_in L r name)))
names-told L r name = ap (λ o. if is_unnamed name then None else o) (twice (find (is_named name) (namespaces L r)) ∙ ap (option_map NameInUse) (sym (named-first (has_name name) L r (namespaces L r))))
  where
    twice : (o : Option Space) → option_map (λ (s : Space). NameInUse s.uuid) o ≡ option_map NameInUse (option_map (λ (s : Space). s.uuid) o)
    twice None = refl
    twice (Some s) = refl

-- The greatest size that is told is that of a refusal, since no size that is asked for is above 2^64 - 1.
pub space-told : (r : Region) (free : List Extent) (size told : ℕ) → size < 2 ^ 64 → told ≡ min (largest r free) (2 ^ 64 - 1) → no_space_in free size r ≡ refused_if (nat_lt told size) (NoSpace told)
space-told r free size told fits is = by (cases_lt (largest r free) size)
  where
    by : (largest r free < size) ⊎ (size ≤ largest r free) → no_space_in free size r ≡ refused_if (nat_lt told size) (NoSpace told)
    by (inl lt) =
        let same : told ≡ largest r free = is ∙ min-eq_left (omega (arith, lt, fits)) in
        λ i. refused_if (nat_lt (sym same i) size) (NoSpace (sym same i))
    by (inr le) =
        let none : nat_lt (largest r free) size ≡ false = lt_not (largest r free) size le in
        let enough : size ≤ told = subst (λ n. size ≤ n) (sym is) (least (cases_lt (largest r free) (2 ^ 64 - 1))) in
        let no_more : nat_lt told size ≡ false = lt_not told size enough in
        (λ i. refused_if (none i) (NoSpace (largest r free))) ∙ sym (λ i. refused_if (no_more i) (NoSpace told))
      where
        least : (largest r free < 2 ^ 64 - 1) ⊎ (2 ^ 64 - 1 ≤ largest r free) → size ≤ min (largest r free) (2 ^ 64 - 1)
        least (inl lt) = subst (λ n. size ≤ n) (sym (min-eq_left (omega (arith, lt)))) le
        least (inr ge) = subst (λ n. size ≤ n) (sym (min-eq_right ge)) (omega (arith, fits))

-- The first range among the free extents is the first that is common free.
pub fit-told : (P : Platform) (L : Labels) (r : Region) (free : List Extent) (len align at : ℕ) → AreFreeExtents P L r free → IsFirstFit (is_free free) len align at → IsFirstFit (is_common_free P L r) len align at
fit-told P L r free len align at are fits = subst (λ (f : ℕ → Bool). IsFirstFit f len align at) (λ i o. are.free_in o i) fits
