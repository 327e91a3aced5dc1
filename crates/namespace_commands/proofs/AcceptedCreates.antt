-- What holds where nothing refuses a create in the state.
use Rattle.std.proofs.Common.{◌≡◌, ℕ, ◌+◌, ◌-◌, ◌/◌, Bool, true, false, not, cond, List, [], ◌∷◌, find, length, Option, Some, None, refl, sym, ap, subst, ◌∙◌, arith}
use Rattle.std.proofs.lemmas.List.Sums.{sum_by-cons}
use Rattle.std.specs.Prelude.{◌==◌, ◌||◌, count_by, if◌then◌else◌, nat_lt, option_map}
use Rattle.std.specs.List.{list_any}
use Rattle.std.specs.Option.{option_and_then, unwrap_or}
use Rattle.view_types.specs.declared.extents.Extent.{Extent}
use Rattle.view_types.specs.declared.refusal.Refusal.TheVariants.{Unhealed}
use Rattle.view_types.specs.Intervals.{IsFirstFit, NoneFits, is_free}
use Rattle.label_codec.specs.ModuleLabels.{Labels}
use Rattle.region_map.specs.declared.platform.Member.{Member}
use Rattle.region_map.specs.declared.platform.Platform.{Platform}
use Rattle.region_map.specs.declared.platform.Region.{Region}
use Rattle.region_map.specs.Platforms.{region_at}
use Rattle.label_table.specs.Division.{AreFreeExtents, alignment, is_common_free}
use Rattle.label_table.specs.Fates.{spare}
use Rattle.label_table.specs.Namespaces.{namespaces}
use Rattle.label_table.specs.Spaces.{Space, is_pending}
use Rattle.region_labels.specs.declared.modules.LoadedModule.{LoadedModule}
use Rattle.region_labels.specs.declared.modules.ModuleArea.{ModuleArea}
use Rattle.region_labels.specs.declared.modules.ModuleArea.TheVariants.{Missing, WrongSize, Uninit, Foreign, Ready}
use Rattle.label_codec.specs.ModuleLabels.{number}
use Rattle.label_table.specs.Fates.{is_dead}
use Rattle.region_labels.specs.Fates.{with_regions}
use Rattle.region_labels.specs.Held.{spare_in}
use Rattle.region_labels.specs.Modules as loaded
use Rattle.region_labels.specs.Modules.{is_of, module_in, module_or_missing}
use Rattle.label_table.proofs.ListTests.{eq_true, find-some, lt_from, never}
use Rattle.label_sets.specs.Lookups.{FitsFirst, FitsFirstIn, IsFitIn}
use Rattle.label_sets.specs.Sets.{StoredSets, labels_in, platform_in}
use Rattle.label_sets.specs.Staging.{OfRegion}
use Rattle.label_sets.specs.Views.{spare_if_ready}
use Rattle.recovery.specs.Recovery.{first_full, pending_count, unhealed_at}
use Rattle.cmd_words.specs.declared.parts.Change.TheVariants.{Create}
use Rattle.table_steps.specs.declared.new_namespace.NewNamespace.{NewNamespace}
use Rattle.table_steps.specs.Create.{AreFreeOf, create_refusals, made, part_length}
use Rattle.namespace_passes.specs.Staged.{new_space}
use Rattle.table_steps.specs.Refusals.{any_pending, first_below, first_of, unhealed_in}
use Rattle.table_steps.proofs.Accepted.{IsUnrefused, unrefused}
use Rattle.table_steps.proofs.Lists.{AreNone, first-none, map-none}
use Rattle.table_steps.proofs.Places.{place}
use Rattle.table_steps.proofs.SomeStep.{does-some}
use Rattle.namespace_commands.specs.Create.{IsCreateRefusal}
use Rattle.namespace_commands.specs.Lists.{IsStateOf}
use Rattle.namespace_commands.proofs.LookUps.{fit-told}
use Rattle.namespace_commands.proofs.Refused.{found-in, free-extents}

region-is : {x y : Region} → Some x ≡ Some y → x ≡ y
region-is e = cc

-- a fact of the region that is found
pub of-found : (sets : StoredSets) (index : ℕ) (r : Region) (holds : Region → Type 0) → region_at (platform_in sets) index ≡ Some r → holds r → OfRegion sets index holds
of-found sets index r holds found is q there = subst holds (region-is (sym found ∙ there)) is

-- There are free extents, and nothing refuses the create by them.
pub record HasFree (P : Platform) (L : Labels) (a : NewNamespace) (r : Region) : Type 0 where
  pub free : List Extent
  pub free_are : AreFreeOf P L (region_at P a.region) free
  pub none : first_of (create_refusals P L free a) ≡ None
  pub is : IsUnrefused P L free a r

pub some-free : (P : Platform) (L : Labels) (a : NewNamespace) → (free : List Extent) × AreFreeOf P L (region_at P a.region) free
some-free P L a =
    let step = does-some P L (λ _. 0) (Create a.region a.size a.name a.abstraction a.sector (Some a.uuid)) [] in
    (step.2.free, step.2.free_are)

module _ (P : Platform) (L : Labels) (a : NewNamespace) (r : Region) (known : region_at P a.region ≡ Some r) (refused : IsCreateRefusal P L a None) where
  pub has-free : HasFree P L a r
  has-free =
      let some = some-free P L a in
      let none = refused some.0 some.1 in
      record { free = some.0; free_are = some.1; none = none; is = unrefused P L some.0 a r known none }

  pub healable : unhealed_in P L r ≡ None
  healable =
      let all : AreNone (create_refusals P L has-free.free a) = first-none (create_refusals P L has-free.free a) has-free.none in
      sym (ap (λ (o : Option Region). option_and_then (unhealed_in P L) o) known) ∙ all.1.1.1.0

none-counted : {X : Type 0} (p : X → Bool) (xs : List X) → list_any p xs ≡ false → count_by p xs ≡ 0
none-counted p [] e = refl
none-counted p (x ∷ xs) e = by (p x) refl e (λ later. none-counted p xs later)
  where
    by : (b : Bool) → p x ≡ b → (b || list_any p xs) ≡ false → (list_any p xs ≡ false → count_by p xs ≡ 0) → count_by p (x ∷ xs) ≡ 0
    by true is e rest = absurd cc
    by false is e rest =
        let more : count_by p (x ∷ xs) ≡ cond {A = ℕ} (p x) 1 0 + count_by p xs = sum_by-cons (λ y. cond (p y) 1 0) x xs in
        let none : cond {A = ℕ} (p x) 1 0 ≡ 0 = ap (λ b. cond {A = ℕ} b 1 0) is in
        let others : count_by p xs ≡ 0 = rest e in
        omega (arith, more, none, others)

full-none : (s : ℕ → ℕ) (xs : List Member) → find (λ (x : Member). nat_lt (s x.handle) 1) xs ≡ None → first_full s xs ≡ None
full-none s [] e = refl
full-none s (x ∷ xs) e = by (s x.handle == 0) refl (nat_lt (s x.handle) 1) refl e (full-none s xs)
  where
    by : (z : Bool) → (s x.handle == 0) ≡ z → (b : Bool) → nat_lt (s x.handle) 1 ≡ b → cond b (Some x) (find (λ (y : Member). nat_lt (s y.handle) 1) xs) ≡ None
        → (find (λ (y : Member). nat_lt (s y.handle) 1) xs ≡ None → first_full s xs ≡ None) → cond z (Some x.handle) (first_full s xs) ≡ None
    by z is true t none rest = absurd cc
    by false is false t none rest = rest none
    by true is false t none rest = never (nat_lt (s x.handle) 1) (lt_from (s x.handle) 1 (let zero_is : s x.handle ≡ 0 = eq_true (s x.handle) 0 is in omega (arith, zero_is))) t

either-none : {A : Type 0} (b : Bool) (o : Option A) → o ≡ None → (if b then o else None) ≡ None
either-none true o none = none
either-none false o none = refl

-- so the region can be recovered
pub recoverable : (P : Platform) (L : Labels) (r : Region) → unhealed_in P L r ≡ None → (if nat_lt 0 (pending_count L r) then first_full (spare P L) r.members else None) ≡ None
recoverable P L r none = by (any_pending L r) refl none
  where
    by : (b : Bool) → any_pending L r ≡ b → (if b then option_map (λ (x : Member). Unhealed x.handle) (first_below P L 1 r) else None) ≡ None → (if nat_lt 0 (pending_count L r) then first_full (spare P L) r.members else None) ≡ None
    by false is e = ap (λ n. if nat_lt 0 n then first_full (spare P L) r.members else None) (none-counted (λ (s : Space). is_pending L r s.uuid) (namespaces L r) is)
    by true is e = either-none (nat_lt 0 (pending_count L r)) (first_full (spare P L) r.members) (full-none (spare P L) r.members (map-none (λ (x : Member). Unhealed x.handle) (first_below P L 1 r) e))

pub unhealed-none : (P : Platform) (sets : StoredSets) (r : Region) → sets.regions ≡ P.regions → unhealed_in P (labels_in sets) r ≡ None → unhealed_at sets r ≡ None
unhealed-none P sets r same none = recoverable (platform_in sets) (labels_in sets) r (ap (λ (rs : List Region). unhealed_in (with_regions rs) (labels_in sets) r) same ∙ none)

-- Where its namespace is put.
module _ (P : Platform) (sets : StoredSets) (state : IsStateOf P sets) (a : NewNamespace) (r : Region) (known : region_at P a.region ≡ Some r) (refused : IsCreateRefusal P (labels_in sets) a None) where
  abbrev L : Labels
  L = labels_in sets

  abbrev here : HasFree P L a r
  here = has-free P L a r known refused

  extents : AreFreeExtents P L r here.free
  extents = free-extents P sets state a r known here.is.ready here.free here.free_are

  fits-in : (found : Option ℕ) → FitsFirst sets a.region (part_length a r) found → IsFitIn here.free (part_length a r) found
  fits-in found fits =
      let at : FitsFirstIn (platform_in sets) L (part_length a r) (Some r) found = subst (λ (o : Option Region). FitsFirstIn (platform_in sets) L (part_length a r) o found) (found-in P sets state a (Some r) known) fits in
      at here.free (subst (λ (rs : List Region). AreFreeExtents (with_regions rs) L r here.free) (sym state.regions) extents)

  pub has-place : FitsFirst sets a.region (part_length a r) None → ⊥
  has-place fits =
      let none : NoneFits (is_free here.free) (part_length a r) alignment = fits-in None fits in
      let there = place P L here.free a r known here.free_are here.none in
      none there.0 there.1.multiple (λ o ge lt. extents.free_in o ∙ there.1.free_from o ge lt)

  pub fits-first : (at : ℕ) → FitsFirst sets a.region (part_length a r) (Some at) → IsFirstFit (is_common_free P L r) (part_length a r) alignment at
  fits-first at fits = fit-told P L r here.free (part_length a r) alignment at extents (fits-in (Some at) fits)

-- The spare slots of a module, where 0 is told of one that is not Ready.
own-spare : (P : Platform) (L : Labels) (dimm : ℕ) (stored : ModuleArea) → unwrap_or (spare_if_ready P L (Some (record { dimm = dimm; area = stored }))) 0 ≡ spare_in P L (record { dimm = dimm; area = stored })
own-spare P L dimm Missing = refl
own-spare P L dimm (WrongSize size) = refl
own-spare P L dimm (Uninit size) = refl
own-spare P L dimm (Foreign size) = refl
own-spare P L dimm (Ready area) = refl

pub spare-told : (P : Platform) (ms : List LoadedModule) (h : ℕ) → unwrap_or (spare_if_ready P (loaded.labels_in ms) (find (is_of h) ms)) 0 ≡ spare P (loaded.labels_in ms) h
spare-told P ms h = by (find (is_of h) ms) refl
  where
    by : (o : Option LoadedModule) → find (is_of h) ms ≡ o → unwrap_or (spare_if_ready P (loaded.labels_in ms) o) 0 ≡ spare P (loaded.labels_in ms) h
    by None e =
        let there : loaded.labels_in ms h ≡ module_or_missing None = ap module_or_missing e in
        sym (λ i. (there i).slots - number (λ l. not (is_dead P (loaded.labels_in ms) h l)) (there i))
    by (Some x) e =
        let there : loaded.labels_in ms h ≡ module_in x = ap module_or_missing e in
        let own : x.dimm ≡ h = eq_true x.dimm h (find-some (is_of h) ms x e).1 in
        own-spare P (loaded.labels_in ms) x.dimm x.area ∙ (λ i. (sym there i).slots - number (λ l. not (is_dead P (loaded.labels_in ms) (own i) l)) (sym there i))

-- the namespace that is made, by the length of each member's part
pub made-length : (a : NewNamespace) (r : Region) (offset n : ℕ) → n ≡ length r.members
    → new_space (record { uuid = a.uuid; name = a.name; abstraction = a.abstraction; sector = a.sector; offset = offset; length = a.size / n; pending = true; read_only = false }) ≡ made a r offset
made-length a r offset n is = ap space_with is
  where
    space_with : ℕ → Space
    space_with k = record { uuid = a.uuid; name = a.name; abstraction = a.abstraction; sector = a.sector; offset = offset; length = a.size / k; read_only = false }
