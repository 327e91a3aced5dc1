-- Which namespaces of a region are pending, how many, and how they are told in the state.
use Rattle.std.proofs.Common.{◌≡◌, ◌≢◌, ℕ, ◌<◌, Bool, true, false, cond, ◌&&◌, List, [], ◌∷◌, find, map, Option, Some, None, refl, sym, ap, subst, ◌∙◌, arith}
use Rattle.std.specs.Prelude.{◌==◌, count_by, not}
use Rattle.std.specs.List.{Contains}
use Rattle.std.specs.Option.{option_and_then, option_map, option_map_or}
use Rattle.std.specs.Str.{bytes_eq}
use Rattle.std.proofs.lemmas.Bool.{and_parts}
use Rattle.view_types.specs.declared.namespaces.Namespace.{Namespace}
use Rattle.label_codec.specs.ModuleLabels.{Labels}
use Rattle.region_map.specs.declared.platform.Platform.{Platform}
use Rattle.region_map.specs.declared.platform.Region.{Region}
use Rattle.region_map.specs.Platforms.{IsSound, region_at}
use Rattle.label_table.specs.Belonging.{IsDisjoint}
use Rattle.label_table.specs.Namespaces.{namespaces}
use Rattle.label_table.specs.Spaces.{Space, is_pending, space}
use Rattle.label_table.specs.Statuses.{status}
use Rattle.label_table.specs.Tables.{changed_at, table}
use Rattle.label_table.specs.Wholes.{any_read_only, is_whole, labels_with}
use Rattle.label_table.proofs.Listed.{namespaces-to}
use Rattle.label_table.proofs.ListTests.{eq_other, eq_same, eq_true, find-some, never, none_some, not_true, some_is, uuid_same}
use Rattle.label_table.proofs.Order.{space-uuid}
use Rattle.label_table.proofs.SoundPlatforms.{sound-disjoint}
use Rattle.label_table.proofs.StatusLaws.{namespaces-kept, status-kept}
use Rattle.label_table.proofs.WholeUuids.{whole-led}
use Rattle.region_labels.specs.Fates.{with_regions}
use Rattle.region_labels.specs.Marks.{listed_in}
use Rattle.region_labels.specs.ListedSpaces.{listed_spaces, shows_pending}
use Rattle.region_labels.proofs.Pendings.{none-pending}
use Rattle.region_labels.specs.declared.positions.ModuleSpare.{ModuleSpare}
use Rattle.region_labels.specs.Positions.{IsFirstWithoutSpare}
use Rattle.label_sets.specs.Lookups.{LacksSpare, LacksSpareIn, in_region, uuid_of}
use Rattle.label_sets.specs.Sets.{StoredSets, labels_in, platform_in, state_in}
use Rattle.label_sets.proofs.Stageable.{region-listed}
use Rattle.recovery.specs.Recovery.{pending_count}
use Rattle.recovery.proofs.Counting.{count-less, count-none}

module _ (L : Labels) (r : Region) where
  first-is : (ss : List Space) (sp : Namespace) → find shows_pending (map (listed_in L r) ss) ≡ Some sp → is_pending L r sp.uuid ≡ true
  first-is [] sp e = none_some (find shows_pending (map (listed_in L r) [])) refl e
  first-is (x ∷ xs) sp e = by (is_pending L r x.uuid) refl e (λ rest. first-is xs sp rest)
    where
      by : (b : Bool) → is_pending L r x.uuid ≡ b → cond b (Some (listed_in L r x)) (find shows_pending (map (listed_in L r) xs)) ≡ Some sp → (find shows_pending (map (listed_in L r) xs) ≡ Some sp → is_pending L r sp.uuid ≡ true) → is_pending L r sp.uuid ≡ true
      by true is f rest = ap (λ (n : Namespace). is_pending L r n.uuid) (sym (some_is f)) ∙ is
      by false is f rest = rest f

  -- the first one is pending
  pub first-pending : (u : List ℕ) → option_map uuid_of (find shows_pending (listed_spaces L r)) ≡ Some u → is_pending L r u ≡ true
  first-pending u e = by (find shows_pending (listed_spaces L r)) refl e
    where
      by : (o : Option Namespace) → find shows_pending (listed_spaces L r) ≡ o → option_map uuid_of o ≡ Some u → is_pending L r u ≡ true
      by None is f = none_some (option_map uuid_of None) refl f
      by (Some sp) is f = subst (λ v. is_pending L r v ≡ true) (some_is f) (first-is (namespaces L r) sp is)

  -- there is none
  pub none-first : option_map uuid_of (find shows_pending (listed_spaces L r)) ≡ None → (u : List ℕ) → is_pending L r u ≡ false
  none-first e = by (find shows_pending (listed_spaces L r)) refl e
    where
      by : (o : Option Namespace) → find shows_pending (listed_spaces L r) ≡ o → option_map uuid_of o ≡ None → (u : List ℕ) → is_pending L r u ≡ false
      by None is f = none-pending L r (sym is)
      by (Some sp) is f = none_some None refl (sym f)

  pub none-count : ((u : List ℕ) → is_pending L r u ≡ false) → pending_count L r ≡ 0
  none-count none = count-none (λ (s : Space). is_pending L r s.uuid) (λ s. none s.uuid) (namespaces L r)

  pub pending-whole : (u : List ℕ) → is_pending L r u ≡ true → is_whole L r u ≡ true
  pending-whole u e = (and_parts (is_whole L r u) _ e).0

  pub pending-writable : (u : List ℕ) → is_pending L r u ≡ true → any_read_only r (labels_with u L) ≡ false
  pending-writable u e = not_true (any_read_only r (labels_with u L)) (and_parts (not (any_read_only r (labels_with u L))) _ (and_parts (is_whole L r u) _ e).1).0

  -- a pending namespace is listed
  pending-space : (u : List ℕ) → is_pending L r u ≡ true → (s : Space) × (space L r u ≡ Some s)
  pending-space u e = by (space L r u) refl
    where
      by : (o : Option Space) → space L r u ≡ o → (s : Space) × (space L r u ≡ Some s)
      by None is = none_some (space L r u) is (whole-led r (labels_with u L) (pending-whole u e)).space_is
      by (Some s) is = (s, is)

  -- one less is pending, where the namespace was
  pub pending-less : (M : Labels) (u : List ℕ) → namespaces M r ≡ namespaces L r → is_pending L r u ≡ true → is_pending M r u ≡ false → ((v : List ℕ) → is_pending M r v ≡ true → is_pending L r v ≡ true)
      → pending_count M r < pending_count L r
  pending-less M u same was now each =
      let it = pending-space u was in
      let named : it.0.uuid ≡ u = space-uuid L r u it.0 it.1 in
      subst (λ (ss : List Space). count_by (λ (s : Space). is_pending M r s.uuid) ss < pending_count L r) (sym same)
      (count-less (λ (s : Space). is_pending L r s.uuid) (λ (s : Space). is_pending M r s.uuid) (λ s. each s.uuid) (namespaces L r) it.0 (namespaces-to L r u it.0 it.1)
      (ap (is_pending L r) named ∙ was) (ap (is_pending M r) named ∙ now))

  pub pending-some : (u : List ℕ) → is_pending L r u ≡ true → 0 < pending_count L r
  pending-some u was =
      let it = pending-space u was in
      let named : it.0.uuid ≡ u = space-uuid L r u it.0 it.1 in
      let less : count_by (λ (s : Space). false) (namespaces L r) < pending_count L r =
      count-less (λ (s : Space). is_pending L r s.uuid) (λ (s : Space). false) (λ s e. never false e refl) (namespaces L r) it.0 (namespaces-to L r u it.0 it.1) (ap (is_pending L r) named ∙ was) refl in
      omega (arith, less)

-- the platform of the state is that of a sound one
pub disjoint-in : (P : Platform) → IsSound P → (sets : StoredSets) → P.regions ≡ sets.regions → IsDisjoint (platform_in sets)
disjoint-in P sound sets same =
    let d = sound-disjoint P sound in
    subst (λ (rs : List Region). IsDisjoint (with_regions rs)) same (record { indexes = d.indexes; positions = d.positions; bytes = d.bytes })

-- what is kept of one region, where the table is
module _ (P : Platform) (sound : IsSound P) (sets now : StoredSets) (same : P.regions ≡ sets.regions) (r : Region) (index : ℕ) (found : region_at (platform_in sets) index ≡ Some r)
    (regions : now.regions ≡ sets.regions) (same_table : (state_in now).table ≡ (state_in sets).table) where
  table-there : table (platform_in sets) (labels_in now) ≡ table (platform_in sets) (labels_in sets)
  table-there = subst (λ (rs : List Region). table (with_regions rs) (labels_in now) ≡ table (platform_in sets) (labels_in sets)) regions same_table

  listed : Contains sets.regions r
  listed = region-listed (platform_in sets) index r found

  pub spaces-kept : namespaces (labels_in now) r ≡ namespaces (labels_in sets) r
  spaces-kept = namespaces-kept (platform_in sets) (disjoint-in P sound sets same) (labels_in sets) (labels_in now) table-there r listed

  pub status-still : status (labels_in now) r ≡ status (labels_in sets) r
  status-still = status-kept (platform_in sets) (disjoint-in P sound sets same) (labels_in sets) (labels_in now) table-there r listed

  pub found-still : region_at (platform_in now) index ≡ Some r
  found-still = ap (λ (rs : List Region). region_at (with_regions rs) index) regions ∙ found

-- the marks of a region in the state
pub mark-of : (sets : StoredSets) (r : Region) → region_at (platform_in sets) r.index ≡ Some r → (u : List ℕ) → (state_in sets).pending r.index u ≡ is_pending (labels_in sets) r u
mark-of sets r found u = λ i. option_map_or (λ (q : Region). is_pending (labels_in sets) q u) (found i) false

-- the marks after a heal
module _ (sets now : StoredSets) (r : Region) (u : List ℕ) (marks : (state_in now).pending ≡ changed_at r u false (state_in sets).pending) where
  pub marks-elsewhere : (index : ℕ) (v : List ℕ) → index ≢ r.index → (state_in now).pending index v ≡ (state_in sets).pending index v
  marks-elsewhere index v other =
      let away : (r.index == index) ≡ false = eq_other r.index index (λ e. other (sym e)) in
      (λ i. marks i index v) ∙ (λ i. cond (away i && bytes_eq u v) false ((state_in sets).pending index v))

  module _ (was : region_at (platform_in sets) r.index ≡ Some r) (is : region_at (platform_in now) r.index ≡ Some r) where
    after : (v : List ℕ) → is_pending (labels_in now) r v ≡ cond (r.index == r.index && bytes_eq u v) false (is_pending (labels_in sets) r v)
    after v = sym (mark-of now r is v) ∙ (λ i. marks i r.index v) ∙ (λ i. cond (r.index == r.index && bytes_eq u v) false (mark-of sets r was v i))

    pub mark-gone : is_pending (labels_in now) r u ≡ false
    mark-gone =
        let here : (r.index == r.index) ≡ true = eq_same r.index r.index refl in
        let named : bytes_eq u u ≡ true = uuid_same u in
        after u ∙ (λ i. cond (here i && named i) false (is_pending (labels_in sets) r u))

    pub mark-was : (v : List ℕ) → is_pending (labels_in now) r v ≡ true → is_pending (labels_in sets) r v ≡ true
    mark-was v e = by (r.index == r.index && bytes_eq u v) (sym (after v) ∙ e)
      where
        by : (b : Bool) → cond b false (is_pending (labels_in sets) r v) ≡ true → is_pending (labels_in sets) r v ≡ true
        by true f = never false f refl
        by false f = f

-- what is looked up in the region with an index
module _ (sets : StoredSets) (index : ℕ) (r : Region) (there : region_at (platform_in sets) index ≡ Some r) where
  look-up : in_region sets index (λ q. option_map uuid_of (find shows_pending (listed_spaces (labels_in sets) q))) ≡ option_map uuid_of (find shows_pending (listed_spaces (labels_in sets) r))
  look-up = λ i. option_and_then (λ (q : Region). option_map uuid_of (find shows_pending (listed_spaces (labels_in sets) q))) (there i)

  pub first-in : (u : List ℕ) → in_region sets index (λ q. option_map uuid_of (find shows_pending (listed_spaces (labels_in sets) q))) ≡ Some u → is_pending (labels_in sets) r u ≡ true
  first-in u e = first-pending (labels_in sets) r u (sym look-up ∙ e)

  pub none-in : in_region sets index (λ q. option_map uuid_of (find shows_pending (listed_spaces (labels_in sets) q))) ≡ None → (u : List ℕ) → is_pending (labels_in sets) r u ≡ false
  none-in e = none-first (labels_in sets) r (sym look-up ∙ e)

  pub spare-in : (found : Option ModuleSpare) → LacksSpare sets index 1 found → IsFirstWithoutSpare (platform_in sets) (labels_in sets) r 1 found
  spare-in found lacks = subst (λ (o : Option Region). LacksSpareIn (platform_in sets) (labels_in sets) 1 o found) there lacks

-- what is none of the values is none
pub none-of : {A : Type 0} → (o : Option A) → ((x : A) → o ≡ Some x → ⊥) → o ≡ None
none-of None never = refl
none-of (Some x) never = absurd (never x refl)

-- a region that is found has its index
module _ (P : Platform) (sets : StoredSets) (same : P.regions ≡ sets.regions) (index : ℕ) (r : Region) (there : region_at P index ≡ Some r) where
  pub found-in : region_at (platform_in sets) index ≡ Some r
  found-in = ap (λ (rs : List Region). region_at (with_regions rs) index) (sym same) ∙ there

  pub found-own : region_at (platform_in sets) r.index ≡ Some r
  found-own =
      let index_is : r.index ≡ index = eq_true r.index index (find-some (λ (q : Region). q.index == index) P.regions r there).1 in
      ap (region_at (platform_in sets)) index_is ∙ found-in
