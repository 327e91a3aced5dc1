-- What is kept of a region, by its index, and how much room its free space has.
use Rattle.std.proofs.Common.{◌≡◌, ℕ, zero, suc, ◌*◌, ◌-◌, ◌<◌, ◌^◌, List, [], ◌∷◌, length, get_or, map, min, Option, Some, None, refl, sym, ap, subst, ◌∙◌, arith}
use Rattle.std.proofs.lemmas.List.{get_or-map}
use Rattle.std.proofs.lemmas.List.Elements.{All-get_or}
use Rattle.std.proofs.lemmas.Option.{get_or_from_slice_get, none-some}
use Rattle.view_types.specs.declared.extents.Extent.{Extent}
use Rattle.view_types.specs.declared.states.Status.{Status}
use Rattle.std.specs.Option.{option_and_then}
use Rattle.std.specs.Prelude.{IfNone, IfSome, IsSome, slice_get}
use Rattle.view_types.specs.Intervals.{IsFirstFit, NoneFits, greatest_aligned, is_free}
use Rattle.label_codec.specs.ModuleLabels.{Labels}
use Rattle.region_map.specs.declared.platform.Platform.{Platform}
use Rattle.region_map.specs.declared.platform.Region.{Region}
use Rattle.region_map.specs.Platforms.{region_at}
use Rattle.label_table.specs.Division.{AreFreeExtents, alignment, part_size}
use Rattle.label_table.specs.Statuses.{status}
use Rattle.view_types.proofs.Maximal.{one_list}
use Rattle.label_table.specs.Division.{is_common_free}
use Rattle.extent_alloc.specs.Free.{FreeSpace}
use Rattle.region_labels.specs.declared.modules.LoadedModule.{LoadedModule}
use Rattle.region_labels.specs.declared.region.RegionLabels.{RegionLabels}
use Rattle.region_labels.specs.Fates.{platform_of, region_in}
use Rattle.region_labels.specs.Modules as modules
use Rattle.region_labels.specs.Statuses.{shown_status}
use Rattle.label_sets.specs.declared.sets.Sets.TheInside.{Inside}
use Rattle.label_sets.specs.Free.{space_at}
use Rattle.label_sets.specs.Kept.{IsFree, IsKept, IsKnownFree, shown}
use Rattle.label_sets.specs.Largest.{IsLargestOf, TellsLargest}
use Rattle.label_sets.specs.Lookups.{AreFreeOf, FitsFirst, FitsFirstIn, IsFitIn, IsKeptRegion, TellsFree, in_region}
use Rattle.region_labels.specs.Regions.{IsOver}
use Rattle.label_sets.specs.Sets.{StoredSets, labels_in, platform_in}
use Rattle.label_sets.specs.Views.{IsPlaceOf}

-- the free extents that are kept are the region's
kept_is : (P : Platform) (L : Labels) (r : Region) (free : FreeSpace) → AreFreeExtents P L r free.extents → (extents : List Extent) → AreFreeExtents P L r extents
    → greatest_aligned alignment free.extents ≡ greatest_aligned alignment extents
kept_is P L r free are extents other = ap (greatest_aligned alignment) (one_list (part_size r) (is_common_free P L r) free.extents extents are other)

-- what stands at a place
pub element : {X : Type 0} (xs : List X) (k : ℕ) → k < length xs → (x : X) × (x ≡ get_or xs k x)
element [] k lt = absurd (omega arith)
element (x ∷ xs) zero lt = (x, refl)
element (x ∷ xs) (suc k) lt = element xs k (omega arith)

-- a fit or none is one of these extents
pub fit_by : (extents : List Extent) (len : ℕ) (fit : Option ℕ) → IfSome fit (IsFirstFit (is_free extents) len alignment) → IfNone fit (NoneFits (is_free extents) len alignment) → IsFitIn extents len fit
fit_by extents len None some none = none
fit_by extents len (Some at) some none = some

-- the region at a place has the index
region_found : (inside : Inside) (index place : ℕ) (kept : RegionLabels) → place < length inside.regions.items → kept ≡ get_or inside.regions.items place kept → IsPlaceOf (map region_in inside.regions.items) index (Some place)
    → region_at (platform_of inside.regions.items) index ≡ Some kept.region
region_found inside index place kept lt is_region found =
    let at : get_or (map region_in inside.regions.items) place kept.region ≡ kept.region = get_or-map region_in inside.regions.items place kept kept.region lt ∙ ap region_in (sym is_region) in
    found.1 kept.region ∙ ap Some at

-- the free space of the region at a place, where it is known
pub known-free : (ms : List LoadedModule) (rs : List RegionLabels) (spaces : Option (List FreeSpace)) (place : ℕ) (kept : RegionLabels) (free : FreeSpace) → IsKnownFree ms rs spaces → place < length rs → kept ≡ get_or rs place kept
    → space_at spaces place ≡ Some free → IsFree ms rs kept free
known-free ms rs None place kept free known lt is_region e = absurd (none-some free e)
known-free ms rs (Some spaces) place kept free all lt is_region e =
    subst (λ f. IsFree ms rs kept f) (get_or_from_slice_get spaces place free free e) (subst (λ k. IsFree ms rs k (get_or spaces place free)) (sym is_region) (all.is place kept free lt))

-- where it is known, each region has it
pub known-there : (ms : List LoadedModule) (rs : List RegionLabels) (spaces : Option (List FreeSpace)) (place : ℕ) → IsSome spaces → IsKnownFree ms rs spaces → place < length rs → space_at spaces place ≡ None → ⊥
known-there ms rs None place some known lt e = absurd cc
known-there ms rs (Some spaces) place some all lt e = missing spaces place (let each = all.each in omega arith) e
  where
    missing : (xs : List FreeSpace) (k : ℕ) → k < length xs → slice_get xs k ≡ None → ⊥
    missing [] k less none = absurd (omega arith)
    missing (x ∷ xs) zero less none = none-some x (sym none)
    missing (x ∷ xs) (suc k) less none = missing xs k (omega arith) none

module _ (inside : Inside) (sets : StoredSets) (same : shown inside ≡ sets) (index : ℕ) where
  pub tells_none : IsPlaceOf (map region_in inside.regions.items) index None → TellsLargest sets index None
  tells_none none = subst (λ (s : StoredSets). TellsLargest s index None) same (subst (λ (found : Option Region). IsLargestOf (platform_in (shown inside)) (labels_in (shown inside)) found None) (sym none) tt)

  pub tells_largest : (place : ℕ) (kept : RegionLabels) (free : FreeSpace) → place < length inside.regions.items → kept ≡ get_or inside.regions.items place kept → IsFree inside.modules.items inside.regions.items kept free
      → IsPlaceOf (map region_in inside.regions.items) index (Some place) → (size : ℕ)
      → size ≡ min (length kept.region.members * greatest_aligned alignment free.extents) (2 ^ 64 - 1) → TellsLargest sets index (Some size)
  tells_largest place kept free lt is_region whole found size size_is =
      let P = platform_of inside.regions.items in
      let L = modules.labels_in inside.modules.items in
      let region : region_at P index ≡ Some kept.region = region_found inside index place kept lt is_region found in
      subst (λ (s : StoredSets). TellsLargest s index (Some size)) same (subst (λ (r : Option Region). IsLargestOf P L r (Some size)) (sym region)
      (λ extents are. size_is ∙ ap (λ n. min (length kept.region.members * n) (2 ^ 64 - 1)) (kept_is P L kept.region free whole.extents extents are)))

  pub tells_free : (place : ℕ) (kept : RegionLabels) (free : FreeSpace) → place < length inside.regions.items → kept ≡ get_or inside.regions.items place kept → IsFree inside.modules.items inside.regions.items kept free
      → IsPlaceOf (map region_in inside.regions.items) index (Some place) → (extents : List Extent) → extents ≡ free.extents → TellsFree sets index (Some extents)
  tells_free place kept free lt is_region whole found extents are =
      let P = platform_of inside.regions.items in
      let L = modules.labels_in inside.modules.items in
      subst (λ (s : StoredSets). TellsFree s index (Some extents)) same (subst (λ (r : Option Region). AreFreeOf P L r (Some extents)) (sym (region_found inside index place kept lt is_region found))
      (subst (AreFreeExtents P L kept.region) (sym are) whole.extents))

  pub free_none : IsPlaceOf (map region_in inside.regions.items) index None → TellsFree sets index None
  free_none none = subst (λ (s : StoredSets). TellsFree s index None) same (subst (λ (found : Option Region). AreFreeOf (platform_in (shown inside)) (labels_in (shown inside)) found None) (sym none) tt)

  -- the region at a place has the status that is told
  pub tells_status : (place : ℕ) (kept : RegionLabels) → place < length inside.regions.items → kept ≡ get_or inside.regions.items place kept → IsPlaceOf (map region_in inside.regions.items) index (Some place)
      → (told : Status) → told ≡ shown_status (status (modules.labels_in inside.modules.items) kept.region) → Some told ≡ in_region sets index (λ r. Some (shown_status (status (labels_in sets) r)))
  tells_status place kept lt is_region found told is =
      subst (λ (s : StoredSets). Some told ≡ in_region s index (λ r. Some (shown_status (status (labels_in s) r)))) same
      (ap Some is ∙ ap (option_and_then (λ (r : Region). Some (shown_status (status (modules.labels_in inside.modules.items) r)))) (sym (region_found inside index place kept lt is_region found)))

  pub no_status : IsPlaceOf (map region_in inside.regions.items) index None → None ≡ in_region sets index (λ r. Some (shown_status (status (labels_in sets) r)))
  no_status none =
      subst (λ (s : StoredSets). None ≡ in_region s index (λ r. Some (shown_status (status (labels_in s) r)))) same
      (ap (option_and_then (λ (r : Region). Some (shown_status (status (modules.labels_in inside.modules.items) r)))) (sym none))

  pub fits_none : IsPlaceOf (map region_in inside.regions.items) index None → (len : ℕ) → FitsFirst sets index len None
  fits_none none len = subst (λ (s : StoredSets). FitsFirst s index len None) same (subst (λ (found : Option Region). FitsFirstIn (platform_in (shown inside)) (labels_in (shown inside)) len found None) (sym none) refl)

  pub fits_first : (place : ℕ) (kept : RegionLabels) (free : FreeSpace) → place < length inside.regions.items → kept ≡ get_or inside.regions.items place kept → IsFree inside.modules.items inside.regions.items kept free
      → IsPlaceOf (map region_in inside.regions.items) index (Some place) → (len : ℕ) (fit : Option ℕ) → IsFitIn free.extents len fit → FitsFirst sets index len fit
  fits_first place kept free lt is_region whole found len fit fits =
      let P = platform_of inside.regions.items in
      let L = modules.labels_in inside.modules.items in
      let r = kept.region in
      subst (λ (s : StoredSets). FitsFirst s index len fit) same (subst (λ (o : Option Region). FitsFirstIn P L len o fit) (sym (region_found inside index place kept lt is_region found))
      (λ extents are. subst (λ es. IsFitIn es len fit) (one_list (part_size r) (is_common_free P L r) free.extents extents whole.extents are) fits))

  pub kept_region : (place : ℕ) (kept : RegionLabels) → IsKept inside → place < length inside.regions.items → kept ≡ get_or inside.regions.items place kept → IsPlaceOf (map region_in inside.regions.items) index (Some place)
      → IsKeptRegion sets index kept
  kept_region place kept is_kept lt is_region found =
      subst (λ (s : StoredSets). IsKeptRegion s index kept) same (record {
        over = subst (IsOver inside.modules.items) (sym is_region) (All-get_or (IsOver inside.modules.items) inside.regions.items place kept lt is_kept.over);
        found = region_found inside index place kept lt is_region found;
      })
