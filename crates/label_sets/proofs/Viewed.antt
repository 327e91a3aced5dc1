-- What is shown of a region or a module by what is kept is shown of the state.
use Rattle.std.proofs.Common.{◌≡◌, ℕ, ◌<◌, List, [], length, get_or, map, None, Result, Ok, Err, refl, sym, ap, subst, ◌∙◌, arith}
use Rattle.std.specs.Prelude.{IfOk}
use Rattle.std.specs.declared.alloc.AllocError.{AllocError}
use Rattle.std.proofs.lemmas.List.{get_or-map, length-map}
use Rattle.view_types.specs.declared.extents.Extent.{Extent}
use Rattle.view_types.specs.declared.namespaces.Held.{Held}
use Rattle.view_types.specs.declared.states.Status.{Status}
use Rattle.view_types.specs.declared.views.RegionView.{RegionView}
use Rattle.label_codec.specs.ModuleLabels.{Labels}
use Rattle.region_map.specs.declared.platform.Platform.{Platform}
use Rattle.region_map.specs.declared.platform.Region.{Region}
use Rattle.label_table.specs.Division.{AreFreeExtents}
use Rattle.label_table.specs.Statuses.{AreaNotReady, Clash, RegionReady, RegionStatus, Unusable}
use Rattle.region_labels.specs.declared.modules.LoadedModule.{LoadedModule}
use Rattle.region_labels.specs.declared.region.RegionLabels.{RegionLabels}
use Rattle.region_labels.specs.Fates.{platform_of, region_in}
use Rattle.region_labels.specs.Held.{AreHeldIn}
use Rattle.region_labels.specs.Modules as modules
use Rattle.region_labels.specs.Statuses.{shown_status}
use Rattle.label_sets.specs.declared.sets.Sets.TheInside.{Inside}
use Rattle.label_sets.specs.Kept.{shown}
use Rattle.label_sets.specs.Sets.{StoredSets, labels_in, platform_in}
use Rattle.label_sets.specs.Views.{IsRegionView, ShowsFree, where_ready}

pub held-viewed : (inside : Inside) (sets : StoredSets) → shown inside ≡ sets → (ms : List LoadedModule) (rs : List RegionLabels) → ms ≡ inside.modules.items → rs ≡ inside.regions.items
    → (loaded : LoadedModule) (listed held : List Held) → listed ≡ held → AreHeldIn (platform_of rs) (modules.labels_in ms) loaded held → AreHeldIn (platform_in sets) (labels_in sets) loaded listed
held-viewed inside sets view ms rs m r loaded listed held same are =
    subst (λ (s : StoredSets). AreHeldIn (platform_in s) (labels_in s) loaded listed) view
    (subst (λ (xs : List LoadedModule). AreHeldIn (platform_of inside.regions.items) (modules.labels_in xs) loaded listed) m
    (subst (λ (ks : List RegionLabels). AreHeldIn (platform_of ks) (modules.labels_in ms) loaded listed) r
    (subst (λ hs. AreHeldIn (platform_of rs) (modules.labels_in ms) loaded hs) (sym same) are)))

pub region-viewed : (inside : Inside) (sets : StoredSets) → shown inside ≡ sets → (place : ℕ) (kept : RegionLabels) → kept ≡ get_or inside.regions.items place kept → place < length inside.regions.items → (view : RegionView)
    → IsRegionView (platform_of inside.regions.items) (modules.labels_in inside.modules.items) kept.region view → (d : Region) → IsRegionView (platform_in sets) (labels_in sets) (get_or sets.regions place d) view
region-viewed inside sets same place kept is lt view shows d =
    let at : get_or (map region_in inside.regions.items) place d ≡ kept.region = get_or-map region_in inside.regions.items place kept d lt ∙ ap region_in (sym is) in
    subst (λ (s : StoredSets). IsRegionView (platform_in s) (labels_in s) (get_or s.regions place d) view) same
    (subst (λ (r : Region). IsRegionView (platform_of inside.regions.items) (modules.labels_in inside.modules.items) r view) (sym at) shows)

pub place-inside : (inside : Inside) (sets : StoredSets) → shown inside ≡ sets → (place : ℕ) → place < length sets.regions → place < length inside.regions.items
place-inside inside sets same place lt =
    let len : length (map region_in inside.regions.items) ≡ length inside.regions.items = length-map inside.regions.items region_in in
    let there : place < length (map region_in inside.regions.items) = subst (λ (s : StoredSets). place < length s.regions) (sym same) lt in
    omega arith

-- free extents are listed where the status is Ready
pub shows-free : (P : Platform) (L : Labels) (r : Region) (s : RegionStatus) (st : Status) (es list : List Extent) → st ≡ shown_status s → list ≡ where_ready st es → AreFreeExtents P L r es → ShowsFree P L r s list
shows-free P L r s st es list is lists are = subst (ShowsFree P L r s) (sym (lists ∙ ap (λ x. where_ready x es) is)) (by s)
  where
    by : (t : RegionStatus) → ShowsFree P L r t (where_ready (shown_status t) es)
    by (Unusable rule) = refl
    by (AreaNotReady handle kind) = refl
    by (Clash first second) = refl
    by RegionReady = are

-- So they are of the region at a place, whatever way they were built.
module _ (inside : Inside) (sets : StoredSets) (same : shown inside ≡ sets) (place : ℕ) (kept : RegionLabels) (is : kept ≡ get_or inside.regions.items place kept) (lt : place < length inside.regions.items) where
  pub region-there : (d : Region) → get_or sets.regions place d ≡ kept.region
  region-there d = ap (λ (s : StoredSets). get_or s.regions place d) (sym same) ∙ get_or-map region_in inside.regions.items place kept d lt ∙ ap region_in (sym is)

  pub free-shown : (extents : List Extent) → AreFreeExtents (platform_of inside.regions.items) (modules.labels_in inside.modules.items) kept.region extents → (listed : Result (List Extent) AllocError) (status : Status)
      → IfOk listed (λ list. list ≡ where_ready status extents) → (d : Region) (told : RegionStatus) → status ≡ shown_status told → IfOk listed (ShowsFree (platform_in sets) (labels_in sets) (get_or sets.regions place d) told)
  free-shown extents are (Err e) status lists d told is_told = tt
  free-shown extents are (Ok list) status lists d told is_told =
      subst (λ (r : Region). ShowsFree (platform_in sets) (labels_in sets) r told list) (sym (region-there d))
      (subst (λ (s : StoredSets). ShowsFree (platform_in s) (labels_in s) kept.region told list) same
      (shows-free (platform_of inside.regions.items) (modules.labels_in inside.modules.items) kept.region told status extents list is_told lists are))

abbrev pub no_region : Region
no_region = record { index = 0; spa = 0; length = 0; rule = None; members = []; cookie = 0 }
