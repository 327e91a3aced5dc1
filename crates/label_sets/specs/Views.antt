-- How regions and modules are shown.
use Rattle.std.specs.Prelude.{◌≡◌, ℕ, ◌<◌, List, [], Option, None, Some, find, length, map, if◌then◌else◌}
use Rattle.std.specs.Prelude.{slice_index_or}
use Rattle.std.specs.List.{AllZip}
use Rattle.view_types.specs.declared.extents.Extent.{Extent}
use Rattle.view_types.specs.declared.states.AreaState.{AreaState}
use Rattle.view_types.specs.declared.states.AreaState.TheVariants as state
use Rattle.view_types.specs.declared.states.Status.{Status}
use Rattle.view_types.specs.declared.states.Status.TheVariants as shown
use Rattle.view_types.specs.declared.views.ModuleView.{ModuleView}
use Rattle.view_types.specs.declared.views.RegionView.{RegionView}
use Rattle.view_types.specs.declared.views.View.{View}
use Rattle.label_codec.specs.ModuleLabels.{Labels, is_ready}
use Rattle.region_map.specs.declared.platform.Platform.{Platform}
use Rattle.region_map.specs.declared.platform.Region.{Region}
use Rattle.region_map.specs.Platforms.{region_at}
use Rattle.label_table.specs.Division.{AreFreeExtents}
use Rattle.label_table.specs.Namespaces.{namespaces}
use Rattle.label_table.specs.Statuses.{AreaNotReady, Clash, RegionReady, RegionStatus, Unusable, status}
use Rattle.region_labels.specs.declared.modules.LoadedModule.{LoadedModule}
use Rattle.region_labels.specs.Fates.{with_regions}
use Rattle.region_labels.specs.Held.{AreHeldIn, spare_in}
use Rattle.region_labels.specs.Marks.{listed_in}
use Rattle.region_labels.specs.Modules.{is_of, module_in}
use Rattle.region_labels.specs.Statuses.{shown_status, unready_state}
use Rattle.label_sets.specs.Sets.{StoredSets, labels_in, platform_in}

-- the free extents of a region are shown where it is Ready
abbrev pub ShowsFree : Platform → Labels → Region → RegionStatus → List Extent → Type 0
ShowsFree platform labels region RegionReady extents = AreFreeExtents platform labels region extents
ShowsFree platform labels region (Unusable rule) extents = extents ≡ []
ShowsFree platform labels region (AreaNotReady handle kind) extents = extents ≡ []
ShowsFree platform labels region (Clash first second) extents = extents ≡ []

-- extents that are listed where a status is Ready
abbrev pub where_ready : Status → List Extent → List Extent
where_ready shown.Ready extents = extents
where_ready (shown.Unusable rule) extents = []
where_ready (shown.Area dimm state) extents = []
where_ready (shown.Clash first second) extents = []

pub record IsRegionView (platform : Platform) (labels : Labels) (region : Region) (view : RegionView) : Type 0 where
  pub index_is : view.index ≡ region.index
  pub spa_is : view.spa ≡ region.spa
  pub length_is : view.length ≡ region.length
  pub ways_is : view.ways ≡ length region.members
  pub cookie_is : view.cookie ≡ region.cookie
  pub status_is : view.status ≡ shown_status (status labels region)
  -- by offset and then by uuid
  pub namespaces_are : view.namespaces ≡ map (listed_in labels region) (namespaces labels region)
  pub free_are : ShowsFree platform labels region (status labels region) view.free

abbrev pub IsViewOf : Platform → Labels → Option Region → Option RegionView → Type 0
IsViewOf platform labels None None = Unit {0}
IsViewOf platform labels None (Some view) = ⊥
IsViewOf platform labels (Some region) None = ⊥
IsViewOf platform labels (Some region) (Some view) = IsRegionView platform labels region view

-- the region with an index is shown, where there is one
abbrev pub ViewsRegion : StoredSets → ℕ → Option RegionView → Type 0
ViewsRegion sets index found = IsViewOf (platform_in sets) (labels_in sets) (region_at (platform_in sets) index) found

-- where the region with an index stands among the regions
abbrev pub IsPlaceOf : List Region → ℕ → Option ℕ → Type 0
IsPlaceOf regions index None = region_at (with_regions regions) index ≡ None
IsPlaceOf regions index (Some place) = (place < length regions)
    × ((d : Region) → region_at (with_regions regions) index ≡ Some (slice_index_or regions place d))

-- the state of a module's area
abbrev pub area_state : Platform → Labels → LoadedModule → AreaState
area_state platform labels loaded =
    if is_ready (module_in loaded).kind then state.Ready (module_in loaded).slots (spare_in platform labels loaded)
    else unready_state (module_in loaded).kind

-- the spare slots of a module whose area is Ready
abbrev pub spare_if_ready : Platform → Labels → Option LoadedModule → Option ℕ
spare_if_ready platform labels None = None
spare_if_ready platform labels (Some loaded) =
    if is_ready (module_in loaded).kind then Some (spare_in platform labels loaded) else None

abbrev pub spare_at : StoredSets → ℕ → Option ℕ
spare_at sets dimm = spare_if_ready (platform_in sets) (labels_in sets) (find (is_of dimm) sets.modules)

pub record IsModuleView (platform : Platform) (labels : Labels) (loaded : LoadedModule)
    (view : ModuleView) : Type 0 where
  pub dimm_is : view.dimm ≡ loaded.dimm
  pub state_is : view.state ≡ area_state platform labels loaded
  pub held_are : AreHeldIn platform labels loaded view.held

abbrev pub IsModuleViewOf : Platform → Labels → Option LoadedModule → Option ModuleView → Type 0
IsModuleViewOf platform labels None None = Unit {0}
IsModuleViewOf platform labels None (Some view) = ⊥
IsModuleViewOf platform labels (Some loaded) None = ⊥
IsModuleViewOf platform labels (Some loaded) (Some view) = IsModuleView platform labels loaded view

-- the module with a device handle is shown, where there is one
abbrev pub ViewsModule : StoredSets → ℕ → Option ModuleView → Type 0
ViewsModule sets dimm found = IsModuleViewOf (platform_in sets) (labels_in sets) (find (is_of dimm) sets.modules) found

-- all regions of a state and all its modules are shown, one after the other
pub record IsView (sets : StoredSets) (view : View) : Type 0 where
  pub regions_are : AllZip (IsRegionView (platform_in sets) (labels_in sets)) sets.regions view.regions
  pub modules_are : AllZip (IsModuleView (platform_in sets) (labels_in sets)) sets.modules view.modules
