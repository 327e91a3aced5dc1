-- What is told of a region, or why nothing is.
use Rattle.std.proofs.Common.{◌≡◌, ℕ, List, Option, Some, None, refl, sym, ap, subst, ◌∙◌}
use Rattle.std.specs.Option.{option_and_then, option_map, option_or}
use Rattle.std.proofs.lemmas.Option.{none-some}
use Rattle.view_types.specs.declared.extents.Extent.{Extent}
use Rattle.view_types.specs.declared.refusal.Refusal.TheVariants.{UnknownRegion, Unusable}
use Rattle.view_types.specs.declared.rule.Rule.{Rule}
use Rattle.view_types.specs.declared.states.Status.{Status}
use Rattle.view_types.specs.declared.views.RegionView.{RegionView}
use Rattle.label_codec.specs.declared.kind.AreaKind.{AreaKind}
use Rattle.label_codec.specs.ModuleLabels.{Labels}
use Rattle.region_map.specs.declared.platform.Platform.{Platform}
use Rattle.region_map.specs.declared.platform.Region.{Region}
use Rattle.region_map.specs.Platforms.{region_at}
use Rattle.label_table.specs.Namespaces.{first_clash, namespaces}
use Rattle.label_table.specs.Spaces.{Space}
use Rattle.label_table.specs.Statuses as statuses
use Rattle.label_table.specs.Statuses.{RegionReady, RegionStatus, first_not_ready, status, status_by, status_by_area, status_by_clash}
use Rattle.region_labels.specs.Statuses.{shown_status}
use Rattle.label_sets.specs.Sets.{StoredSets, labels_in, platform_in}
use Rattle.label_sets.specs.Largest.{IsLargestOf, TellsLargest}
use Rattle.label_sets.specs.Lookups.{AreFreeOf, TellsFree, in_region}
use Rattle.label_sets.specs.Views.{IsRegionView, IsViewOf}
use Rattle.label_table.specs.Division.{AreFreeExtents}
use Rattle.view_types.specs.declared.reply.Reply.TheVariants.{Free}
use Rattle.table_steps.specs.Refusals.{first_of, not_ready_by}
use Rattle.namespace_commands.specs.Lists.{IsFree, IsReadyView, IsStateOf, refusal_by, refusal_of, unread}

-- the refusals behind that of an unknown region are those of the status
clash_refusal : (clash : Option (List ℕ × List ℕ)) → option_or (not_ready_by (status_by_clash clash)) None ≡ refusal_by (shown_status (status_by_clash clash))
clash_refusal None = refl
clash_refusal (Some clash) = refl

area_refusal : (kind : ℕ → AreaKind) (spaces : List Space) (found : Option ℕ) → option_or (not_ready_by (status_by_area kind spaces found)) None ≡ refusal_by (shown_status (status_by_area kind spaces found))
area_refusal kind spaces (Some handle) = refl
area_refusal kind spaces None = clash_refusal (first_clash spaces)

status_refusal : (kind : ℕ → AreaKind) (spaces : List Space) (region : Region) (rule : Option Rule)
    → option_or (option_map Unusable rule) (option_or (not_ready_by (status_by kind spaces region rule)) None) ≡ refusal_by (shown_status (status_by kind spaces region rule))
status_refusal kind spaces region (Some rule) = refl
status_refusal kind spaces region None = area_refusal kind spaces (first_not_ready kind region.members)

pub unread-is : (platform : Platform) (labels : Labels) (index : ℕ) (region : Region) → region_at platform index ≡ Some region → first_of (unread platform labels index) ≡ refusal_by (shown_status (status labels region))
unread-is platform labels index region found =
    rw found (status_refusal (λ handle. (labels handle).kind) (namespaces labels region) region region.rule)

pub ready-is : (s : RegionStatus) → refusal_by (shown_status s) ≡ None → s ≡ RegionReady
ready-is RegionReady is = refl
ready-is (statuses.Unusable rule) is = absurd cc
ready-is (statuses.AreaNotReady handle kind) is = absurd cc
ready-is (statuses.Clash first second) is = absurd cc

pub unknown-is : (platform : Platform) (labels : Labels) (index : ℕ) → region_at platform index ≡ None → first_of (unread platform labels index) ≡ Some (UnknownRegion index)
unknown-is platform labels index none = rw none refl

-- a region of which a command is not refused
pub record IsReadyRegion (platform : Platform) (labels : Labels) (index : ℕ) : Type 0 where
  pub region : Region
  pub found : region_at platform index ≡ Some region
  pub ready : status labels region ≡ RegionReady

pub ready-region : (platform : Platform) (labels : Labels) (index : ℕ) → first_of (unread platform labels index) ≡ None → IsReadyRegion platform labels index
ready-region platform labels index unrefused = by (region_at platform index) refl
  where
    by : (found : Option Region) → region_at platform index ≡ found → IsReadyRegion platform labels index
    by None none = absurd (none-some (UnknownRegion index) (sym unrefused ∙ unknown-is platform labels index none))
    by (Some region) found = record {
      region = region;
      found = found;
      ready = ready-is (status labels region) (sym (unread-is platform labels index region found) ∙ unrefused);
    }

module _ (platform : Platform) (sets : StoredSets) (index : ℕ) (state : IsStateOf platform sets) where
  -- the regions of the state are those of the platform
  same_region : region_at (platform_in sets) index ≡ region_at platform index
  same_region = rw state.regions refl

  pub no_view : IsViewOf (platform_in sets) (labels_in sets) (region_at (platform_in sets) index) None → region_at platform index ≡ None
  no_view none = by (region_at (platform_in sets) index) refl none
    where
      by : (found : Option Region) → region_at (platform_in sets) index ≡ found → IsViewOf (platform_in sets) (labels_in sets) found None → region_at platform index ≡ None
      by None is views = sym same_region ∙ is
      by (Some region) is views = absurd views

  -- a view of the platform's region
  pub record IsKnownView (view : RegionView) : Type 0 where
    pub region : Region
    pub found : region_at platform index ≡ Some region
    pub shows : IsRegionView platform (labels_in sets) region view

  pub known_view : (view : RegionView) → IsViewOf (platform_in sets) (labels_in sets) (region_at (platform_in sets) index) (Some view) → IsKnownView view
  known_view view some = by (region_at (platform_in sets) index) refl some
    where
      by : (found : Option Region) → region_at (platform_in sets) index ≡ found → IsViewOf (platform_in sets) (labels_in sets) found (Some view) → IsKnownView view
      by None is views = absurd views
      by (Some region) is views = record {
        region = region;
        found = sym same_region ∙ is;
        shows = record {
          index_is = views.index_is;
          spa_is = views.spa_is;
          length_is = views.length_is;
          ways_is = views.ways_is;
          cookie_is = views.cookie_is;
          status_is = views.status_is;
          namespaces_are = views.namespaces_are;
          free_are = rw (← state.regions) views.free_are;
        };
      }

  pub ready_view : (view : RegionView) → IsKnownView view → refusal_by view.status ≡ None → IsReadyView platform (labels_in sets) index view
  ready_view view known none =
      let unrefused = sym (ap refusal_by known.shows.status_is) ∙ none in
      record {
        region = known.region;
        found = known.found;
        unrefused = unread-is platform (labels_in sets) index known.region known.found ∙ unrefused;
        ready = ready-is (status (labels_in sets) known.region) unrefused;
        is_view = known.shows;
      }

  -- what is told of the status tells the refusal
  pub told-unread : (told : Option Status) → told ≡ in_region sets index (λ (r : Region). Some (shown_status (status (labels_in sets) r))) → refusal_of index told ≡ first_of (unread platform (labels_in sets) index)
  told-unread told is = by (region_at (platform_in sets) index) refl
    where
      shown : Region → Option Status
      shown r = Some (shown_status (status (labels_in sets) r))

      by : (found : Option Region) → region_at (platform_in sets) index ≡ found → refusal_of index told ≡ first_of (unread platform (labels_in sets) index)
      by None none = ap (refusal_of index) (is ∙ ap (option_and_then shown) none) ∙ sym (unknown-is platform (labels_in sets) index (sym same_region ∙ none))
      by (Some region) found =
          ap (refusal_of index) (is ∙ ap (option_and_then shown) found) ∙ sym (unread-is platform (labels_in sets) index region (sym same_region ∙ found))

  free-there : (region : Region) (extents : List Extent) → AreFreeExtents (platform_in sets) (labels_in sets) region extents → AreFreeExtents platform (labels_in sets) region extents
  free-there region extents are = rw (← state.regions) are

  -- the free extents of a region that is Ready
  pub free_is : first_of (unread platform (labels_in sets) index) ≡ None → (extents : List Extent) → TellsFree sets index (Some extents) → (size : ℕ) → TellsLargest sets index (Some size)
      → IsFree platform (labels_in sets) index (Free extents size)
  free_is unrefused extents tells_free size tells =
      let labels = labels_in sets in
      let ready = ready-region platform labels index unrefused in
      let region = ready.region in
      let found : region_at (platform_in sets) index ≡ Some region = same_region ∙ ready.found in
      let mine : AreFreeExtents (platform_in sets) labels region extents = subst (λ r. AreFreeOf (platform_in sets) labels r (Some extents)) found tells_free in
      let most : IsLargestOf (platform_in sets) labels (Some region) (Some size) = subst (λ r. IsLargestOf (platform_in sets) labels r (Some size)) found tells in
      rw unrefused (record { region = region; found = ready.found; extents = extents; extents_are = free-there region extents mine; reply_is = ap (Free extents) (most extents mine) })

  -- the state has the region
  pub has_free : first_of (unread platform (labels_in sets) index) ≡ None → TellsFree sets index None → ⊥
  has_free unrefused tells =
      let ready = ready-region platform (labels_in sets) index unrefused in
      subst (λ r. AreFreeOf (platform_in sets) (labels_in sets) r None) (same_region ∙ ready.found) tells

  pub has_largest : first_of (unread platform (labels_in sets) index) ≡ None → TellsLargest sets index None → ⊥
  has_largest unrefused tells =
      let ready = ready-region platform (labels_in sets) index unrefused in
      subst (λ r. IsLargestOf (platform_in sets) (labels_in sets) r None) (same_region ∙ ready.found) tells
