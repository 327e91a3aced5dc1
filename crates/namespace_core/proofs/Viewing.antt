-- What is shown of the state that is kept is shown of the platform.
use Rattle.std.proofs.Common.{◌≡◌, ℕ, zero, suc, ◌-◌, ◌<◌, List, [], ◌∷◌, length, get_or, map, Result, Ok, Err, sym, ap, subst, ◌∙◌, arith}
use Rattle.std.specs.Prelude.{IfOk, if◌then◌else◌, not}
use Rattle.std.specs.List.{AllZip}
use Rattle.std.specs.List.Sorted.{IsPermutation, IsStrictlyIncreasing}
use Rattle.std.specs.declared.alloc.AllocError.{AllocError}
use Rattle.view_types.specs.declared.states.AreaState.TheVariants.{Ready}
use Rattle.view_types.specs.declared.views.ModuleView.{ModuleView}
use Rattle.view_types.specs.declared.views.RegionView.{RegionView}
use Rattle.view_types.specs.declared.views.View.{View}
use Rattle.label_codec.specs.ModuleLabels.{Labels, Module, is_ready, number}
use Rattle.region_map.specs.declared.platform.Platform.{Platform}
use Rattle.region_map.specs.declared.platform.Region.{Region}
use Rattle.region_map.specs.Platforms.{IsSound}
use Rattle.label_table.specs.Fates.{is_dead}
use Rattle.region_labels.specs.declared.modules.LoadedModule.{LoadedModule}
use Rattle.region_labels.specs.Fates.{with_regions}
use Rattle.region_labels.specs.Held.{held_below}
use Rattle.region_labels.specs.Modules.{EachOnce, dimm_of, module_in}
use Rattle.region_labels.specs.Statuses.{unready_state}
use Rattle.region_labels.proofs.Seated.{own-labels}
use Rattle.label_sets.specs.Sets.{StoredSets, labels_in}
use Rattle.label_sets.specs.Views as sets
use Rattle.label_sets.proofs.Platforms.{each-once}
use Rattle.namespace_commands.specs.Lists.{IsStateOf}
use Rattle.namespace_core.specs.Views.{IsModuleView, IsView}

-- what is shown of a platform by its regions alone
module _ (P : Platform) (L : Labels) where
  region-of : (r : Region) (view : RegionView) → sets.IsRegionView (with_regions P.regions) L r view → sets.IsRegionView P L r view
  region-of r view shows = record {
    index_is = shows.index_is;
    spa_is = shows.spa_is;
    length_is = shows.length_is;
    ways_is = shows.ways_is;
    cookie_is = shows.cookie_is;
    status_is = shows.status_is;
    namespaces_are = shows.namespaces_are;
    free_are = shows.free_are;
  }

  regions-of : (rs : List Region) (views : List RegionView) → AllZip (sets.IsRegionView (with_regions P.regions) L) rs views → AllZip (sets.IsRegionView P L) rs views
  regions-of [] [] all = tt
  regions-of [] (v ∷ vs) all = absurd all
  regions-of (r ∷ rs) [] all = absurd all
  regions-of (r ∷ rs) (v ∷ vs) all = (region-of r v all.0, regions-of rs vs all.1)

  module-of : (loaded : LoadedModule) (view : ModuleView) → L loaded.dimm ≡ module_in loaded → sets.IsModuleView (with_regions P.regions) L loaded view → IsModuleView P L loaded.dimm view
  module-of loaded view own shows = record {
    dimm_is = shows.dimm_is;
    state_is = shows.state_is ∙ ap (λ (a : Module). if is_ready a.kind then Ready a.slots (a.slots - number (λ label. not (is_dead P L loaded.dimm label)) a) else unready_state a.kind) (sym own);
    held_are = record {
      same = subst (λ (a : Module). IsPermutation (held_below P L loaded.dimm a.at a.slots) view.held) (sym own) shows.held_are.same;
      order = shows.held_are.order;
    };
  }

  modules-of : (ms : List LoadedModule) (views : List ModuleView) → ((i : ℕ) (d : LoadedModule) → i < length ms → L (get_or ms i d).dimm ≡ module_in (get_or ms i d))
      → AllZip (sets.IsModuleView (with_regions P.regions) L) ms views → AllZip (IsModuleView P L) (map dimm_of ms) views
  modules-of [] [] own all = tt
  modules-of [] (v ∷ vs) own all = absurd all
  modules-of (m ∷ ms) [] own all = absurd all
  modules-of (m ∷ ms) (v ∷ vs) own all =
      (module-of m v (own zero m (omega arith)) all.0, modules-of ms vs (λ i d lt. own (suc i) d (omega arith)) all.1)

-- it is shown of the whole platform
pub view-of : (P : Platform) (kept : StoredSets) → IsSound P → IsStateOf P kept → (view : View) → sets.IsView kept view → IsView P (labels_in kept) view
view-of P kept sound state view shows =
    let L = labels_in kept in
    let once : EachOnce kept.modules = each-once kept.modules (subst IsStrictlyIncreasing (sym state.modules) sound.platform_of.modules.order) in
    let regions : AllZip (sets.IsRegionView (with_regions P.regions) L) P.regions view.regions =
    subst (λ (rs : List Region). AllZip (sets.IsRegionView (with_regions rs) L) rs view.regions) state.regions shows.regions_are in
    let modules : AllZip (sets.IsModuleView (with_regions P.regions) L) kept.modules view.modules =
    subst (λ (rs : List Region). AllZip (sets.IsModuleView (with_regions rs) L) kept.modules view.modules) state.regions shows.modules_are in
    record {
      regions_are = regions-of P L P.regions view.regions regions;
      modules_are = subst (λ (hs : List ℕ). AllZip (IsModuleView P L) hs view.modules) state.modules
          (modules-of P L kept.modules view.modules (λ i d lt. own-labels kept.modules i d once lt) modules);
    }

-- where there was memory for it
pub shown-of : (P : Platform) (kept : StoredSets) → IsSound P → IsStateOf P kept → (shown : Result View AllocError) → IfOk shown (sets.IsView kept) → IfOk shown (IsView P (labels_in kept))
shown-of P kept sound state (Ok view) shows = view-of P kept sound state view shows
shown-of P kept sound state (Err fault) shows = tt
