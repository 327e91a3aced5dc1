-- What is shown of a platform and of the state that labels stand for.
use Rattle.std.specs.Prelude.{◌≡◌, ℕ, if◌then◌else◌}
use Rattle.std.specs.List.{AllZip}
use Rattle.view_types.specs.declared.states.AreaState.{AreaState}
use Rattle.view_types.specs.declared.states.AreaState.TheVariants.{Ready}
use Rattle.view_types.specs.declared.views.ModuleView.{ModuleView}
use Rattle.view_types.specs.declared.views.View.{View}
use Rattle.label_codec.specs.ModuleLabels.{Labels, is_ready}
use Rattle.region_map.specs.declared.platform.Platform.{Platform}
use Rattle.label_table.specs.Fates.{spare}
use Rattle.region_labels.specs.Statuses.{unready_state}
use Rattle.label_sets.specs.Views.{IsRegionView}
use Rattle.namespace_commands.specs.Lists.{AreHeldOf}

-- the state of a module's area
abbrev pub area_state : Platform → Labels → ℕ → AreaState
area_state platform labels dimm =
    if is_ready (labels dimm).kind then Ready (labels dimm).slots (spare platform labels dimm)
    else unready_state (labels dimm).kind

-- the module with a device handle
pub record IsModuleView (platform : Platform) (labels : Labels) (dimm : ℕ) (view : ModuleView) : Type 0 where
  pub dimm_is : view.dimm ≡ dimm
  pub state_is : view.state ≡ area_state platform labels dimm
  -- by address, size, uuid, flags and region
  pub held_are : AreHeldOf platform labels dimm view.held

-- Each region of the platform is shown and each of its modules, in their order, and nothing else.
pub record IsView (platform : Platform) (labels : Labels) (view : View) : Type 0 where
  pub regions_are : AllZip (IsRegionView platform labels) platform.regions view.regions
  pub modules_are : AllZip (IsModuleView platform labels) platform.modules view.modules
