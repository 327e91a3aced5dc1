-- What is kept of modules and of regions, as it goes together.
use Rattle.std.specs.Prelude.{◌≡◌, ℕ, List, map}
use Rattle.std.specs.List.{All}
use Rattle.index_block.specs.Bitmap.{free_count}
use Rattle.label_table.specs.Belonging.{IsDisjoint}
use Rattle.region_labels.specs.declared.modules.LoadedModule.{LoadedModule}
use Rattle.region_labels.specs.declared.modules.ModuleArea.{ModuleArea}
use Rattle.region_labels.specs.declared.modules.ModuleArea.TheVariants.{Missing, WrongSize, Uninit, Foreign, Ready}
use Rattle.region_labels.specs.declared.region.RegionLabels.{RegionLabels}
use Rattle.region_labels.specs.Fates.{platform_of, region_in}
use Rattle.region_labels.specs.Modules.{EachOnce, dimm_of, module_in, size_in}
use Rattle.region_labels.specs.Regions.{IsOver}
use Rattle.module_flips.specs.Flips.{HasLabelsInUse, IsOwn}

-- Each module stands there once with its own area, and each region has the index of the labels of its modules.
pub record IsTogether (modules : List LoadedModule) (regions : List RegionLabels) : Type 0 where
  pub once : EachOnce modules
  pub own : All IsOwn modules
  pub in_use : All HasLabelsInUse modules
  pub disjoint : IsDisjoint (platform_of regions)
  pub over : All (IsOver modules) regions

abbrev pub slots_in : LoadedModule → ℕ
slots_in loaded = (module_in loaded).slots

abbrev pub free_slots_of : ModuleArea → ℕ
free_slots_of Missing = 0
free_slots_of (WrongSize size) = 0
free_slots_of (Uninit size) = 0
free_slots_of (Foreign size) = 0
free_slots_of (Ready area) = free_count area.free area.geometry.slots

-- the number of free slots of a module
abbrev pub free_slots : LoadedModule → ℕ
free_slots loaded = free_slots_of loaded.area

-- The modules and the regions are the same, with areas of the same sizes, and they go together.
pub record StaysTogether (modules : List LoadedModule) (regions : List RegionLabels) (now : List LoadedModule)
    (regions_now : List RegionLabels) : Type 0 where
  pub dimms : map dimm_of now ≡ map dimm_of modules
  pub sizes : map size_in now ≡ map size_in modules
  pub slots : map slots_in now ≡ map slots_in modules
  pub same_regions : map region_in regions_now ≡ map region_in regions
  pub together : IsTogether now regions_now
