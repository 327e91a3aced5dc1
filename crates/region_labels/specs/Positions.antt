-- Slots of the modules of a region, by position.
use Rattle.std.specs.Prelude.{◌≡◌, ℕ, ◌<◌, ◌≤◌, List, Option, Some, None, find, length}
use Rattle.std.specs.Option.{option_map_or}
use Rattle.index_block.specs.Bitmap.{free_count}
use Rattle.label_codec.specs.ModuleLabels.{Labels}
use Rattle.region_map.specs.declared.platform.Platform.{Platform}
use Rattle.region_map.specs.declared.platform.Region.{Region}
use Rattle.label_table.specs.Belonging.{member_at}
use Rattle.label_table.specs.Fates.{spare}
use Rattle.region_labels.specs.declared.modules.LoadedModule.{LoadedModule}
use Rattle.region_labels.specs.declared.modules.ModuleArea.{ModuleArea}
use Rattle.region_labels.specs.declared.modules.ModuleArea.TheVariants.{Missing, WrongSize, Uninit, Foreign, Ready}
use Rattle.region_labels.specs.Modules.{is_of}
use Rattle.region_labels.specs.declared.positions.ModuleSpare.{ModuleSpare}

-- the free slots of an area: those that the current index block says to be free
abbrev pub free_slots_of : ModuleArea → ℕ
free_slots_of Missing = 0
free_slots_of (WrongSize size) = 0
free_slots_of (Uninit size) = 0
free_slots_of (Foreign size) = 0
free_slots_of (Ready area) = free_count area.free area.geometry.slots

-- those of the module with a device handle
abbrev pub free_slots : List LoadedModule → ℕ → ℕ
free_slots modules handle =
    option_map_or (λ (loaded : LoadedModule). free_slots_of loaded.area) (find (is_of handle) modules) 0

-- how many slots of the module at a position are left for new labels
abbrev pub spare_at : Platform → Labels → Region → ℕ → ℕ
spare_at platform labels region position = spare platform labels (member_at region position).handle

-- the modules at the positions below one have so many spare slots
abbrev pub HaveSpareBelow : Platform → Labels → Region → ℕ → ℕ → Type 0
HaveSpareBelow platform labels region least end =
    (position : ℕ) → position < end → least ≤ spare_at platform labels region position

-- the first position whose module has fewer
pub record IsFirstBelow (platform : Platform) (labels : Labels) (region : Region) (least : ℕ)
    (found : ModuleSpare) : Type 0 where
  pub within : found.position < length region.members
  pub dimm_is : found.dimm ≡ (member_at region found.position).handle
  pub spare_is : found.spare ≡ spare_at platform labels region found.position
  pub few : found.spare < least
  pub before : HaveSpareBelow platform labels region least found.position

abbrev pub IsFirstWithoutSpare : Platform → Labels → Region → ℕ → Option ModuleSpare → Type 0
IsFirstWithoutSpare platform labels region least None =
    HaveSpareBelow platform labels region least (length region.members)
IsFirstWithoutSpare platform labels region least (Some found) = IsFirstBelow platform labels region least found
