-- What is kept of an area that is initialised, without reading it back.
use Rattle.std.specs.Prelude.{◌≡◌, ◌<◌, ℕ, true, Option, Some, None}
use Rattle.std.specs.FinMap.{get}
use Rattle.rig_trait.specs.Areas.{Areas, size_in}
use Rattle.index_block.specs.Bitmap.{is_free_in}
use Rattle.index_block.specs.Geometry.{geometry_of}
use Rattle.label_codec.specs.declared.kind.AreaKind.TheVariants.{Uninit}
use Rattle.label_area.specs.Inits.{initialised}
use Rattle.label_area.specs.LoadedAreas.{LoadedArea, size_of}
use Rattle.label_area.specs.Loads.{IsShown}
use Rattle.label_area.specs.Modules.{area_kind}

-- An area of this size without labels. It is the one that is stored once an Uninit one of the size is initialised.
pub record IsVacantArea (dimm size : ℕ) (area : LoadedArea) : Type 0 where
  pub dimm_is : area.dimm ≡ dimm
  pub geometry_is : geometry_of size 256 ≡ Some area.geometry
  pub size_is : size_of area ≡ size
  pub all_free : (slot : ℕ) → slot < area.geometry.slots → is_free_in area.free slot ≡ true
  pub no_label : (slot : ℕ) → get area.live slot ≡ None
  pub shown : (areas : Areas) → area_kind (get areas dimm) ≡ Uninit → size_in areas dimm ≡ Some size
      → IsShown area (initialised dimm areas)

-- the area of a module, where areas can have this size
abbrev pub IsVacantOf : ℕ → ℕ → Option LoadedArea → Type 0
IsVacantOf dimm size None = geometry_of size 256 ≡ None
IsVacantOf dimm size (Some area) = IsVacantArea dimm size area
