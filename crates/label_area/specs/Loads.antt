-- What an area that was loaded shows of the areas that are stored.
use Rattle.std.specs.Prelude.{◌≡◌, ◌<◌, ℕ, List, Some, Result, Ok, Err, IfSome, length}
use Rattle.std.specs.FinMap.{get}
use Rattle.rig_trait.specs.Areas.{Areas, size_in}
use Rattle.index_block.specs.Bitmap.{is_free_in}
use Rattle.label_codec.specs.declared.kind.AreaKind.TheVariants.{Ready}
use Rattle.label_area.specs.declared.load.AreaFault.{AreaFault}
use Rattle.label_area.specs.Blocks.{current_block}
use Rattle.label_area.specs.Faults.{load_kind, load_size}
use Rattle.label_area.specs.LoadedAreas.{LoadedArea, block_of, size_of}
use Rattle.label_area.specs.Modules.{area_kind, module_at}
use Rattle.label_area.specs.Slots.{free_bits}

-- The area is the one that is stored for its module: it shows that module, and the bits of its current index block.
pub record IsShown (area : LoadedArea) (areas : Areas) : Type 0 where
  pub bytes : List ℕ
  pub is_area : get areas area.dimm ≡ Some bytes
  pub size_is : length bytes ≡ size_of area
  pub current_is : current_block (Some bytes) ≡ Some (block_of area)
  pub free_is : (slot : ℕ) → slot < area.geometry.slots
      → is_free_in area.free slot ≡ is_free_in (free_bits (block_of area) bytes) slot
  pub module_is : module_at areas area.dimm ≡ record { kind = Ready; slots = area.geometry.slots; at = get area.live }

-- What a fault tells of an area holds of it: its kind, and its size where it has one.
pub record IsFaultOf (dimm : ℕ) (areas : Areas) (fault : AreaFault) : Type 0 where
  pub kind_is : IfSome (load_kind fault) (λ kind. area_kind (get areas dimm) ≡ kind)
  pub size_is : IfSome (load_size fault) (λ size. size_in areas dimm ≡ Some size)

-- the area is the one that is stored, or the fault tells why it isn't loaded
abbrev pub Loads : ℕ → Areas → Result LoadedArea AreaFault → Type 0
Loads dimm areas (Ok area) = IsShown area areas
Loads dimm areas (Err fault) = IsFaultOf dimm areas fault
