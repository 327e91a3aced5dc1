-- What an area that was loaded shows of the bytes that it was loaded from.
use Rattle.std.proofs.Common.{◌≡◌, ℕ, ◌+◌, ◌*◌, List, [], length, Option, Some, None, refl, sym, ap, ◌∙◌}
use Rattle.std.specs.Prelude.{unwrap_or}
use Rattle.std.specs.FinMap.{get}
use Rattle.std.specs.Option.{option_and_then, option_map}
use Rattle.rig_trait.specs.Areas.{Areas, area, size_in}
use Rattle.index_block.specs.declared.geometry.Geometry.{Geometry}
use Rattle.index_block.specs.declared.geometry.Place.{Place}
use Rattle.index_block.specs.declared.geometry.Place.TheVariants.{First, Second}
use Rattle.index_block.specs.Geometry.{FitsIn, geometry_of}
use Rattle.label_codec.specs.declared.kind.AreaKind.TheVariants.{Ready}
use Rattle.label_area.specs.declared.blocks.BlockKinds.{BlockKinds}
use Rattle.label_area.specs.declared.blocks.Current.{Current}
use Rattle.label_area.specs.declared.layouts.Layouts.{Layouts}
use Rattle.label_area.specs.Blocks.{current_block, current_in, current_by, kind_among, kind_at, kind_by_blocks, kinds_in}
use Rattle.label_area.specs.Kept.{loaded_from}
use Rattle.label_area.specs.Layouts.{layouts_of}
use Rattle.label_area.specs.Loads.{IsShown}
use Rattle.label_area.specs.Modules.{area_kind, kind_by_layouts, live_by, module_of, slots_by}
use Rattle.label_area.proofs.AreaKinds.{ready}
use Rattle.label_area.proofs.LabelsBySlot.{get-live_labels}
use Rattle.label_area.proofs.Sizes.{layouts_found, size_is, sized}

module _ (bytes : List ℕ) (g : Geometry) (found : geometry_of (length bytes) 256 ≡ Some g) where
  -- the kind of an area with a layout
  pub kind_is : area_kind (Some bytes) ≡ kind_by_blocks (kinds_in (record { own = g; old = sized (length bytes) 128 }) bytes)
  kind_is = ap (λ layouts. kind_by_layouts layouts bytes) (layouts_found (length bytes) g found)

  pub block_is : (current : Current) → current_in g bytes ≡ Some current → current_block (Some bytes) ≡ Some current
  block_is current is = ap (option_and_then (λ h. current_in h bytes)) found ∙ is

  -- with a current block it is Ready
  pub ready_is : (current : Current) → current_in g bytes ≡ Some current → area_kind (Some bytes) ≡ Ready
  ready_is current is = kind_is ∙ ready _ (kind_at g bytes First) (kind_at g bytes Second) (kind_at (sized (length bytes) 128) bytes Second) current is

module _ (size : ℕ) (layouts : Layouts) where
  kind_stored : (stored : Option (List ℕ)) → option_map length stored ≡ Some size → Some layouts ≡ layouts_of size → area_kind stored ≡ kind_by_blocks (kinds_in layouts (unwrap_or stored []))
  kind_stored None sized found = absurd cc
  kind_stored (Some bytes) sized found =
      let len : length bytes ≡ size = cc in
      ap (λ l. kind_by_layouts l bytes) (ap (λ (n : ℕ). layouts_of n) len ∙ sym found)

  -- the kind of an area, by what was found in it while it stayed as it is
  pub kind_looked : (areas mid : Areas) (dimm : ℕ) (kinds : BlockKinds) → mid ≡ areas → size_in areas dimm ≡ Some size → Some layouts ≡ layouts_of size → kinds ≡ kinds_in layouts (area mid dimm)
      → area_kind (get areas dimm) ≡ kind_by_blocks kinds
  kind_looked areas mid dimm kinds same sized found is =
      kind_stored (get areas dimm) sized found ∙ ap kind_by_blocks (sym (is ∙ ap (λ a. kinds_in layouts (area a dimm)) same))

-- the current one among what stands in an area is the current block of the area
pub current_among : (layouts : Layouts) (bytes : List ℕ) → current_by layouts.own (kind_among (kinds_in layouts bytes)) ≡ current_in layouts.own bytes
current_among layouts bytes = λ i. current_by layouts.own (λ place. same place i)
  where
    same : (place : Place) → kind_among (kinds_in layouts bytes) place ≡ kind_at layouts.own bytes place
    same First = refl
    same Second = refl

module _ (dimm : ℕ) (current : Current) (bytes : List ℕ) where
  pub shown : (areas : Areas) (g : Geometry) → get areas dimm ≡ Some bytes → geometry_of (length bytes) 256 ≡ Some g → FitsIn (length bytes) g → current.geometry ≡ g → current_in g bytes ≡ Some current
      → IsShown (loaded_from dimm current bytes) areas
  shown areas g stored found fits same is =
      let block = block_is bytes g found current is in
      let kind = ready_is bytes g found current is in
      record {
        bytes = bytes;
        is_area = stored;
        size_is = size_is (length bytes) g found fits ∙ ap (λ (h : Geometry). 2 * h.block + h.slots * h.label) (sym same);
        current_is = block;
        free_is = λ slot below. refl;
        module_is = ap module_of stored
            ∙ (λ i. record { kind = kind i; slots = slots_by (block i); at = live_by (block i) bytes })
            ∙ (λ i. record { kind = Ready; slots = current.geometry.slots; at = λ slot. sym (get-live_labels current bytes slot) i });
      }
