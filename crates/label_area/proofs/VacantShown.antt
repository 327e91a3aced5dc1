-- An area without labels is the one that is stored once it is initialised.
use Rattle.std.proofs.Common.{◌≡◌, ℕ, ◌<◌, true, List, length, get_or, Option, Some, None, refl, sym, ap, subst, ◌∙◌}
use Rattle.std.specs.FinMap.{get}
use Rattle.std.specs.Option.{option_map}
use Rattle.byte_ranges.specs.Ranges.{patched}
use Rattle.rig_trait.specs.Areas.{Areas}
use Rattle.index_block.specs.declared.geometry.Geometry.{Geometry}
use Rattle.index_block.specs.declared.geometry.Place.TheVariants.{First}
use Rattle.index_block.specs.Bitmap.{is_free_in}
use Rattle.index_block.specs.Geometry.{FitsIn, geometry_of}
use Rattle.label_codec.specs.declared.label.Label.{Label}
use Rattle.label_codec.specs.declared.kind.AreaKind.TheVariants.{Ready, Uninit}
use Rattle.label_area.specs.declared.blocks.Current.{Current}
use Rattle.label_area.specs.Blocks.{current_block}
use Rattle.label_area.specs.Inits.{IsVacant, first_block, initialised, second_block}
use Rattle.label_area.specs.Kept.{live_of}
use Rattle.label_area.specs.LoadedAreas.{LoadedArea}
use Rattle.label_area.specs.Loads.{IsShown}
use Rattle.label_area.specs.Modules.{area_kind, module_of}
use Rattle.label_area.specs.Slots.{free_bits}
use Rattle.label_area.specs.VacantAreas.{IsVacantArea}
use Rattle.label_area.proofs.Initialised.{both_stored, current-now, found-now, initialised-stored, size-now, vacant-now}
use Rattle.label_area.proofs.LabelsBySlot.{get-live_of}
use Rattle.label_area.proofs.Shown.{block_is}
use Rattle.label_area.proofs.Sizes.{size_is}
use Rattle.label_area.proofs.Vacant.{current_with}

some-same : {A : Type 0} (a b : A) → Some a ≡ Some b → a ≡ b
some-same a b e = cc

-- an area with this layout, with no label and all slots free
module _ (dimm size : ℕ) (g : Geometry) (found : geometry_of size 256 ≡ Some g) (fits : FitsIn size g) (free : List ℕ) (labels : List (Option Label))
    (all_free : (slot : ℕ) → slot < g.slots → is_free_in free slot ≡ true) (none : (slot : ℕ) → get_or labels slot None ≡ None) where
  abbrev pub kept : LoadedArea
  kept = record { dimm = dimm; geometry = g; place = First; seq = 3; free = free; live = live_of labels }

  no_label : (slot : ℕ) → get (live_of labels) slot ≡ None
  no_label slot = get-live_of slot labels ∙ none slot

  shown-stored : (areas : Areas) (bytes : List ℕ) → get areas dimm ≡ Some bytes → length bytes ≡ size → area_kind (get areas dimm) ≡ Uninit → IsShown kept (initialised dimm areas)
  shown-stored areas bytes stored long uninit =
      let found_bytes : geometry_of (length bytes) 256 ≡ Some g = ap (λ (n : ℕ). geometry_of n 256) long ∙ found in
      let now : List ℕ = patched (patched bytes 0 (first_block g)) g.block (second_block g) in
      let is_now : get (initialised dimm areas) dimm ≡ Some now = ap (λ a. get a dimm) (initialised-stored areas dimm bytes g stored found_bytes) ∙ both_stored areas dimm bytes g stored found_bytes in
      let current : current_block (Some now) ≡ Some (current_with g First 3) =
      block_is now g (found-now areas dimm bytes g stored found_bytes uninit) (current_with g First 3) (current-now areas dimm bytes g stored found_bytes uninit) in
      let vacant : IsVacant (Some now) g.slots = vacant-now areas dimm bytes g stored found_bytes uninit in
      let same : vacant.current ≡ current_with g First 3 = some-same vacant.current (current_with g First 3) (sym vacant.current_is ∙ current) in
      record {
        bytes = now;
        is_area = is_now;
        size_is = size-now areas dimm bytes g stored found_bytes uninit ∙ long ∙ size_is size g found fits;
        current_is = current;
        free_is = λ slot below. all_free slot below ∙ sym (subst (λ (c : Current). is_free_in (free_bits c now) slot ≡ true) same (vacant.free slot below));
        module_is = ap module_of is_now ∙ vacant.module_is ∙ (λ i. record { kind = Ready; slots = g.slots; at = λ slot. sym (no_label slot) i });
      }

  shown-sized : (areas : Areas) (stored : Option (List ℕ)) → get areas dimm ≡ stored → option_map length stored ≡ Some size → area_kind (get areas dimm) ≡ Uninit → IsShown kept (initialised dimm areas)
  shown-sized areas None is sized uninit = absurd cc
  shown-sized areas (Some bytes) is sized uninit = shown-stored areas bytes is (some-same (length bytes) size sized) uninit

  pub vacant-area : IsVacantArea dimm size kept
  vacant-area = record {
    dimm_is = refl;
    geometry_is = found;
    size_is = sym (size_is size g found fits);
    all_free = all_free;
    no_label = no_label;
    shown = λ areas uninit sized. shown-sized areas (get areas dimm) refl sized uninit;
  }
