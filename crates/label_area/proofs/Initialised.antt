-- What is left of an area by a stop while it is initialised, and that it is Ready without labels then.
use Rattle.std.proofs.Common.{◌≡◌, ℕ, ◌+◌, ◌*◌, ◌<◌, ◌≤◌, true, List, [], length, Option, Some, None, Result, ◌⊎◌, inl, inr, refl, sym, ap, ◌∙◌, subst, arith}
use Rattle.std.specs.Prelude.{IfSome, unwrap_or}
use Rattle.std.specs.FinMap.{get}
use Rattle.std.specs.Option.{option_and_then, option_map, option_map_or}
use Rattle.std.proofs.lemmas.List.{length-replicate}
use Rattle.byte_ranges.specs.Ranges.{range, patched}
use Rattle.byte_ranges.proofs.Patched.{length-patched, range-patched_in}
use Rattle.rig_trait.specs.declared.rig.Failed.{Failed}
use Rattle.rig_trait.specs.Areas.{Areas, IsWithin, OthersKept, area, written}
use Rattle.rig_trait.specs.Records.{CrashRecord, IsTorn, torn_write}
use Rattle.rig_trait.specs.TwoWrites.{IsInTurn, LeftByTwo, neither, first_torn, first_whole, second_torn, both}
use Rattle.rig_trait.proofs.WrittenAreas.{get-written, get-written_other, patched_same}
use Rattle.index_block.specs.declared.geometry.Geometry.{Geometry}
use Rattle.index_block.specs.declared.geometry.Place.TheVariants.{First, Second}
use Rattle.index_block.specs.Bitmap.{is_free_in}
use Rattle.index_block.specs.Blocks.{is_signed}
use Rattle.index_block.specs.Geometry.{geometry_of}
use Rattle.index_block.proofs.Behind.{is_free_in-ones}
use Rattle.index_block.proofs.Sizes.{HasSizes, sizes_of}
use Rattle.index_block.proofs.Usable.{length-block}
use Rattle.label_codec.specs.declared.kind.AreaKind.TheVariants.{Uninit, WrongSize}
use Rattle.label_area.specs.Blocks.{current_in, window_at}
use Rattle.label_area.specs.Fair.{IsBlockWrite, IsFair}
use Rattle.label_area.specs.Inits.{IsInOrder, IsVacant, IsWrittenInOrder, LeftByInit, all_free, first_block, initialised, layout_of, second_block, slots_of, with_blocks}
use Rattle.label_area.specs.Modules.{area_kind, kind_by_layouts}
use Rattle.label_area.proofs.BlocksWritten.{IsLeftAt, current-both, found-both, left_by_first, left_by_second, vacant-both, vacant-first}
use Rattle.label_area.proofs.InOrder.{in_order-first, in_order-second, in_order-untouched}
use Rattle.label_area.proofs.Sizes.{IsGeometry-found, blocks_within, slots-most}
use Rattle.label_area.proofs.Vacant.{NoneSigned, current_with, none_signed}

-- an area with this layout
pub record IsStored (stored : Option (List ℕ)) (g : Geometry) : Type 0 where
  pub bytes : List ℕ
  pub is_area : stored ≡ Some bytes
  pub found : geometry_of (length bytes) 256 ≡ Some g

pub stored_of : (stored : Option (List ℕ)) (g : Geometry) → layout_of stored ≡ Some g → IsStored stored g
stored_of None g layout = absurd cc
stored_of (Some bytes) g layout = record { bytes = bytes; is_area = refl; found = layout }

-- the area that is written
pub get-patched : (areas : Areas) (dimm : ℕ) (bytes : List ℕ) → get areas dimm ≡ Some bytes → (at : ℕ) (put : List ℕ) → get (written areas dimm at put) dimm ≡ Some (patched bytes at put)
get-patched areas dimm bytes stored at put = get-written areas dimm at put ∙ ap (λ o. Some (patched (unwrap_or o []) at put)) stored

-- a torn write
module _ (areas : Areas) (dimm : ℕ) (bytes : List ℕ) (stored : get areas dimm ≡ Some bytes) (said : List ℕ) (at : ℕ) (put : List ℕ) (c : CrashRecord) (torn : IsTorn areas said dimm at put c) where
  -- the area that it leaves
  pub get-torn : get c.areas dimm ≡ Some (patched bytes at torn.garbage)
  get-torn = ap (λ a. get a dimm) torn.areas_are ∙ get-patched areas dimm bytes stored at torn.garbage

  -- and all others are as before
  pub others-torn : OthersKept dimm areas c.areas
  others-torn q other = ap (λ a. get a q) torn.areas_are ∙ get-written_other areas dimm at torn.garbage q other

  -- where the record is fair, and the write is one of an index block
  pub torn_block : (g : Geometry) → geometry_of (length bytes) 256 ≡ Some g → length put ≡ g.block → (at ≡ 0) ⊎ (at ≡ g.block) → at + g.block ≤ length bytes → IsFair c → IsLeftAt bytes at put torn.garbage
  torn_block g found long place fits is_fair =
      let now : area c.areas dimm ≡ patched bytes at torn.garbage = ap (λ o. unwrap_or o []) get-torn in
      let before : area areas dimm ≡ bytes = ap (λ o. unwrap_or o []) stored in
      let inside : at + length torn.garbage ≤ length bytes = omega (arith, torn.same_length) in
      let size : geometry_of (length (area c.areas dimm)) 256 ≡ Some g =
      ap (λ (area : List ℕ). geometry_of (length area) 256) now ∙ ap (λ (n : ℕ). geometry_of n 256) (length-patched bytes torn.garbage at inside) ∙ found in
      let stands : torn.garbage ≡ range (area c.areas dimm) at (length put) =
      sym (ap (λ (area : List ℕ). range area at (length put)) now ∙ ap (range (patched bytes at torn.garbage) at) (sym torn.same_length) ∙ range-patched_in bytes torn.garbage at inside) in
      let block : IsBlockWrite (length (area c.areas dimm)) 256 (torn_write areas dimm at put) = record { geometry = g; geometry_is = size; length_is = long; place_is = place } in
      let what = is_fair (torn_write areas dimm at put) torn.torn_is (inl block) in
      elim what [
        | inl old ↦ inl (ap (patched bytes at) (stands ∙ old ∙ ap (λ (area : List ℕ). range area at (length put)) before) ∙ patched_same bytes at (length put) (omega arith))
        | inr (inl new) ↦ inr (inl (stands ∙ new))
        | inr (inr unsigned) ↦ inr (inr (ap (λ (area : List ℕ). is_signed (window_at area at)) (sym now) ∙ unsigned))
      ]

module _ (areas : Areas) (dimm : ℕ) (bytes : List ℕ) (g : Geometry) (stored : get areas dimm ≡ Some bytes) (found : geometry_of (length bytes) 256 ≡ Some g) where
  layout-stored : layout_of (get areas dimm) ≡ Some g
  layout-stored = ap layout_of stored ∙ found

  -- the number of its slots
  pub slots-stored : slots_of (get areas dimm) ≡ g.slots
  slots-stored = ap (λ layout. option_map_or (λ (h : Geometry). h.slots) layout 0) layout-stored

  -- to initialise it is to write the two blocks
  pub initialised-stored : initialised dimm areas ≡ with_blocks g areas dimm
  initialised-stored = ap (λ layout. option_map_or (λ h. with_blocks h areas dimm) layout areas) layout-stored

  sizes : HasSizes g
  sizes = sizes_of g (IsGeometry-found (length bytes) 256 g found)

  -- there are bits enough, and all say free
  enough : g.slots ≤ 8 * length all_free
  enough = subst (λ (n : ℕ). g.slots ≤ 8 * n) (sym (length-replicate {A = ℕ} 512 255)) (omega (arith, slots-most (length bytes) g found))

  free_bits-all : (slot : ℕ) → slot < g.slots → is_free_in all_free slot ≡ true
  free_bits-all slot below = is_free_in-ones 512 slot (omega (arith, slots-most (length bytes) g found))

  -- each block has its size
  first_block-long : length (first_block g) ≡ g.block
  first_block-long = length-block First 3 g all_free sizes (omega arith, omega arith) enough

  second_block-long : length (second_block g) ≡ g.block
  second_block-long = length-block Second 2 g all_free sizes (omega arith, omega arith) enough

  -- both lie inside the area
  two_fit : 2 * g.block ≤ length bytes
  two_fit = blocks_within (length bytes) g found

  size-first : length (patched bytes 0 (first_block g)) ≡ length bytes
  size-first = length-patched bytes (first_block g) 0 (omega (arith, two_fit, first_block-long))

  -- the areas with the blocks
  first_stored : get (written areas dimm 0 (first_block g)) dimm ≡ Some (patched bytes 0 (first_block g))
  first_stored = get-patched areas dimm bytes stored 0 (first_block g)

  pub both_stored : get (with_blocks g areas dimm) dimm ≡ Some (patched (patched bytes 0 (first_block g)) g.block (second_block g))
  both_stored = get-patched (written areas dimm 0 (first_block g)) dimm (patched bytes 0 (first_block g)) first_stored g.block (second_block g)

  others-both : OthersKept dimm areas (with_blocks g areas dimm)
  others-both q other =
      get-written_other (written areas dimm 0 (first_block g)) dimm g.block (second_block g) q other
      ∙ get-written_other areas dimm 0 (first_block g) q other

  -- both writes lie inside the area
  pub first_within : IsWithin areas dimm 0 (length (first_block g))
  first_within = record {
    is_area = rw stored refl;
    fits = rw (stored, first_block-long) (omega (arith, two_fit));
  }

  pub second_within : IsWithin areas dimm g.block (length (second_block g))
  second_within = record {
    is_area = rw stored refl;
    fits = rw (stored, second_block-long) (omega (arith, two_fit));
  }

  -- the bytes of the area are written in order
  in_order_by : (new : Areas) (now : List ℕ) → get new dimm ≡ Some now → IsWrittenInOrder g bytes now → IsInOrder dimm areas new
  in_order_by new now stored_now in_order =
      subst (λ layout. IfSome layout (λ h. IsWrittenInOrder h (area areas dimm) (area new dimm))) (sym layout-stored)
      (subst (λ (old : List ℕ). IsWrittenInOrder g old (area new dimm)) (sym (ap (λ o. unwrap_or o []) stored))
      (subst (λ (b : List ℕ). IsWrittenInOrder g bytes b) (sym (ap (λ o. unwrap_or o []) stored_now)) in_order))

  in_order_same : (new : Areas) → new ≡ areas → IsInOrder dimm areas new
  in_order_same new same = in_order_by new bytes (ap (λ a. get a dimm) same ∙ stored) (in_order-untouched g bytes two_fit)

  -- any bytes in the place of the first block
  in_order_first : (new : Areas) (garbage : List ℕ) → length garbage ≡ length (first_block g) → new ≡ written areas dimm 0 garbage → IsInOrder dimm areas new
  in_order_first new garbage long same =
      in_order_by new (patched bytes 0 garbage) (ap (λ a. get a dimm) same ∙ get-patched areas dimm bytes stored 0 garbage) (in_order-first g bytes two_fit garbage (long ∙ first_block-long))

  -- the first block, and any bytes in the place of the second
  in_order_second : (new : Areas) (garbage : List ℕ) → length garbage ≡ length (second_block g) → new ≡ written (written areas dimm 0 (first_block g)) dimm g.block garbage → IsInOrder dimm areas new
  in_order_second new garbage long same =
      in_order_by new (patched (patched bytes 0 (first_block g)) g.block garbage)
      (ap (λ a. get a dimm) same ∙ get-patched (written areas dimm 0 (first_block g)) dimm (patched bytes 0 (first_block g)) first_stored g.block garbage)
      (in_order-second g bytes two_fit first_block-long garbage (long ∙ second_block-long))

  -- two writes in turn, whatever the answer
  pub in_order_in_turn : {T : Type 0} (new : Areas) (result : Result T Failed) → IsInTurn areas new dimm 0 (first_block g) g.block (second_block g) result → IsInOrder dimm areas new
  in_order_in_turn new result turns = elim turns [
    | inl first ↦ in_order_first new first.1.garbage first.1.same_length first.1.areas_are
    | inr second ↦ in_order_second new second.garbage second.same_length second.areas_are
  ]

  module _ (is_uninit : area_kind (get areas dimm) ≡ Uninit) where
    none : NoneSigned g bytes
    none = none_signed bytes g found (sym (ap area_kind stored) ∙ is_uninit)

    -- the first block is the current one then
    pub found-now : geometry_of (length (patched (patched bytes 0 (first_block g)) g.block (second_block g))) 256 ≡ Some g
    found-now = found-both bytes g found none sizes all_free enough free_bits-all

    pub current-now : current_in g (patched (patched bytes 0 (first_block g)) g.block (second_block g)) ≡ Some (current_with g First 3)
    current-now = current-both bytes g found none sizes all_free enough free_bits-all

    pub size-now : length (patched (patched bytes 0 (first_block g)) g.block (second_block g)) ≡ length bytes
    size-now =
        let fits : g.block + length (second_block g) ≤ length (patched bytes 0 (first_block g)) = omega (arith, two_fit, size-first, second_block-long) in
        length-patched (patched bytes 0 (first_block g)) (second_block g) g.block fits ∙ size-first

    pub vacant-now : IsVacant (Some (patched (patched bytes 0 (first_block g)) g.block (second_block g))) g.slots
    vacant-now = vacant-both bytes g found none sizes all_free enough free_bits-all

    -- with both blocks the area is Ready without labels
    pub vacant : IsVacant (get (with_blocks g areas dimm) dimm) g.slots
    vacant = rw both_stored (vacant-both bytes g found none sizes all_free enough free_bits-all)

    module _ (said : List ℕ) (c : CrashRecord) where
      -- the area is left Uninit, or Ready without labels
      left_as : c.said ≡ said → OthersKept dimm areas c.areas → IsInOrder dimm areas c.areas → (IsFair c → (area_kind (get c.areas dimm) ≡ Uninit) ⊎ IsVacant (get c.areas dimm) g.slots) → LeftByInit areas said dimm c
      left_as said_is others in_order ready = record {
        said_is = said_is;
        others = others;
        in_order = in_order;
        kept = λ other. absurd (other is_uninit);
        ready = λ is_fair _. subst (λ slots. (area_kind (get c.areas dimm) ≡ Uninit) ⊎ IsVacant (get c.areas dimm) slots) (sym slots-stored) (ready is_fair);
      }

      -- it is left with these bytes, Ready without labels
      left_vacant : c.said ≡ said → OthersKept dimm areas c.areas → IsInOrder dimm areas c.areas → (now : List ℕ) → get c.areas dimm ≡ Some now → (IsFair c → IsVacant (Some now) g.slots) → LeftByInit areas said dimm c
      left_vacant said_is others in_order now stored_now vacant_now =
          left_as said_is others in_order (λ is_fair. inr (subst (λ stored. IsVacant stored g.slots) (sym stored_now) (vacant_now is_fair)))

      -- the first write was torn, or the second
      after_first_torn : IsTorn areas said dimm 0 (first_block g) c → LeftByInit areas said dimm c
      after_first_torn torn =
          left_as torn.said_is (others-torn areas dimm bytes stored said 0 (first_block g) c torn) (in_order_first c.areas torn.garbage torn.same_length torn.areas_are) (λ is_fair.
          let left = torn_block areas dimm bytes stored said 0 (first_block g) c torn g found first_block-long (inl refl) (omega (arith, two_fit)) is_fair in
          subst (λ stored. (area_kind stored ≡ Uninit) ⊎ IsVacant stored g.slots) (sym (get-torn areas dimm bytes stored said 0 (first_block g) c torn))
          (left_by_first bytes g found none sizes all_free enough free_bits-all torn.garbage (torn.same_length ∙ first_block-long) left))

      after_second_torn : IsTorn (written areas dimm 0 (first_block g)) said dimm g.block (second_block g) c → LeftByInit areas said dimm c
      after_second_torn torn =
          let mid = written areas dimm 0 (first_block g) in
          let mid_bytes = patched bytes 0 (first_block g) in
          let found_mid = ap (λ (size : ℕ). geometry_of size 256) size-first ∙ found in
          left_vacant torn.said_is
          (λ q other. others-torn mid dimm mid_bytes first_stored said g.block (second_block g) c torn q other ∙ get-written_other areas dimm 0 (first_block g) q other)
          (in_order_second c.areas torn.garbage torn.same_length torn.areas_are)
          (patched mid_bytes g.block torn.garbage) (get-torn mid dimm mid_bytes first_stored said g.block (second_block g) c torn) (λ is_fair.
          let left = torn_block mid dimm mid_bytes first_stored said g.block (second_block g) c torn g found_mid second_block-long (inr refl) (omega (arith, two_fit, size-first)) is_fair in
          left_by_second bytes g found none sizes all_free enough free_bits-all torn.garbage (torn.same_length ∙ second_block-long) left)

      -- what a stop within the two writes leaves is what one within `init` may leave
      pub left_by_init : LeftByTwo areas said dimm 0 (first_block g) g.block (second_block g) c → LeftByInit areas said dimm c
      left_by_init (neither same said_is) = left_as said_is (λ q other. ap (λ a. get a q) same) (in_order_same c.areas same) (λ _. inl (ap (λ a. area_kind (get a dimm)) same ∙ is_uninit))
      left_by_init (first_torn torn) = after_first_torn torn
      left_by_init (first_whole whole) =
          left_vacant whole.said_is (λ q other. ap (λ a. get a q) whole.areas_are ∙ get-written_other areas dimm 0 (first_block g) q other)
          (in_order_first c.areas (first_block g) refl whole.areas_are)
          (patched bytes 0 (first_block g)) (ap (λ a. get a dimm) whole.areas_are ∙ first_stored) (λ _. vacant-first bytes g found none sizes all_free enough free_bits-all)
      left_by_init (second_torn torn) = after_second_torn torn
      left_by_init (both whole) =
          left_vacant whole.said_is (λ q other. ap (λ a. get a q) whole.areas_are ∙ others-both q other)
          (in_order_second c.areas (second_block g) refl whole.areas_are)
          (patched (patched bytes 0 (first_block g)) g.block (second_block g)) (ap (λ a. get a dimm) whole.areas_are ∙ both_stored)
          (λ _. vacant-both bytes g found none sizes all_free enough free_bits-all)

-- an area that is Uninit is there, and has a size that areas can have
uninit_layout : (bytes : List ℕ) (layout : Option Geometry) → geometry_of (length bytes) 256 ≡ layout → area_kind (Some bytes) ≡ Uninit → (g : Geometry) × (geometry_of (length bytes) 256 ≡ Some g)
uninit_layout bytes None is uninit = absurd (no (ap (λ own. kind_by_layouts (option_and_then (λ own. option_map (λ old. record { own = own; old = old }) (geometry_of (length bytes) 128)) own) bytes) (sym is) ∙ uninit))
  where
    no : WrongSize ≡ Uninit → ⊥
    no e = cc
uninit_layout bytes (Some g) is uninit = (g, is)

uninit_stored : (stored : Option (List ℕ)) → area_kind stored ≡ Uninit → (bytes : List ℕ) × (stored ≡ Some bytes) × ((g : Geometry) × (geometry_of (length bytes) 256 ≡ Some g))
uninit_stored None uninit = absurd cc
uninit_stored (Some bytes) uninit = (bytes, refl, uninit_layout bytes (geometry_of (length bytes) 256) refl uninit)

-- the same in the words of `initialised`
pub vacant-initialised : (areas : Areas) (dimm : ℕ) → area_kind (get areas dimm) ≡ Uninit → IsVacant (get (initialised dimm areas) dimm) (slots_of (get areas dimm))
vacant-initialised areas dimm uninit =
    let is = uninit_stored (get areas dimm) uninit in
    let g = is.2.0 in
    let ready = vacant areas dimm is.0 g is.1 is.2.1 uninit in
    subst (IsVacant (get (initialised dimm areas) dimm)) (sym (slots-stored areas dimm is.0 g is.1 is.2.1))
    (subst (λ now. IsVacant (get now dimm) g.slots) (sym (initialised-stored areas dimm is.0 g is.1 is.2.1)) ready)
