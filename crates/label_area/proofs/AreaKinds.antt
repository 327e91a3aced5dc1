-- The kind of an area, by what stands at the places of index blocks.
use Rattle.std.proofs.Common.{◌≡◌, ◌≢◌, ◌||◌, ◌&&◌, ℕ, Bool, true, false, List, Option, Some, None, is_some, refl, sym, ap, ◌∙◌}
use Rattle.std.specs.Prelude.{if◌then◌else◌, not, ◌==◌}
use Rattle.std.specs.Option.{option_and_then}
use Rattle.std.proofs.lemmas.Bool.{and_parts}
use Rattle.index_block.specs.declared.blocks.BlockKind.{BlockKind}
use Rattle.index_block.specs.declared.blocks.BlockKind.TheVariants as kind
use Rattle.index_block.specs.declared.geometry.Geometry.{Geometry}
use Rattle.index_block.specs.declared.geometry.Place.{Place}
use Rattle.index_block.specs.declared.geometry.Place.TheVariants.{First, Second}
use Rattle.index_block.specs.Blocks.{has_fields, is_signed, is_usable, kind_of, seq_of}
use Rattle.index_block.specs.Current.{current_place, is_followed_by}
use Rattle.label_codec.specs.declared.kind.AreaKind.TheVariants.{Ready, Foreign, Uninit}
use Rattle.label_area.specs.declared.blocks.BlockKinds.{BlockKinds}
use Rattle.label_area.specs.declared.blocks.Current.{Current}
use Rattle.label_area.specs.Blocks.{current_by, is_block, kind_among, kind_by_blocks, seq_in, usable_at}

usable-signed : (place : Place) (g : Geometry) (window : List ℕ) → is_usable place g window ≡ true → is_signed window ≡ true
unfolding is_usable
usable-signed place g window usable =
    (and_parts (is_signed window) (not (seq_of window == 0)) (and_parts (is_signed window && not (seq_of window == 0)) (has_fields place g window) usable).0).0

-- a signed block stands in a window where the window begins with one
pub is_block-kind : (place : Place) (g : Geometry) (window : List ℕ) → is_block (kind_of place g window) ≡ is_signed window
is_block-kind place g window = of (is_usable place g window) (is_signed window) (seq_of window) (usable-signed place g window)
  where
    of : (usable signed : Bool) (seq : ℕ) → (usable ≡ true → signed ≡ true) → is_block (if usable then kind.Usable seq else if signed then kind.Foreign else kind.Unsigned) ≡ signed
    of true signed seq h = let e : signed ≡ true = h refl in cc
    of false true seq h = refl
    of false false seq h = refl

unsigned : (at : BlockKind) → is_block at ≡ false → at ≡ kind.Unsigned
unsigned kind.Unsigned is = refl
unsigned kind.Foreign is = absurd cc
unsigned (kind.Usable seq) is = absurd cc

-- what stands where no signed block does
pub kind_of-unsigned : (place : Place) (g : Geometry) (window : List ℕ) → is_signed window ≡ false → kind_of place g window ≡ kind.Unsigned
kind_of-unsigned place g window without = unsigned (kind_of place g window) (is_block-kind place g window ∙ without)

-- with a current block the area is Ready
pub ready : (f : Place → Option Current) (first second old_second : BlockKind) (current : Current) → option_and_then f (current_place (seq_in first) (seq_in second)) ≡ Some current
    → kind_by_blocks (record { first = first; second = second; old_second = old_second }) ≡ Ready
ready f (kind.Usable a) second old_second current is = refl
ready f kind.Unsigned (kind.Usable b) old_second current is = refl
ready f kind.Foreign (kind.Usable b) old_second current is = refl
ready f kind.Unsigned kind.Unsigned old_second current is = absurd cc
ready f kind.Unsigned kind.Foreign old_second current is = absurd cc
ready f kind.Foreign kind.Unsigned old_second current is = absurd cc
ready f kind.Foreign kind.Foreign old_second current is = absurd cc

-- without one it is Foreign or Uninit
module _ (g : Geometry) where
  not_ready : (first second old_second : BlockKind) → current_by g (kind_among (record { first = first; second = second; old_second = old_second })) ≡ None
      → (is_some (seq_in first) || is_some (seq_in second)) ≡ false
  not_ready (kind.Usable a) (kind.Usable b) old_second none =
      by_order (is_followed_by b a) (usable_at g (kind_among (record { first = kind.Usable a; second = kind.Usable b; old_second = old_second }))) refl refl none
    where
      by_order : (newer : Bool) (f : Place → Option Current) → is_some (f First) ≡ true → is_some (f Second) ≡ true → option_and_then f (if newer then Some First else Some Second) ≡ None → true ≡ false
      by_order true f first second none = sym first ∙ ap is_some none
      by_order false f first second none = sym second ∙ ap is_some none
  not_ready (kind.Usable a) kind.Unsigned old_second none = absurd cc
  not_ready (kind.Usable a) kind.Foreign old_second none = absurd cc
  not_ready kind.Unsigned (kind.Usable b) old_second none = absurd cc
  not_ready kind.Foreign (kind.Usable b) old_second none = absurd cc
  not_ready kind.Unsigned kind.Unsigned old_second none = refl
  not_ready kind.Unsigned kind.Foreign old_second none = refl
  not_ready kind.Foreign kind.Unsigned old_second none = refl
  not_ready kind.Foreign kind.Foreign old_second none = refl

  pub not_foreign : (kinds : BlockKinds) → current_by g (kind_among kinds) ≡ None → kind_by_blocks kinds ≢ Foreign → kind_by_blocks kinds ≡ Uninit
  not_foreign kinds none other =
      by (is_some (seq_in kinds.first) || is_some (seq_in kinds.second)) (is_block kinds.first || is_block kinds.second || is_block kinds.old_second)
      (not_ready kinds.first kinds.second kinds.old_second none) other
    where
      by : (usable signed : Bool) → usable ≡ false → (if usable then Ready else if signed then Foreign else Uninit) ≢ Foreign → (if usable then Ready else if signed then Foreign else Uninit) ≡ Uninit
      by true signed none other = absurd cc
      by false true none other = absurd (other refl)
      by false false none other = refl

-- an area that is neither Ready nor Uninit is Foreign
pub foreign : (kinds : BlockKinds) → kind_by_blocks kinds ≢ Uninit → kind_by_blocks kinds ≢ Ready → kind_by_blocks kinds ≡ Foreign
foreign kinds = by (is_some (seq_in kinds.first) || is_some (seq_in kinds.second)) (is_block kinds.first || is_block kinds.second || is_block kinds.old_second)
  where
    by : (usable signed : Bool) → (if usable then Ready else if signed then Foreign else Uninit) ≢ Uninit → (if usable then Ready else if signed then Foreign else Uninit) ≢ Ready
        → (if usable then Ready else if signed then Foreign else Uninit) ≡ Foreign
    by true signed uninit ready = absurd (ready refl)
    by false true uninit ready = refl
    by false false uninit ready = absurd (uninit refl)

-- at no place of an area that is Uninit stands a signed block
pub none_are_blocks : (kinds : BlockKinds) → kind_by_blocks kinds ≡ Uninit → (is_block kinds.first || is_block kinds.second || is_block kinds.old_second) ≡ false
none_are_blocks kinds = by (is_some (seq_in kinds.first) || is_some (seq_in kinds.second)) (is_block kinds.first || is_block kinds.second || is_block kinds.old_second)
  where
    by : (usable signed : Bool) → (if usable then Ready else if signed then Foreign else Uninit) ≡ Uninit → signed ≡ false
    by true signed is = absurd cc
    by false true is = absurd cc
    by false false is = refl
