-- What makes an index block signed, and usable (UEFI 2.7, section 13.19). A window is the bytes from the block's place
-- to the end of the area, at most `window_bytes`. All numbers are little-endian.
--
--     offset  bytes  field
--          0     16  Sig        "NAMESPACE_INDEX" and a zero byte
--         16      3  Flags      not looked at
--         19      1  LabelSize  labels have 128 * 2^LabelSize bytes
--         20      4  Seq        its two low bits are the sequence number
--         24      8  MyOff      the offset of this block
--         32      8  MySize     the size of this block
--         40      8  OtherOff   the offset of the other block
--         48      8  LabelOff   the offset of slot 0
--         56      4  NSlot      how many slots there are
--         60      2  Major      the version is Major.Minor
--         62      2  Minor
--         64      8  Checksum   of the MySize bytes, with this field as zero
--         72         Free       a bit for each slot, 1 where it is free; then bytes that are not looked at
use Rattle.std.specs.Prelude.{ℕ, ◌%◌, ◌==◌, ◌&&◌, Bool, List, [], ◌∷◌, ◌++◌, length, drop, take, codes, if◌then◌else◌}
use Rattle.std.specs.Prelude.{nat_eq, nat_le, not, slice_index}
use Rattle.std.specs.List.{starts_with}
use Rattle.byte_ranges.specs.Ranges.{range, number_at}
use Rattle.fletcher64.specs.Sums.{has_checksum}
use Rattle.index_block.specs.declared.geometry.Geometry.{Geometry}
use Rattle.index_block.specs.declared.geometry.Place.{Place}
use Rattle.index_block.specs.declared.blocks.BlockKind.{BlockKind}
use Rattle.index_block.specs.declared.blocks.BlockKind.TheVariants.{Unsigned, Foreign, Usable}
use Rattle.index_block.specs.Current.{IsSeq}
use Rattle.index_block.specs.Geometry.{bitmap_at, bitmap_len, old_label_bytes, place_offset, other_place, size_unit}
use Rattle.index_block.specs.Geometry.{slot_offset}

abbrev pub signature : List ℕ
signature = codes "NAMESPACE_INDEX" ++ 0 ∷ []

abbrev pub my_size : List ℕ → ℕ
my_size window = number_at 8 window 32

-- the sequence number
abbrev pub seq_of : List ℕ → ℕ
seq_of window = number_at 4 window 20 % 4

-- the size that a block tells is one that a block can have, and the window holds it
abbrev pub has_size : List ℕ → Bool
has_size window = (my_size window % size_unit == 0) && nat_le size_unit (my_size window)
    && nat_le (my_size window) (length window)

-- the block's own bytes
abbrev pub block_in : List ℕ → List ℕ
block_in window = range window 0 (my_size window)

-- the offset of the checksum
abbrev pub block_checksum_at : ℕ
block_checksum_at = 64

-- a block has the signature, and the checksum of all its bytes
abbrev pub is_sound : List ℕ → Bool
is_sound block = starts_with nat_eq block signature && has_checksum block block_checksum_at

-- a sound block stands at the front of the window, written for this place or for another: its own bytes alone decide
unfoldable pub is_signed : List ℕ → Bool
is_signed window = has_size window && is_sound (block_in window)

-- its own offset and size, and the offsets of the other block and of slot 0, are those of the place
abbrev pub has_offsets : Place → Geometry → List ℕ → Bool
has_offsets place g window = (number_at 8 window 24 == place_offset g place)
    && (my_size window == g.block)
    && (number_at 8 window 40 == place_offset g (other_place place))
    && (number_at 8 window 48 == slot_offset g 0)

-- LabelSize for labels of this many bytes
abbrev pub label_size_of : ℕ → ℕ
label_size_of label = if label == old_label_bytes then 0 else 1

-- the minor version for labels of this many bytes
abbrev pub minor_of : ℕ → ℕ
minor_of label = if label == old_label_bytes then 1 else 2

-- the size and the number of its labels are those of the geometry, and the version is the one for labels of that size
abbrev pub has_labels : Geometry → List ℕ → Bool
has_labels g window = (slice_index window 19 == label_size_of g.label)
    && (number_at 4 window 56 == g.slots)
    && (number_at 2 window 60 == 1)
    && (number_at 2 window 62 == minor_of g.label)

-- the fields are those of the place in the geometry
unfoldable pub has_fields : Place → Geometry → List ℕ → Bool
has_fields place g window = has_offsets place g window && has_labels g window

-- it was written for this place, with a sequence number
unfoldable pub is_usable : Place → Geometry → List ℕ → Bool
is_usable place g window = is_signed window && not (seq_of window == 0) && has_fields place g window

-- what stands at a place, of the three
abbrev pub kind_of : Place → Geometry → List ℕ → BlockKind
kind_of place g window = if is_usable place g window then Usable (seq_of window)
    else if is_signed window then Foreign
    else Unsigned

-- a usable block has a sequence number
abbrev pub IsNumbered : BlockKind → Type 0
IsNumbered (Usable seq) = IsSeq seq
IsNumbered Foreign = Unit {0}
IsNumbered Unsigned = Unit {0}

-- the bytes behind the fields
abbrev pub free_map : List ℕ → List ℕ
free_map window = drop bitmap_at window

-- the bitmap of the slots
abbrev pub bitmap_of : Geometry → List ℕ → List ℕ
bitmap_of g window = take (bitmap_len g.slots) (free_map window)
