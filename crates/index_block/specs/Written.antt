-- The bytes of an index block that is written (UEFI 2.7, section 13.19): the fields, as `Blocks` places them, then a
-- bit for each slot, and zeros.
use Rattle.std.specs.Prelude.{ℕ, ◌+◌, ◌-◌, ◌/◌, ◌%◌, ◌^◌, List, [], ◌∷◌, ◌++◌, replicate, take, slice_index}
use Rattle.byteorder.specs.Endian.{little_bytes}
use Rattle.fletcher64.specs.Sums.{with_checksum}
use Rattle.index_block.specs.declared.geometry.Geometry.{Geometry}
use Rattle.index_block.specs.declared.geometry.Place.{Place}
use Rattle.index_block.specs.Geometry.{bitmap_at, place_offset, other_place, slot_offset}
use Rattle.index_block.specs.Blocks.{block_checksum_at, label_size_of, minor_of, signature}

-- the fields, with a zero for the checksum
abbrev pub fields_text : Place → ℕ → Geometry → List ℕ
fields_text place seq g = signature
    ++ replicate 3 0
    ++ label_size_of g.label ∷ []
    ++ little_bytes 4 seq
    ++ little_bytes 8 (place_offset g place)
    ++ little_bytes 8 g.block
    ++ little_bytes 8 (place_offset g (other_place place))
    ++ little_bytes 8 (slot_offset g 0)
    ++ little_bytes 4 g.slots
    ++ little_bytes 2 1
    ++ little_bytes 2 (minor_of g.label)
    ++ little_bytes 8 0

-- the free bits of this many slots in this many bytes, more than the bits fill: whole bytes, the low bits of the next
-- byte, and zeros
unfoldable pub map_text : ℕ → ℕ → List ℕ → List ℕ
map_text size slots free = take (slots / 8) free
    ++ (slice_index free (slots / 8) % 2 ^ (slots % 8)) ∷ []
    ++ replicate (size - (slots / 8 + 1)) 0

-- the block with a zero for the checksum
abbrev pub unchecked_text : Place → ℕ → Geometry → List ℕ → List ℕ
unchecked_text place seq g free = fields_text place seq g ++ map_text (g.block - bitmap_at) g.slots free

-- the block
unfoldable pub block_text : Place → ℕ → Geometry → List ℕ → List ℕ
block_text place seq g free = with_checksum (unchecked_text place seq g free) block_checksum_at
