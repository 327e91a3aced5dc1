-- Where the parts of a label storage area stand (UEFI 2.7, section 13.19). An area of some size, with labels of L bytes
-- and index blocks of I bytes:
--
--     0           I           2 I       2 I + L     2 I + 2 L
--     +-----------+-----------+---------+-----------+---- .. ----+--------+
--     | block 0   | block 1   | slot 0  | slot 1    |            | unused |
--     +-----------+-----------+---------+-----------+---- .. ----+--------+
use Rattle.std.specs.Prelude.{◌≡◌, ◌≤◌, ℕ, ◌+◌, ◌-◌, ◌*◌, ◌/◌, ◌%◌, ◌==◌, ◌&&◌, ◌||◌, Bool, Option, Some, None}
use Rattle.std.specs.Prelude.{if◌then◌else◌, nat_le}
use Rattle.index_block.specs.declared.geometry.Geometry.{Geometry}
use Rattle.index_block.specs.declared.geometry.Place.{Place}
use Rattle.index_block.specs.declared.geometry.Place.TheVariants.{First, Second}

-- the least and the greatest size of an area, and what the sizes of areas and of index blocks are multiples of, in
-- bytes
abbrev pub least_area : ℕ
least_area = 1024

abbrev pub greatest_area : ℕ
greatest_area = 1048576

abbrev pub size_unit : ℕ
size_unit = 256

-- the bytes of a label of version 1.2, and of one of version 1.1
abbrev pub label_bytes : ℕ
label_bytes = 256

abbrev pub old_label_bytes : ℕ
old_label_bytes = 128

-- the offset of the bitmap in an index block
abbrev pub bitmap_at : ℕ
bitmap_at = 72

-- how many bytes are looked at from the place of an index block on, at most
abbrev pub window_bytes : ℕ
window_bytes = 4096

-- the sizes that an area may have, in bytes
abbrev pub is_accepted : ℕ → Bool
is_accepted size = nat_le least_area size && nat_le size greatest_area && (size % size_unit == 0)

-- the sizes that its labels may have, in bytes
abbrev pub is_label_size : ℕ → Bool
is_label_size label = (label == old_label_bytes) || (label == label_bytes)

-- the least multiple of m that is at least n
abbrev pub rounded_up : ℕ → ℕ → ℕ
rounded_up m n = (n + (m - 1)) / m * m

-- how many bytes have a bit for each slot
abbrev pub bitmap_len : ℕ → ℕ
bitmap_len slots = (slots + 7) / 8

-- the size I of an index block: the fields and a bit for each label that the whole area could hold, rounded up
abbrev pub block_size : ℕ → ℕ → ℕ
block_size size label = rounded_up size_unit (bitmap_at + bitmap_len (size / label))

-- as many slots as fit behind the two blocks
abbrev pub slot_count : ℕ → ℕ → ℕ
slot_count size label = (size - 2 * block_size size label) / label

abbrev pub geometry_of : ℕ → ℕ → Option Geometry
geometry_of size label = if is_accepted size && is_label_size label
    then Some (record { label = label; block = block_size size label; slots = slot_count size label })
    else None

-- In an area of this size a block is the least multiple of 256 with room for the fields and the bits; the blocks and
-- the slots lie inside the area; the bitmap has a bit for each slot; and a window holds a block.
pub record FitsIn (size : ℕ) (g : Geometry) : Type 0 where
  pub aligned : g.block % size_unit ≡ 0
  pub room : bitmap_at + bitmap_len (size / g.label) ≤ g.block
  pub least : (n : ℕ) → n % size_unit ≡ 0 → bitmap_at + bitmap_len (size / g.label) ≤ n → g.block ≤ n
  pub within : 2 * g.block + g.slots * g.label ≤ size
  pub bits : g.slots ≤ 8 * (g.block - bitmap_at)
  pub window : g.block ≤ window_bytes

-- the geometry of some area
abbrev pub IsGeometry : Geometry → Type 0
IsGeometry g = (size : ℕ) × (geometry_of size g.label ≡ Some g)

-- the offset of an index block
abbrev pub place_offset : Geometry → Place → ℕ
place_offset g First = 0
place_offset g Second = g.block

abbrev pub other_place : Place → Place
other_place First = Second
other_place Second = First

-- the offset of a slot
abbrev pub slot_offset : Geometry → ℕ → ℕ
slot_offset g slot = 2 * g.block + slot * g.label
