-- The map and the lanes of an arena, as they stand in its bytes.
use Rattle.std.specs.Prelude.{ℕ, zero, suc, ◌+◌, ◌*◌, ◌/◌, ◌%◌, ◌^◌, ◌==◌, ◌&&◌, ◌||◌, Bool, List, Option, Some, None}
use Rattle.std.specs.Prelude.{not, nat_le, if◌then◌else◌}
use Rattle.std.specs.Option.{option_map_or}
use Rattle.byte_ranges.specs.Ranges.{number_at}
use Rattle.btt_arena.specs.declared.halves.Half.{Half}
use Rattle.btt_arena.specs.declared.layout.Layout.{Layout}

-- a map, by the word of each sector's entry
abbrev pub Map : Type 0
Map = ℕ → ℕ

-- the entry of a sector, as it stands
abbrev pub map_in : Layout → List ℕ → Map
map_in a bytes sector = number_at 4 bytes (a.map_at + 4 * sector)

-- the two high bits of an entry, bit 31 and bit 30: 0 for an entry never written, 1 for a bad sector, 2 for one of
-- zeros, and 3 for a normal entry
abbrev pub mark_of : ℕ → ℕ
mark_of word = word / 2 ^ 30 % 4

-- the block in the low 30 bits
abbrev pub block_in : ℕ → ℕ
block_in word = word % 2 ^ 30

-- a block with both bits set
abbrev pub normal : ℕ → ℕ
normal block = 3 * 2 ^ 30 + block

-- the block that the entry of a sector names: the sector's own number where it was never written
abbrev pub block_named : ℕ → ℕ → ℕ
block_named word sector = if mark_of word == 0 then sector else block_in word

-- where a half begins, of the lane of 64 bytes
abbrev pub half_at : Layout → ℕ → ℕ → ℕ
half_at a lane which = a.log_at + 64 * lane + 16 * which

abbrev pub half_in : Layout → List ℕ → ℕ → ℕ → Half
half_in a bytes lane which = record {
  lba = number_at 4 bytes (half_at a lane which);
  old = number_at 4 bytes (half_at a lane which + 4);
  new = number_at 4 bytes (half_at a lane which + 8);
  seq = number_at 4 bytes (half_at a lane which + 12);
}

-- the second number follows the first: 1 to 2, 2 to 3, 3 to 1
abbrev pub is_followed_by : ℕ → ℕ → Bool
is_followed_by seq next = ((seq == 1) && (next == 2)) || ((seq == 2) && (next == 3)) || ((seq == 3) && (next == 1))

-- the half with the first number is newer than that with the other: its number follows, or the other has none
abbrev pub is_newer : ℕ → ℕ → Bool
is_newer seq other = is_followed_by other seq || ((other == 0) && nat_le 1 seq && nat_le seq 3)

-- the newer one of two halves, by their numbers alone; there is at most one
abbrev pub newer_of : Half → Half → Option Half
newer_of first second = if is_newer first.seq second.seq then Some first
    else if is_newer second.seq first.seq then Some second
    else None

-- the newer half of a lane
abbrev pub newer_half : Layout → List ℕ → ℕ → Option Half
newer_half a bytes lane = newer_of (half_in a bytes lane 0) (half_in a bytes lane 1)

-- the free block of a lane: the old one of its newer half
abbrev pub free_block : Layout → List ℕ → ℕ → ℕ
free_block a bytes lane = option_map_or (λ half. block_in half.old) (newer_half a bytes lane) 0

-- a write was stopped before its last step: the map still names the old block, which differs from the new one
abbrev pub is_open_by : Half → ℕ → Bool
is_open_by half word = not (block_in half.old == block_in half.new) && (block_named word half.lba == block_in half.old)

abbrev pub is_open : Half → Map → Bool
is_open half map = is_open_by half (map half.lba)

-- a map with another entry for a sector
abbrev pub with_entry : Map → ℕ → ℕ → Map
with_entry map sector word other = if other == sector then word else map other

-- the map after a lane is completed, if it has to be
abbrev pub with_half : Half → Map → Map
with_half half map = if is_open half map then with_entry map half.lba half.new else map

abbrev pub with_lane : Option Half → Map → Map
with_lane None map = map
with_lane (Some half) map = with_half half map

-- the map after the first lanes are completed, in ascending order
unfoldable pub completed_by : (ℕ → Option Half) → ℕ → Map → Map
completed_by halves zero map = map
completed_by halves (suc lane) map = with_lane (halves lane) (completed_by halves lane map)

-- the map after all lanes are completed
abbrev pub completed : Layout → List ℕ → Map
completed a bytes = completed_by (newer_half a bytes) 256 (map_in a bytes)
