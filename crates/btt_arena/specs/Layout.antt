-- Where the parts of an arena stand, in z bytes with sectors of s bytes. All numbers are in bytes:
--
--     0      4,096             map_at        log_at       info_at     z
--     +------+------- .. ------+---- .. -----+---- .. ----+-----------+
--     | info | block 0, 1, ..  |    | map    | 256 lanes  | info      |
--     +------+------- .. ------+---- .. -----+---- .. ----+-----------+
--
-- Of the n blocks 256 are free at each moment, one for each lane, and the others hold the e = n - 256 sectors.
use Rattle.std.specs.Prelude.{◌≡◌, ℕ, ◌+◌, ◌-◌, ◌*◌, ◌/◌, ◌%◌, ◌==◌, ◌&&◌, ◌||◌, Bool, nat_le, IsTrue}
use Rattle.btt_arena.specs.declared.layout.Layout.{Layout}

-- the sizes that a media may have: from 16 MiB to 512 GiB
abbrev pub is_size : ℕ → Bool
is_size size = (size % 4096 == 0) && nat_le 16777216 size && nat_le size 549755813888

-- the sizes that a sector may have
abbrev pub is_sector : ℕ → Bool
is_sector sector = (sector == 512) || (sector == 4096)

-- the least multiple of m that is at least n
abbrev pub rounded_up : ℕ → ℕ → ℕ
rounded_up m n = (n + (m - 1)) / m * m

-- where the blocks begin
abbrev pub data_at : ℕ
data_at = 4096

-- how many lanes there are, and so free blocks
abbrev pub lane_count : ℕ
lane_count = 256

-- as many blocks as fit, each with its sector's bytes and an entry of the map, beside the parts of fixed size
abbrev pub block_count : ℕ → ℕ → ℕ
block_count size sector = (size - 28672) / (sector + 4)

abbrev pub sector_count : ℕ → ℕ → ℕ
sector_count size sector = block_count size sector - lane_count

abbrev pub layout_of : ℕ → ℕ → Layout
layout_of size sector = record {
  size = size;
  sector = sector;
  blocks = block_count size sector;
  sectors = sector_count size sector;
  map_at = size - 20480 - rounded_up 4096 (4 * sector_count size sector);
  log_at = size - 20480;
  info_at = size - 4096;
}

-- the layout of some media with some size of sectors
pub record IsLayout (a : Layout) : Type 0 where
  pub size : IsTrue (is_size a.size)
  pub sector : IsTrue (is_sector a.sector)
  pub numbers : a ≡ layout_of a.size a.sector
