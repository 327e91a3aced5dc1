-- What it is to format a media.
use Rattle.std.specs.Prelude.{◌≡◌, ◌⊎◌, ℕ, ◌+◌, ◌*◌, ◌-◌, ◌<◌, ◌≤◌, Bool, true, false, List, ◌++◌, length, replicate}
use Rattle.std.specs.Prelude.{Option, None, Some, Result, Ok, Err, IsSome}
use Rattle.byteorder.specs.Endian.{little_bytes}
use Rattle.byte_ranges.specs.Ranges.{range}
use Rattle.btt_arena.specs.declared.layout.Layout.{Layout}
use Rattle.btt_arena.specs.declared.formats.FormatFault.{FormatFault}
use Rattle.btt_arena.specs.declared.formats.FormatFault.TheVariants as fault
use Rattle.btt_arena.specs.Arena.{IsSound, block_bytes, content, holds}
use Rattle.btt_arena.specs.Info.{arena_in, info_bytes, info_text, told_layout}
use Rattle.btt_arena.specs.Layout.{data_at, is_size, lane_count, layout_of}
use Rattle.btt_arena.specs.Records.{CrashRecord, TornWrite}
use Rattle.btt_arena.specs.Tables.{normal}

-- As many bytes, and the same ones in each range that doesn't meet the n bytes from an offset on.
pub record ChangesOnly (from n : ℕ) (before bytes : List ℕ) : Type 0 where
  pub same_length : length bytes ≡ length before
  pub others : (at k : ℕ) → (at + k ≤ from) ⊎ (from + n ≤ at) → range bytes at k ≡ range before at k

-- n bytes from an offset on are zero
abbrev pub AreZero : ℕ → ℕ → List ℕ → Type 0
AreZero from n bytes = range bytes from n ≡ replicate n 0

-- the map is as it was never written, up to the lanes
abbrev pub HasFreshMap : Layout → List ℕ → Type 0
HasFreshMap a bytes = AreZero a.map_at (a.log_at - a.map_at) bytes

-- a lane before the first write in it: its first half has its own number as Lba, Seq 1, and its free block as the old
-- and the new one; the rest is zero
abbrev pub fresh_lane : ℕ → ℕ → List ℕ
fresh_lane sectors lane = little_bytes 4 lane
    ++ little_bytes 4 (normal (sectors + lane))
    ++ little_bytes 4 (normal (sectors + lane))
    ++ little_bytes 4 1
    ++ replicate 48 0

abbrev pub HasFreshLog : Layout → List ℕ → Type 0
HasFreshLog a bytes = (lane : ℕ) → lane < lane_count → range bytes (a.log_at + 64 * lane) 64 ≡ fresh_lane a.sectors lane

-- an info block stands at an offset
abbrev pub HasInfo : Layout → List ℕ → ℕ → List ℕ → Type 0
HasInfo a uuid at bytes = range bytes at info_bytes ≡ info_text a uuid

-- the parts are written in this order: the map, the lanes, the info block at info_at, and that at 0
pub data IsInOrder (a : Layout) (uuid before bytes : List ℕ) : Type 0 where
  writing_map : ChangesOnly a.map_at (a.log_at - a.map_at) before bytes → IsInOrder a uuid before bytes
  writing_lanes : ChangesOnly a.map_at (a.info_at - a.map_at) before bytes → HasFreshMap a bytes
      → IsInOrder a uuid before bytes
  writing_second : ChangesOnly a.map_at (a.size - a.map_at) before bytes → HasFreshMap a bytes → HasFreshLog a bytes
      → IsInOrder a uuid before bytes
  writing_first : length bytes ≡ length before
      → range bytes data_at (a.map_at - data_at) ≡ range before data_at (a.map_at - data_at)
      → HasFreshMap a bytes → HasFreshLog a bytes → HasInfo a uuid a.info_at bytes → IsInOrder a uuid before bytes

-- The arena that format makes: its map and its lanes are fresh, and each sector holds the bytes that stood in its
-- block.
pub record IsFresh (a : Layout) (before bytes : List ℕ) : Type 0 where
  pub map : HasFreshMap a bytes
  pub lanes : HasFreshLog a bytes
  pub sound : IsSound a bytes
  pub holds_old : (sector : ℕ) → sector < a.sectors → content a bytes sector ≡ holds (block_bytes a before sector)

-- a media that was formatted has both info blocks, and its data are as before
pub record IsFormatted (a : Layout) (uuid before bytes : List ℕ) : Type 0 where
  pub fresh : IsFresh a before bytes
  pub first : HasInfo a uuid 0 bytes
  pub second : HasInfo a uuid a.info_at bytes
  pub same_length : length bytes ≡ length before
  pub data_stay : range bytes data_at (a.map_at - data_at) ≡ range before data_at (a.map_at - data_at)

-- A torn write of an info block left the old bytes, the new ones, or a block that is not right.
abbrev pub IsFairWrite : ℕ → List ℕ → TornWrite → Type 0
IsFairWrite size bytes torn = length torn.new ≡ info_bytes → (torn.at ≡ 0) ⊎ (torn.at ≡ (layout_of size 512).info_at)
    → (range bytes torn.at info_bytes ≡ torn.old) ⊎ (range bytes torn.at info_bytes ≡ torn.new)
    ⊎ (told_layout size (range bytes torn.at info_bytes) ≡ None)

abbrev pub IsFairTorn : List ℕ → Option TornWrite → Type 0
IsFairTorn bytes None = Unit {0}
IsFairTorn bytes (Some torn) = IsFairWrite (length bytes) bytes torn

abbrev pub IsFair : CrashRecord → Type 0
IsFair c = IsFairTorn c.bytes c.torn

-- where no info block was right before, a fair record has no arena, or the one that is made
abbrev pub IsNoneOrFresh : Layout → List ℕ → CrashRecord → Type 0
IsNoneOrFresh a before c = IsFair c → (arena_in c.bytes ≡ None) ⊎ IsFresh a before c.bytes

-- what a stop leaves at each moment
pub record IsStage (a : Layout) (uuid before : List ℕ) (c : CrashRecord) : Type 0 where
  pub order : IsInOrder a uuid before c.bytes
  pub made : arena_in before ≡ None → IsNoneOrFresh a before c

-- why a media is not formatted, or how many sectors there are
abbrev pub Formats : ℕ → List ℕ → Result ℕ FormatFault → Type 0
Formats sector before (Ok sectors) = (is_size (length before) ≡ true) × (arena_in before ≡ None)
    × (sectors ≡ (layout_of (length before) sector).sectors)
Formats sector before (Err (fault.Size size)) = (is_size (length before) ≡ false) × (size ≡ length before)
Formats sector before (Err fault.Already) = IsSome (arena_in before)
Formats sector before (Err fault.Failed) = Unit {0}

-- the media failed
abbrev pub is_format_failed : {T : Type 0} → Result T FormatFault → Bool
is_format_failed (Ok value) = false
is_format_failed (Err (fault.Size size)) = false
is_format_failed (Err fault.Already) = false
is_format_failed (Err fault.Failed) = true

-- nothing was written, for want of a size or since there is an arena
abbrev pub IsRefused : {T : Type 0} → Result T FormatFault → Type 0
IsRefused (Ok value) = ⊥
IsRefused (Err (fault.Size size)) = Unit {0}
IsRefused (Err fault.Already) = Unit {0}
IsRefused (Err fault.Failed) = ⊥
