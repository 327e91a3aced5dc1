-- What it is to read a sector, and to write one.
use Rattle.std.specs.Prelude.{◌≡◌, ◌⊎◌, ℕ, ◌+◌, ◌%◌, ◌<◌, ◌≤◌, ◌==◌, ◌&&◌, Bool, true, false, List, [], ◌++◌, length, not, nat_lt}
use Rattle.std.specs.Prelude.{replicate, if◌then◌else◌}
use Rattle.byteorder.specs.Endian.{little_bytes}
use Rattle.byte_ranges.specs.Ranges.{range}
use Rattle.btt_arena.specs.declared.halves.Half.{Half}
use Rattle.btt_arena.specs.declared.layout.Layout.{Layout}
use Rattle.btt_arena.specs.declared.turns.Turn.{Turn}
use Rattle.btt_arena.specs.Arena.{Held, IsKept, IsSound, bad, content, holds, zeros}
use Rattle.btt_arena.specs.Tables.{block_in, block_named, half_at, half_in, is_newer, mark_of, normal}

-- the entry of a bad sector has bit 30 alone set, that of one of zeros bit 31 alone
abbrev pub is_bad : ℕ → Bool
is_bad word = mark_of word == 1

abbrev pub is_zeros : ℕ → Bool
is_zeros word = mark_of word == 2

-- the entry of a sector is that of no bad one, and names a block of the arena
abbrev pub is_readable : Layout → ℕ → ℕ → Bool
is_readable a word sector = not (is_bad word) && nat_lt (block_named word sector) a.blocks

-- the bytes of a sector of some size, by what it holds
abbrev pub bytes_of : ℕ → Held → List ℕ
bytes_of size zeros = replicate size 0
bytes_of size bad = []
bytes_of size (holds bytes) = bytes

-- a sector is read by what it holds: a bad one is not, and of any other its bytes are given
abbrev pub GivesHeld : ℕ → Held → Bool → List ℕ → Type 0
GivesHeld size bad read into = read ≡ false
GivesHeld size zeros read into = (read ≡ true) × (into ≡ replicate size 0)
GivesHeld size (holds bytes) read into = (read ≡ true) × (into ≡ bytes)

-- the arena is sound, a sector holds these bytes, and each other one what it did
pub record IsRewritten (a : Layout) (before : List ℕ) (sector : ℕ) (put bytes : List ℕ) : Type 0 where
  pub sound : IsSound a bytes
  pub this : content a bytes sector ≡ holds put
  pub others : (other : ℕ) → other < a.sectors → (other ≡ sector → ⊥) → content a bytes other ≡ content a before other

-- n bytes from an offset on don't meet m bytes from another one on
abbrev pub AreApart : ℕ → ℕ → ℕ → ℕ → Type 0
AreApart at n from m = (at + n ≤ from) ⊎ (from + m ≤ at)

-- as many bytes, and the same ones but for those of a block and for the first three words of a half
pub record IsBeside (block_from size half_from : ℕ) (before bytes : List ℕ) : Type 0 where
  pub same_length : length bytes ≡ length before
  pub others : (at n : ℕ) → AreApart at n block_from size → AreApart at n half_from 12 → range bytes at n ≡ range before at n

-- the bytes of a sector stand in its new block, and the note of its write in the older half
pub record IsNoted (a : Layout) (block_from half_from : ℕ) (before put note bytes : List ℕ) : Type 0 where
  pub beside : IsBeside block_from a.sector half_from before bytes
  pub stands : range bytes block_from a.sector ≡ put
  pub noted : range bytes half_from 12 ≡ note

-- what a write of a sector notes: the sector, the block that its entry names, and its new block
abbrev pub note_of : ℕ → ℕ → ℕ → List ℕ
note_of sector old new = little_bytes 4 sector ++ little_bytes 4 (normal old) ++ little_bytes 4 (normal new)

-- at any moment of a write each sector holds what it did, or this one holds its new bytes
abbrev pub IsOldOrNew : Layout → List ℕ → ℕ → List ℕ → List ℕ → Type 0
IsOldOrNew a before sector put bytes = IsKept a before bytes ⊎ IsRewritten a before sector put bytes

-- what a write takes of its lane, by the newer half and where the older one begins
abbrev pub turn_by : Layout → Half → ℕ → Turn
turn_by a newer older_at = record { free = block_in newer.old % a.blocks; older_at = older_at; next = newer.seq % 3 + 1 }

abbrev pub turn_of : Layout → List ℕ → ℕ → Turn
turn_of a bytes lane = if is_newer (half_in a bytes lane 0).seq (half_in a bytes lane 1).seq
    then turn_by a (half_in a bytes lane 0) (half_at a lane 1)
    else turn_by a (half_in a bytes lane 1) (half_at a lane 0)

-- the free block is one of the arena, and the older half lies in the log
pub record IsInLog (a : Layout) (turn : Turn) : Type 0 where
  pub free : turn.free < a.blocks
  pub begins : a.log_at ≤ turn.older_at
  pub ends : turn.older_at + 16 ≤ a.log_at + 16384
  pub words : turn.older_at % 4 ≡ 0
