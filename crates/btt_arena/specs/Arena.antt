-- What an arena holds, and when it is sound.
use Rattle.std.specs.Prelude.{◌≡◌, ℕ, ◌+◌, ◌-◌, ◌*◌, ◌<◌, ◌==◌, false, List, Option, Some}
use Rattle.std.specs.Prelude.{if◌then◌else◌, nat_lt}
use Rattle.byte_ranges.specs.Ranges.{range}
use Rattle.btt_arena.specs.declared.layout.Layout.{Layout}
use Rattle.btt_arena.specs.Info.{arena_in}
use Rattle.btt_arena.specs.Layout.{data_at, lane_count}
use Rattle.btt_arena.specs.declared.halves.Half.{Half}
use Rattle.btt_arena.specs.Tables.{Map, block_named, completed, free_block, is_open, map_in}
use Rattle.btt_arena.specs.Tables.{mark_of, newer_half}

-- what a sector holds
pub data Held : Type 0 where
  zeros : Held
  bad : Held
  holds : (bytes : List ℕ) → Held

-- the bytes of a block
abbrev pub block_bytes : Layout → List ℕ → ℕ → List ℕ
block_bytes a bytes block = range bytes (data_at + block * a.sector) a.sector

-- what a sector holds by the word of its entry
abbrev pub held_by : Layout → List ℕ → ℕ → ℕ → Held
held_by a bytes word sector = if mark_of word == 2 then zeros
    else if mark_of word == 1 then bad
    else holds (block_bytes a bytes (block_named word sector))

-- what each sector holds, after all lanes are completed
abbrev pub content : Layout → List ℕ → ℕ → Held
content a bytes sector = held_by a bytes (completed a bytes sector) sector

-- the block at a position: first those that the sectors' entries name, then those that are free, by lane
abbrev pub block_at : Layout → Map → (ℕ → ℕ) → ℕ → ℕ
block_at a map free position = if nat_lt position a.sectors then block_named (map position) position
    else free (position - a.sectors)

-- the numbers at the positions below n are the numbers below n, each once
pub record AreEachOnce (n : ℕ) (at : ℕ → ℕ) : Type 0 where
  pub below : (position : ℕ) → position < n → at position < n
  pub distinct : (p q : ℕ) → p < n → q < n → at p ≡ at q → p ≡ q
  pub each_stands : (number : ℕ) → number < n → (position : ℕ) × (position < n) × (at position ≡ number)

-- a lane has a newer half, and that notes a sector of the arena
abbrev pub HasNewer : Layout → Option Half → Type 0
HasNewer a newer = (half : Half) × (newer ≡ Some half) × (half.lba < a.sectors)

-- the info block is right, each lane has its newer half, and each block is named by one sector or free in one lane
pub record IsSound (a : Layout) (bytes : List ℕ) : Type 0 where
  pub info : arena_in bytes ≡ Some a
  pub lanes : (lane : ℕ) → lane < lane_count → HasNewer a (newer_half a bytes lane)
  pub once : AreEachOnce a.blocks (block_at a (completed a bytes) (free_block a bytes))

-- no lane is left to complete
abbrev pub AllClosed : Layout → List ℕ → Type 0
AllClosed a bytes = (lane : ℕ) → lane < lane_count → (half : Half) → newer_half a bytes lane ≡ Some half
    → is_open half (map_in a bytes) ≡ false

-- an arena is fit for a media: its numbers are those of the info block, it is sound, and no lane is left to complete
pub record IsFit (a : Layout) (bytes : List ℕ) : Type 0 where
  pub sound : IsSound a bytes
  pub closed : AllClosed a bytes

-- it is sound, and each sector holds what it did
pub record IsKept (a : Layout) (before bytes : List ℕ) : Type 0 where
  pub sound : IsSound a bytes
  pub same : (sector : ℕ) → sector < a.sectors → content a bytes sector ≡ content a before sector
