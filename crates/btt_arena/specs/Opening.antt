-- What it is to open an arena.
use Rattle.std.specs.Prelude.{◌≡◌, ◌⊎◌, ℕ, ◌+◌, ◌*◌, ◌<◌, ◌&&◌, Bool, true, false, List, Option, Some, None, Result, Ok, Err}
use Rattle.std.specs.Prelude.{nat_lt}
use Rattle.byte_ranges.specs.Ranges.{number_at}
use Rattle.btt_arena.specs.declared.layout.Layout.{Layout}
use Rattle.btt_arena.specs.declared.opening.ArenaFault.{ArenaFault}
use Rattle.btt_arena.specs.declared.opening.ArenaFault.TheVariants as fault
use Rattle.btt_arena.specs.Arena.{IsFit, IsKept, IsSound}
use Rattle.btt_arena.specs.Completing.{IsCompleted, IsPartly}
use Rattle.btt_arena.specs.Info.{arena_in}
use Rattle.btt_arena.specs.Layout.{lane_count}
use Rattle.btt_arena.specs.declared.halves.Half.{Half}
use Rattle.btt_arena.specs.Tables.{block_in, newer_half, newer_of}

-- a half notes a sector of the arena, and two blocks of it
abbrev pub is_half_right : Layout → Half → Bool
is_half_right a half = nat_lt half.lba a.sectors && nat_lt (block_in half.old) a.blocks
    && nat_lt (block_in half.new) a.blocks

-- a lane has a newer half, and that is right
abbrev pub is_lane_right : Layout → Option Half → Bool
is_lane_right a None = false
is_lane_right a (Some half) = is_half_right a half

-- the first lanes are right
abbrev pub AreRight : Layout → (ℕ → Option Half) → ℕ → Type 0
AreRight a newer lanes = (lane : ℕ) → lane < lanes → is_lane_right a (newer lane) ≡ true

-- the first lane that is not right, where there is one
abbrev pub IsFirstWrong : Layout → (ℕ → Option Half) → Option ℕ → Type 0
IsFirstWrong a newer None = AreRight a newer lane_count
IsFirstWrong a newer (Some lane) = (lane < lane_count)
    × ((is_lane_right a (newer lane) ≡ false) × AreRight a newer lane)

-- the half that begins at an offset of the lanes' bytes
abbrev pub half_of : List ℕ → ℕ → Half
half_of log at = record {
  lba = number_at 4 log at;
  old = number_at 4 log (at + 4);
  new = number_at 4 log (at + 8);
  seq = number_at 4 log (at + 12);
}

-- the newer half of a lane, by the lanes' bytes
abbrev pub newer_of_log : List ℕ → ℕ → Option Half
newer_of_log log lane = newer_of (half_of log (64 * lane)) (half_of log (64 * lane + 16))

-- the arena that is opened, or why none is
abbrev pub Opens : List ℕ → Result Layout ArenaFault → Type 0
Opens bytes (Ok arena) = (arena_in bytes ≡ Some arena) × IsFirstWrong arena (newer_half arena bytes) None
Opens bytes (Err fault.NoArena) = arena_in bytes ≡ None
Opens bytes (Err (fault.Lane lane)) = (a : Layout) × ((arena_in bytes ≡ Some a)
    × IsFirstWrong a (newer_half a bytes) (Some lane))
Opens bytes (Err fault.Failed) = Unit {0}

-- the media failed
abbrev pub is_open_failed : {T : Type 0} → Result T ArenaFault → Bool
is_open_failed (Ok value) = false
is_open_failed (Err fault.NoArena) = false
is_open_failed (Err (fault.Lane lane)) = false
is_open_failed (Err fault.Failed) = true

-- nothing was written, for want of an arena or of a right lane
abbrev pub IsNotOpened : {T : Type 0} → Result T ArenaFault → Type 0
IsNotOpened (Ok value) = ⊥
IsNotOpened (Err fault.NoArena) = Unit {0}
IsNotOpened (Err (fault.Lane lane)) = Unit {0}
IsNotOpened (Err fault.Failed) = ⊥

-- where there is an arena, its first lanes are completed, as many as one may say
abbrev pub IsArenaPartly : List ℕ → List ℕ → Type 0
IsArenaPartly before bytes = (a : Layout) × (arena_in before ≡ Some a) × IsPartly a (newer_half a before) before bytes

-- What stands while an arena is opened. The lanes are completed in ascending order, and nothing else is written; an
-- arena that was sound stays so, and each sector holds what it did.
pub record IsOpening (before bytes : List ℕ) : Type 0 where
  pub in_order : (bytes ≡ before) ⊎ IsArenaPartly before bytes
  pub kept : (a : Layout) → IsSound a before → IsKept a before bytes

-- An arena was opened: all its lanes are completed, and it is fit where it was sound.
pub record IsOpened (a : Layout) (before bytes : List ℕ) : Type 0 where
  pub completed : IsCompleted a (newer_half a before) before lane_count bytes
  pub fit : IsSound a before → IsFit a bytes
