-- A media in memory as it stood where a kept write was stopped.
use Rattle.std.specs.Prelude.{◌≡◌, ℕ, ◌/◌, Bool, List, [], ◌∷◌, ◌++◌, length, take, drop, Option, Some, None, nat_eq}
use Rattle.std.specs.Prelude.{if◌then◌else◌}
use Rattle.std.specs.Option.{option_map}
use Rattle.byte_ranges.specs.Ranges.{patched}
use Rattle.btt_arena.specs.declared.state.MediaState.{Ghosts}
use Rattle.btt_arena.specs.Kept.{KeptWrite, kept_writes, kept_from}
use Rattle.btt_arena.specs.Memory.{Memory, new_memory}
use Rattle.btt_arena.specs.Records.{CrashRecord}
use Rattle.btt_arena.specs.Undone.{before}

-- for each word of four bytes the new one where it was taken, and the old one where it was not
abbrev pub mixed : List Bool → List ℕ → List ℕ → List ℕ
mixed [] old new = []
mixed (is_new ∷ taken) old new = take 4 (if is_new then new else old) ++ mixed taken (drop 4 old) (drop 4 new)

-- a write stopped where these words were taken, if these are as many as it has
abbrev pub stopped : KeptWrite → List ℕ → List Bool → Option (List ℕ)
stopped write was taken = if nat_eq (length taken) (length write.new / 4)
    then Some (patched was write.at (mixed taken write.old write.new)) else None

-- the first of these writes stopped so
abbrev pub first_stopped : List KeptWrite → List ℕ → List Bool → Option (List ℕ)
first_stopped [] now taken = None
first_stopped (write ∷ later) now taken = stopped write (before (write ∷ later) now) taken

abbrev pub crashed : Memory → ℕ → List Bool → Option Memory
crashed media call taken =
    option_map new_memory (first_stopped (kept_from call (kept_writes media.keeping)) media.bytes taken)

-- a list begins with a write
abbrev pub IsFirst : List KeptWrite → KeptWrite → Type 0
IsFirst writes write = (later : List KeptWrite) × (writes ≡ write ∷ later)

-- a media with the bytes that a stop since a moment might have left of another
pub record IsLeft {M : Type 0} (m : Ghosts M) (of : M) (since : ℕ) (media : M) : Type 0 where
  pub left : CrashRecord
  pub since_then : m.left_since of since left
  pub bytes_are : m.bytes media ≡ left.bytes
