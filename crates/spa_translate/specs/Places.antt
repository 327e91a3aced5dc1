-- Where each line of a period stands among the lines of all parts.
use Rattle.std.specs.Prelude.{◌≡◌, ℕ, ◌<◌, Bool, true, false, List, Option, Some, None, length, slice_index}
use Rattle.std.specs.Prelude.{slice_index_or, slice_set, take}
use Rattle.spa_translate.specs.declared.places.Slot.{Slot}
use Rattle.spa_translate.specs.declared.places.Slot.TheVariants.{Free, Once, Twice}
use Rattle.spa_translate.specs.Faults.{times}

-- how often a line is among the first i lines, and where
abbrev pub IsSlot : List ℕ → ℕ → ℕ → Slot → Type 0
IsSlot lines i line Free = times (take i lines) line ≡ 0
IsSlot lines i line (Once place) = (times (take i lines) line ≡ 1) × (place < i) × (slice_index lines place ≡ line)
IsSlot lines i line Twice = 1 < times (take i lines) line

abbrev pub AreSlots : List ℕ → ℕ → List Slot → Type 0
AreSlots lines i slots = (line : ℕ) (d : Slot) → line < length slots → IsSlot lines i line (slice_index_or slots line d)

-- a slot with one line more, which stands at a place
abbrev pub with_place : Slot → ℕ → Slot
with_place Free place = Once place
with_place _ place = Twice

abbrev pub marked : List Slot → Option ℕ → ℕ → List Slot
marked slots None place = slots
marked slots (Some line) place = slice_set slots line (with_place (slice_index_or slots line Free) place)

abbrev pub is_once : Slot → Bool
is_once (Once place) = true
is_once _ = false

abbrev pub place_of : Slot → ℕ
place_of (Once place) = place
place_of _ = 0

-- the line at the place of each line is this line
pub record ArePlaces (lines : List ℕ) (total : ℕ) (places : List ℕ) : Type 0 where
  pub len : length places ≡ total
  pub each : (line : ℕ) → line < total → (slice_index places line < total)
      × (slice_index lines (slice_index places line) ≡ line)
