-- Which of two usable index blocks is the current one (UEFI 2.7, section 13.19).
use Rattle.std.specs.Prelude.{ℕ, ◌≤◌, ◌==◌, ◌&&◌, ◌||◌, Bool, Option, Some, None, if◌then◌else◌}
use Rattle.index_block.specs.declared.geometry.Place.{Place}
use Rattle.index_block.specs.declared.geometry.Place.TheVariants.{First, Second}

-- the sequence numbers of usable blocks
abbrev pub IsSeq : ℕ → Type 0
IsSeq seq = (1 ≤ seq) × (seq ≤ 3)

-- the second number follows the first: 1 to 2, 2 to 3, 3 to 1
abbrev pub is_followed_by : ℕ → ℕ → Bool
is_followed_by seq next = ((seq == 1) && (next == 2)) || ((seq == 2) && (next == 3)) || ((seq == 3) && (next == 1))

-- the current place, by the sequence numbers of the usable blocks: that whose number follows the other's, and the
-- second at equal numbers
abbrev pub current_place : Option ℕ → Option ℕ → Option Place
current_place None None = None
current_place (Some first) None = Some First
current_place None (Some second) = Some Second
current_place (Some first) (Some second) = if is_followed_by second first then Some First else Some Second
