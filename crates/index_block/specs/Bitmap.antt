-- The free bits of slots (UEFI 2.7, section 13.19): slot n is bit n mod 8 of byte n div 8.
use Rattle.std.specs.Prelude.{◌≡◌, ℕ, ◌<◌, ◌/◌, ◌%◌, ◌==◌, Bool, true, false, List, slice_index, count_by}
use Rattle.std.specs.List.{range_with_len}
use Rattle.std.specs.Int.{bit_at}

abbrev pub is_free_in : List ℕ → ℕ → Bool
is_free_in map slot = bit_at (slice_index map (slot / 8)) (slot % 8) == 1

-- no slot below n is free
abbrev pub NoneFree : List ℕ → ℕ → Type 0
NoneFree map n = (slot : ℕ) → slot < n → is_free_in map slot ≡ false

-- the least free slot below n
pub record IsFirstFree (map : List ℕ) (n : ℕ) (slot : ℕ) : Type 0 where
  pub below : slot < n
  pub free : is_free_in map slot ≡ true
  pub least : NoneFree map slot

-- the number of free slots below n
abbrev pub free_count : List ℕ → ℕ → ℕ
free_count map n = count_by (is_free_in map) (range_with_len 0 n)
