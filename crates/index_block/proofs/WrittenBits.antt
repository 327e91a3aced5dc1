-- The free bits that are written are those that were given, and zeros behind them.
use Rattle.std.proofs.Common.{◌≡◌, ◌≢◌, ℕ, zero, suc, ◌+◌, ◌-◌, ◌*◌, ◌/◌, ◌%◌, ◌^◌, ◌<◌, ◌≤◌, false, List, ◌∷◌, length, get_or, take, ◌⊎◌, inl, inr, refl, sym, ap, ◌∙◌, arith, append_assoc}
use Rattle.std.specs.Prelude.{◌==◌, replicate, slice_index}
use Rattle.std.specs.Int.{bit_at}
use Rattle.std.proofs.Math.Nat.{div-add-mod', mod-lt, one-le-pow}
use Rattle.std.proofs.Math.ListN.{get_or-append}
use Rattle.std.proofs.Math.Seq.{get_or-append_seam}
use Rattle.std.proofs.lemmas.Bool.{cases_eq}
use Rattle.std.proofs.lemmas.List.{length-take-le, get_or-take, get_or-append_right}
use Rattle.std.proofs.lemmas.Nat.Bits.{bit_at-zero, bit_at_above, bit_at_cat_low}
use Rattle.byte_ranges.specs.Ranges.{patched}
use Rattle.fletcher64.specs.Sums.{with_checksum}
use Rattle.index_block.specs.declared.geometry.Geometry.{Geometry}
use Rattle.index_block.specs.declared.geometry.Place.{Place}
use Rattle.index_block.specs.Bitmap.{is_free_in}
use Rattle.index_block.specs.Blocks.{free_map}
use Rattle.index_block.specs.Written.{map_text, block_text}

low_bit : (x r i : ℕ) → i < r → bit_at (x % 2 ^ r) i ≡ bit_at x i
low_bit x r i below = sym (ap (λ (n : ℕ). bit_at n i) (sym (div-add-mod' x (2 ^ r))) ∙ bit_at_cat_low (x / 2 ^ r) r (x % 2 ^ r) i below)

high_bit : (x r i : ℕ) → r ≤ i → bit_at (x % 2 ^ r) i ≡ 0
high_bit x r i above = bit_at_above (x % 2 ^ r) r i (mod-lt x (one-le-pow r 2 (omega arith))) above

zero_at : (n k : ℕ) → get_or (replicate {A = ℕ} n 0) k 0 ≡ 0
zero_at zero k = refl
zero_at (suc n) zero = refl
zero_at (suc n) (suc k) = zero_at n k

module _ (size slots : ℕ) (free : List ℕ) (enough : slots ≤ 8 * length free) where
  count : length (take (slots / 8) free) ≡ slots / 8
  count = length-take-le (slots / 8) free (omega arith)

  byte_before : (k : ℕ) → k < slots / 8 → slice_index (map_text size slots free) k ≡ slice_index free k
  unfolding map_text
  byte_before k below =
      let within : k < length (take (slots / 8) free) = omega (arith, count) in
      rw (append_assoc, get_or-append (take (slots / 8) free) _ 0 k within) (get_or-take (slots / 8) free k 0 below)

  last_byte : slice_index (map_text size slots free) (slots / 8) ≡ slice_index free (slots / 8) % 2 ^ (slots % 8)
  unfolding map_text
  last_byte =
      let seam = get_or-append_seam (take (slots / 8) free) (slice_index free (slots / 8) % 2 ^ (slots % 8)) (replicate (size - (slots / 8 + 1)) 0) 0 in
      rw append_assoc (rw count at seam)

  byte_behind : (k m : ℕ) → k ≡ slots / 8 + suc m → slice_index (map_text size slots free) k ≡ 0
  unfolding map_text
  byte_behind k m is =
      let place : k - slots / 8 ≡ suc m = omega arith in
      rw append_assoc (get_or-append_right (take (slots / 8) free) ((slice_index free (slots / 8) % 2 ^ (slots % 8)) ∷ replicate (size - (slots / 8 + 1)) 0) (slots / 8) k 0 count (omega arith)
      ∙ ap (λ (j : ℕ). get_or ((slice_index free (slots / 8) % 2 ^ (slots % 8)) ∷ replicate (size - (slots / 8 + 1)) 0) j 0) place
      ∙ zero_at (size - (slots / 8 + 1)) m)

  module _ (n : ℕ) where
    bit_within : n < slots → (n / 8 ≡ slots / 8) ⊎ (n / 8 ≢ slots / 8) → bit_at (slice_index (map_text size slots free) (n / 8)) (n % 8) ≡ bit_at (slice_index free (n / 8)) (n % 8)
    bit_within below (inl last) = rw (last, last_byte) (low_bit (slice_index free (slots / 8)) (slots % 8) (n % 8) (omega arith))
    bit_within below (inr before) = rw (byte_before (n / 8) (omega arith)) refl

    bit_behind : slots ≤ n → (n / 8 ≡ slots / 8) ⊎ (n / 8 ≢ slots / 8) → bit_at (slice_index (map_text size slots free) (n / 8)) (n % 8) ≡ 0
    bit_behind above (inl last) = rw (last, last_byte) (high_bit (slice_index free (slots / 8)) (slots % 8) (n % 8) (omega arith))
    bit_behind above (inr behind) = rw (byte_behind (n / 8) (n / 8 - (slots / 8 + 1)) (omega arith)) (bit_at-zero (n % 8))

    is_free_in-map_text : n < slots → is_free_in (map_text size slots free) n ≡ is_free_in free n
    is_free_in-map_text below = ap (λ (bit : ℕ). bit == 1) (bit_within below (cases_eq (n / 8) (slots / 8)))

    is_used_in-map_text : slots ≤ n → is_free_in (map_text size slots free) n ≡ false
    is_used_in-map_text above = ap (λ (bit : ℕ). bit == 1) (bit_behind above (cases_eq (n / 8) (slots / 8)))

-- the same of a block
module _ (place : Place) (seq : ℕ) (g : Geometry) (free : List ℕ) (enough : g.slots ≤ 8 * length free) (n : ℕ) where
  pub is_free_in-block : n < g.slots → is_free_in (free_map (block_text place seq g free)) n ≡ is_free_in free n
  unfolding block_text with_checksum patched
  is_free_in-block below = is_free_in-map_text (g.block - 72) g.slots free enough n below

  pub is_used_in-block : g.slots ≤ n → is_free_in (free_map (block_text place seq g free)) n ≡ false
  unfolding block_text with_checksum patched
  is_used_in-block above = is_used_in-map_text (g.block - 72) g.slots free enough n above
