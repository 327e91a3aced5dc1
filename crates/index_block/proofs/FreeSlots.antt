-- The free bits of slots: their number, and what a changed byte makes of them.
use Rattle.std.proofs.Common.{◌≡◌, ◌≢◌, ℕ, zero, suc, ◌+◌, ◌*◌, ◌/◌, ◌%◌, ◌<◌, cond, List, [], ◌∷◌, ◌++◌, length, ◌⊎◌, inl, inr, refl, ap, ◌∙◌, arith}
use Rattle.std.specs.Prelude.{slice_index, slice_set, ◌==◌}
use Rattle.std.specs.Int.{bit_at}
use Rattle.std.specs.List.{range_with_len}
use Rattle.std.proofs.lemmas.List.{get_or-set_same, get_or-set_other}
use Rattle.std.proofs.lemmas.List.Sums.{sum_by-append}
use Rattle.std.proofs.lemmas.Bool.{cases_eq}
use Rattle.index_block.specs.Bitmap.{is_free_in, free_count}

range_with_len-more : (a n last : ℕ) → a + n ≡ last → range_with_len a (suc n) ≡ range_with_len a n ++ last ∷ []
range_with_len-more a zero last is = ap (λ (x : ℕ). x ∷ []) (omega arith)
range_with_len-more a (suc n) last is = ap (λ (xs : List ℕ). a ∷ xs) (range_with_len-more (a + 1) n last (omega arith))

-- the number of free slots with one slot more
pub free_count-more : (map : List ℕ) (n : ℕ) → free_count map (n + 1) ≡ free_count map n + cond (is_free_in map n) 1 0
free_count-more map n =
    let e : n + 1 ≡ suc n = omega arith in
    rw (e, range_with_len-more 0 n n (omega arith)) (sum_by-append (λ (slot : ℕ). cond (is_free_in map slot) 1 0) (range_with_len 0 n) (n ∷ []) ∙ omega arith)

module _ (map : List ℕ) (slot byte : ℕ) (within : slot < 8 * length map) where
  -- the slot whose bit stands in the changed byte
  pub is_free_in-set : (bit : ℕ) → bit_at byte (slot % 8) ≡ bit → is_free_in (slice_set map (slot / 8) byte) slot ≡ (bit == 1)
  is_free_in-set bit is = rw (get_or-set_same map (slot / 8) byte 0 (omega arith), is) refl

  module _ (same : (i : ℕ) → i < 8 → i ≢ slot % 8 → bit_at byte i ≡ bit_at (slice_index map (slot / 8)) i) (n : ℕ) (other : n ≢ slot) where
    bit_at-set_other : (n / 8 ≡ slot / 8) ⊎ (n / 8 ≢ slot / 8)
        → bit_at (slice_index (slice_set map (slot / 8) byte) (n / 8)) (n % 8) ≡ bit_at (slice_index map (n / 8)) (n % 8)
    bit_at-set_other (inl here) = rw (here, get_or-set_same map (slot / 8) byte 0 (omega arith)) (same (n % 8) (omega arith) (omega arith))
    bit_at-set_other (inr elsewhere) = rw (get_or-set_other map (slot / 8) (n / 8) byte 0 elsewhere) refl

    -- the other slots, where the byte keeps its other bits
    pub is_free_in-set_other : is_free_in (slice_set map (slot / 8) byte) n ≡ is_free_in map n
    is_free_in-set_other = ap (λ (bit : ℕ). bit == 1) (bit_at-set_other (cases_eq (n / 8) (slot / 8)))
