-- The bytes of an index block that is written.
use Rattle.std.proofs.Common.{◌≡◌, ℕ, suc, ◌+◌, ◌-◌, ◌*◌, ◌/◌, ◌%◌, ◌^◌, ◌<◌, ◌≤◌, List, [], ◌∷◌, ◌++◌, length, take, drop, refl, ap, ◌∙◌, arith, append_assoc}
use Rattle.std.specs.Prelude.{replicate, slice_index, slice_set}
use Rattle.std.proofs.Math.Seq.{set-append_seam}
use Rattle.std.proofs.Math.Nat.{mod-eq_of_lt}
use Rattle.std.proofs.Math.Pow.{pow-lt}
use Rattle.std.proofs.lemmas.List.{drop-replicate, length-take, length-take-le, length-drop, drop_all, take_at, drop_at, append-nil}
use Rattle.std.proofs.lemmas.Grind.{common_steps}
use Rattle.byteorder.specs.Endian.{little_bytes}
use Rattle.byte_ranges.specs.Ranges.{patched}
use Rattle.index_block.specs.declared.geometry.Geometry.{Geometry}
use Rattle.index_block.specs.declared.geometry.Place.{Place}
use Rattle.index_block.specs.Blocks.{signature}
use Rattle.index_block.specs.Written.{fields_text, map_text, unchecked_text}

-- the fields, put into zeros one by one
pub fields_put : (label seq mine block other labels slots minor : ℕ)
    → patched (patched (patched (patched (patched (patched (patched (patched (slice_set (patched (replicate 72 0)
    0 signature) 19 label) 20 (little_bytes 4 seq)) 24 (little_bytes 8 mine)) 32 (little_bytes 8 block))
    40 (little_bytes 8 other)) 48 (little_bytes 8 labels)) 56 (little_bytes 4 slots)) 60 (little_bytes 2 1))
    62 (little_bytes 2 minor)
    ≡ signature ++ replicate 3 0 ++ label ∷ [] ++ little_bytes 4 seq ++ little_bytes 8 mine ++ little_bytes 8 block
    ++ little_bytes 8 other ++ little_bytes 8 labels ++ little_bytes 4 slots ++ little_bytes 2 1
    ++ little_bytes 2 minor ++ little_bytes 8 0
unfolding patched
fields_put label seq mine block other labels slots minor = refl

module _ (size slots : ℕ) (free : List ℕ) (room : slots < 8 * size) (enough : slots ≤ 8 * length free) where
  -- the whole bytes of the bits, put into zeros
  whole_put : patched (replicate size 0) 0 (take (slots / 8) free) ≡ take (slots / 8) free ++ 0 ∷ replicate (size - (slots / 8 + 1)) 0
  unfolding patched
  whole_put =
      let count : length (take (slots / 8) free) ≡ slots / 8 = length-take-le (slots / 8) free (omega arith) in
      let one : size - (0 + slots / 8) ≡ suc (size - (slots / 8 + 1)) = omega arith in
      rw (count, drop-replicate, one) refl

  pub map_put-whole : slots % 8 ≡ 0 → patched (replicate size 0) 0 (take (slots / 8) free) ≡ map_text size slots free
  unfolding map_text
  map_put-whole none =
      let zero_bits : slice_index free (slots / 8) % 1 ≡ 0 = omega arith in
      rw (whole_put, none, append_assoc, zero_bits) refl

  pub map_put-more : slice_set (patched (replicate size 0) 0 (take (slots / 8) free)) (slots / 8) (slice_index free (slots / 8) % (1 * 2 ^ (slots % 8) % 256))
      ≡ map_text size slots free
  unfolding map_text
  map_put-more =
      let count : length (take (slots / 8) free) ≡ slots / 8 = length-take-le (slots / 8) free (omega arith) in
      let byte : slots % 8 < 8 = omega arith in
      let low : 2 ^ (slots % 8) < 2 ^ 8 = pow-lt byte in
      let modulus : 1 * 2 ^ (slots % 8) % 256 ≡ 2 ^ (slots % 8) = ap (λ (n : ℕ). n % 256) (omega arith) ∙ mod-eq_of_lt low in
      let seam = set-append_seam (take (slots / 8) free) 0 (replicate (size - (slots / 8 + 1)) 0) (slice_index free (slots / 8) % 2 ^ (slots % 8)) in
      rw (whole_put, modulus, append_assoc) (rw count at seam)

pub length-map_text : (size slots : ℕ) (free : List ℕ) → slots < 8 * size → slots ≤ 8 * length free → length (map_text size slots free) ≡ size
unfolding map_text
length-map_text size slots free room enough = grind (arith, common_steps)

fields_first : (into fields : List ℕ) → length fields ≡ 72 → patched into 0 fields ≡ fields ++ drop 72 into
unfolding patched
fields_first into fields count = rw count refl

-- the fields and the bits, put into a whole block
parts_put : (into fields bits : List ℕ) (rest : ℕ) → length fields ≡ 72 → rest ≡ length into - 72
    → take 72 (patched into 0 fields) ++ (bits ++ drop rest (drop 72 (patched into 0 fields))) ≡ fields ++ bits
parts_put into fields bits rest count all =
    let gone : drop rest (drop 72 into) ≡ [] = drop_all rest (drop 72 into) (omega (arith, length-drop 72 into)) in
    rw (fields_first into fields count, take_at fields (drop 72 into) 72 count, drop_at fields (drop 72 into) 72 count, gone, append-nil) refl

module _ (place : Place) (seq : ℕ) (g : Geometry) (free : List ℕ) where
  -- the fields and the bits, put into a whole block
  pub parts_put-block : (into first bits : List ℕ) → length into ≡ g.block → 72 ≤ g.block → length first ≡ length into → first ≡ patched into 0 (fields_text place seq g)
      → bits ≡ map_text (length (take (length first - 72) (drop 72 first))) g.slots free
      → take 72 first ++ (bits ++ drop (length first - 72) (drop 72 first)) ≡ unchecked_text place seq g free
  parts_put-block into first bits long room same is bits_are =
      let size : length (take (length first - 72) (drop 72 first)) ≡ g.block - 72 = omega (arith, length-take (length first - 72) (drop 72 first), length-drop 72 first) in
      let rest : length (patched into 0 (fields_text place seq g)) - 72 ≡ length into - 72 = omega (arith, ap length is) in
      rw (bits_are, size, is) (parts_put into (fields_text place seq g) (map_text (g.block - 72) g.slots free) (length (patched into 0 (fields_text place seq g)) - 72) refl rest)
