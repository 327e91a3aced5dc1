-- That the bytes of an area are written in order while it is initialised.
use Rattle.std.proofs.Common.{◌≡◌, ℕ, ◌+◌, ◌*◌, ◌≤◌, List, length, take, drop, inl, inr, refl, sym, ap, ◌∙◌, arith}
use Rattle.std.proofs.lemmas.List.{length-drop}
use Rattle.std.proofs.Math.Seq.{take-length}
use Rattle.byte_ranges.specs.Ranges.{range, patched}
use Rattle.byte_ranges.proofs.Patched.{length-patched, range-patched_after, range-patched_before, range-patched_in}
use Rattle.index_block.specs.declared.geometry.Geometry.{Geometry}
use Rattle.label_area.specs.Inits.{IsWrittenInOrder, first_block}

-- all bytes from one on behind a range are as before
drop-patched : (bytes put : List ℕ) (at : ℕ) → at + length put ≤ length bytes → (from : ℕ) → at + length put ≤ from → drop from (patched bytes at put) ≡ drop from bytes
drop-patched bytes put at fits from behind =
    let size : length (drop from bytes) ≡ length (drop from (patched bytes at put)) = omega (arith, length-drop from bytes, length-drop from (patched bytes at put), length-patched bytes put at fits) in
    sym (take-length (drop from (patched bytes at put)))
    ∙ ap (λ (n : ℕ). take n (drop from (patched bytes at put))) (sym size)
    ∙ range-patched_after bytes put at fits from (length (drop from bytes)) behind
    ∙ take-length (drop from bytes)

module _ (g : Geometry) (bytes : List ℕ) (two_fit : 2 * g.block ≤ length bytes) where
  pub in_order-untouched : IsWrittenInOrder g bytes bytes
  in_order-untouched = record { behind = refl; second = inl refl }

  -- with any bytes in the place of the first block
  module _ (put : List ℕ) (long : length put ≡ g.block) where
    inside : 0 + length put ≤ length bytes
    inside = omega arith

    pub in_order-first : IsWrittenInOrder g bytes (patched bytes 0 put)
    in_order-first = record {
      behind = drop-patched bytes put 0 inside (2 * g.block) (omega arith);
      second = inl (range-patched_after bytes put 0 inside g.block g.block (omega arith));
    }

  -- with the first block, and any bytes in the place of the second
  module _ (first_long : length (first_block g) ≡ g.block) (put : List ℕ) (long : length put ≡ g.block) where
    first_inside : 0 + length (first_block g) ≤ length bytes
    first_inside = omega arith

    second_inside : g.block + length put ≤ length (patched bytes 0 (first_block g))
    second_inside = omega (arith, length-patched bytes (first_block g) 0 first_inside)

    pub in_order-second : IsWrittenInOrder g bytes (patched (patched bytes 0 (first_block g)) g.block put)
    in_order-second = record {
      behind = drop-patched (patched bytes 0 (first_block g)) put g.block second_inside (2 * g.block) (omega arith)
          ∙ drop-patched bytes (first_block g) 0 first_inside (2 * g.block) (omega arith);
      second = inr (range-patched_before (patched bytes 0 (first_block g)) put g.block second_inside 0 g.block (omega arith)
          ∙ ap (range (patched bytes 0 (first_block g)) 0) (sym first_long)
          ∙ range-patched_in bytes (first_block g) 0 first_inside);
    }
