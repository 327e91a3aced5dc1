-- Bytes with others over a range.
use Rattle.std.proofs.Common.{◌≡◌, ℕ, ◌+◌, ◌≤◌, List, length, drop, sym, ap, ◌∙◌, arith}
use Rattle.std.proofs.lemmas.List.{length-take, length-drop}
use Rattle.rig_trait.proofs.WrittenAreas.{patched_same}
use Rattle.byte_ranges.specs.Ranges.{range, patched}
use Rattle.byte_ranges.proofs.Patched.{patched-patched, range-patched_in}

pub length-range : (bytes : List ℕ) (at n : ℕ) → at + n ≤ length bytes → length (range bytes at n) ≡ n
length-range bytes at n fits = omega (arith, fits, length-take n (drop at bytes), length-drop at bytes)

-- the old bytes put back
pub patched_back : (bytes put : List ℕ) (at : ℕ) → at + length put ≤ length bytes → patched (patched bytes at put) at (range bytes at (length put)) ≡ bytes
patched_back bytes put at fits =
    let long : length (range bytes at (length put)) ≡ length put = length-range bytes at (length put) fits in
    patched-patched bytes put (range bytes at (length put)) at (sym long) (omega arith) ∙ patched_same bytes at (length put) fits

-- what stands where bytes were put
pub range-undone : (bytes put : List ℕ) (at n : ℕ) → n ≡ length put → at + length put ≤ length bytes → range (patched bytes at put) at n ≡ put
range-undone bytes put at n same fits = ap (range (patched bytes at put) at) same ∙ range-patched_in bytes put at fits
