-- A checksum that is written is right.
use Rattle.std.proofs.Common.{◌≡◌, ℕ, ◌+◌, ◌^◌, ◌≤◌, ◌<◌, ◌==◌, true, List, length, refl, ap, sym, ◌∙◌, arith}
use Rattle.std.specs.Prelude.{replicate}
use Rattle.std.proofs.lemmas.Bool.Decides.{nat_tests}
use Rattle.byteorder.specs.Endian.{little_bytes}
use Rattle.byte_ranges.specs.Ranges.{number_at, patched}
use Rattle.byte_ranges.proofs.Numbers.{number_at-patched}
use Rattle.byte_ranges.proofs.Patched.{patched-patched}
use Rattle.fletcher64.specs.Sums.{checksum_but, checksum_of, checksum_of_words, has_checksum, with_checksum}

checksum_of-lt : (bytes : List ℕ) → checksum_of bytes < 256 ^ 8
unfolding checksum_of_words
checksum_of-lt bytes = omega arith

same_numbers : (m n : ℕ) → m ≡ n → (m == n) ≡ true
same_numbers m n same = grind (arith, nat_tests)

module _ (bytes : List ℕ) (hole : ℕ) (within : hole + 8 ≤ length bytes) where
  -- what stands in the field doesn't count
  pub checksum_but-put : (number : ℕ) → checksum_but (patched bytes hole (little_bytes 8 number)) hole ≡ checksum_but bytes hole
  checksum_but-put number = ap checksum_of (patched-patched bytes (little_bytes 8 number) (replicate 8 0) hole refl within)

  pub has_checksum-with_checksum : has_checksum (with_checksum bytes hole) hole ≡ true
  unfolding has_checksum with_checksum
  has_checksum-with_checksum =
      same_numbers (number_at 8 (patched bytes hole (little_bytes 8 (checksum_but bytes hole))) hole) (checksum_but (patched bytes hole (little_bytes 8 (checksum_but bytes hole))) hole)
      (number_at-patched 8 (checksum_but bytes hole) hole bytes (checksum_of-lt (patched bytes hole (replicate 8 0))) (omega arith)
      ∙ sym (checksum_but-put (checksum_but bytes hole)))
