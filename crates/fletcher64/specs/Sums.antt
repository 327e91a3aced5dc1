-- Fletcher's checksum of label storage areas (UEFI 2.7, section 13.19): two sums over the little-endian 32-bit
-- words w(0) to w(n - 1) of some bytes.
--
--     low  =   w(0) +       w(1) + .. + w(n - 1)      modulo 2^32
--     high = n w(0) + (n-1) w(1) + .. + w(n - 1)      modulo 2^32
--
-- The checksum is high * 2^32 + low.
use Rattle.std.specs.Prelude.{ℕ, zero, suc, ◌+◌, ◌-◌, ◌*◌, ◌/◌, ◌%◌, ◌^◌, ◌==◌, Bool, List, length, replicate}
use Rattle.byteorder.specs.Endian.{little_bytes}
use Rattle.byte_ranges.specs.Ranges.{number_at, patched}

-- word i of some bytes
abbrev pub word : List ℕ → ℕ → ℕ
word bytes i = number_at 4 bytes (4 * i)

-- f(0) + f(1) + .. + f(n - 1)
abbrev pub sum_below : (ℕ → ℕ) → ℕ → ℕ
sum_below f zero = 0
sum_below f (suc n) = sum_below f n + f n

-- the checksum of the n words w(0) to w(n - 1)
unfoldable pub checksum_of_words : (ℕ → ℕ) → ℕ → ℕ
checksum_of_words w n = sum_below (λ i. (n - i) * w i) n % 2 ^ 32 * 2 ^ 32 + sum_below w n % 2 ^ 32

-- the checksum of some bytes
abbrev pub checksum_of : List ℕ → ℕ
checksum_of bytes = checksum_of_words (word bytes) (length bytes / 4)

-- the checksum with the eight bytes at an offset as zero
abbrev pub checksum_but : List ℕ → ℕ → ℕ
checksum_but bytes hole = checksum_of (patched bytes hole (replicate 8 0))

-- the checksum stands at an offset
unfoldable pub has_checksum : List ℕ → ℕ → Bool
has_checksum bytes hole = number_at 8 bytes hole == checksum_but bytes hole

-- the bytes with their checksum at an offset
unfoldable pub with_checksum : List ℕ → ℕ → List ℕ
with_checksum bytes hole = patched bytes hole (little_bytes 8 (checksum_but bytes hole))
