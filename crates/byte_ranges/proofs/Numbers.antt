-- The numbers in fields of bytes.
use Rattle.std.proofs.Common.{◌≡◌, ℕ, ◌+◌, ◌-◌, ◌^◌, ◌≤◌, ◌<◌, List, ◌++◌, length, take, drop, subst, arith, append_assoc}
use Rattle.std.proofs.lemmas.List.{drop-take, drop_at, length-take}
use Rattle.byteorder.specs.Endian.{little_bytes}
use Rattle.byteorder.specs.Numbers.{little_from-take, little_number-reads_back}
use Rattle.byte_ranges.specs.Ranges.{number_at, patched}

-- a field within the front of some bytes
pub number_at-take : (n at count : ℕ) (bytes : List ℕ) → at + n ≤ count → number_at n (take count bytes) at ≡ number_at n bytes at
number_at-take n at count bytes within =
    let e : at + (count - at) ≡ count = omega arith in
    let cut = subst (λ (m : ℕ). drop at (take m bytes) ≡ take (count - at) (drop at bytes)) e (drop-take at (count - at) bytes) in
    rw cut (little_from-take 0 n (count - at) (drop at bytes) (omega arith))

-- a number that is put is read there
pub number_at-patched : (n number at : ℕ) (bytes : List ℕ) → number < 256 ^ n → at ≤ length bytes → number_at n (patched bytes at (little_bytes n number)) at ≡ number
unfolding patched
number_at-patched n number at bytes small within =
    let front : length (take at bytes) ≡ at = omega (arith, length-take at bytes) in
    let rest = drop (at + length (little_bytes n number)) bytes in
    rw (append_assoc, drop_at (take at bytes) (little_bytes n number ++ rest) at front) (little_number-reads_back n number rest small)
