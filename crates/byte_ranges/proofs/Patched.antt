-- What stands where in bytes with other bytes over a range.
use Rattle.std.proofs.Common.{◌≡◌, ℕ, ◌+◌, ◌-◌, ◌≤◌, ◌<◌, List, ◌++◌, length, get_or, take, drop, refl, arith, append_assoc}
use Rattle.std.proofs.lemmas.List.{places, same_lists, take_at, drop_at, length-take, length-drop, get_or-take, get_or-drop}
use Rattle.std.proofs.lemmas.Grind.{common_steps}
use Rattle.byte_ranges.specs.Ranges.{range, patched}

-- lists of one length that agree within a range have one range
pub range_same : (xs ys : List ℕ) (from n : ℕ) → length xs ≡ length ys → ((k d : ℕ) → from ≤ k → k < from + n → get_or xs k d ≡ get_or ys k d) → range xs from n ≡ range ys from n
range_same xs ys from n same_length agree =
    same_lists _ _ (omega (arith, same_length, length-take n (drop from xs), length-take n (drop from ys), length-drop from xs, length-drop from ys))
    (λ k d lt.
    let below : k < n = omega (arith, lt, length-take n (drop from xs)) in
    rw (get_or-take n (drop from xs) k d below, get_or-take n (drop from ys) k d below, get_or-drop from xs, get_or-drop from ys) (agree (from + k) d (omega arith) (omega arith)))

module _ (bytes put : List ℕ) (at : ℕ) (fits : at + length put ≤ length bytes) where
  pub length-patched : length (patched bytes at put) ≡ length bytes
  unfolding patched
  length-patched = grind (arith, common_steps)

  pub get_or-patched_before : (k d : ℕ) → k < at → get_or (patched bytes at put) k d ≡ get_or bytes k d
  unfolding patched
  get_or-patched_before k d before = grind (arith, places)

  pub get_or-patched_in : (k d : ℕ) → at ≤ k → k < at + length put → get_or (patched bytes at put) k d ≡ get_or put (k - at) d
  unfolding patched
  get_or-patched_in k d from below = grind (arith, places)

  pub get_or-patched_after : (k d : ℕ) → at + length put ≤ k → get_or (patched bytes at put) k d ≡ get_or bytes k d
  unfolding patched
  get_or-patched_after k d behind = grind (arith, places)

  -- a range that doesn't meet it is as before
  pub range-patched_before : (from n : ℕ) → from + n ≤ at → range (patched bytes at put) from n ≡ range bytes from n
  range-patched_before from n before = range_same _ _ from n length-patched (λ k d ge lt. get_or-patched_before k d (omega arith))

  pub range-patched_after : (from n : ℕ) → at + length put ≤ from → range (patched bytes at put) from n ≡ range bytes from n
  range-patched_after from n behind = range_same _ _ from n length-patched (λ k d ge lt. get_or-patched_after k d (omega arith))

  -- its own range has the bytes that were put
  pub range-patched_in : range (patched bytes at put) at (length put) ≡ put
  unfolding patched
  range-patched_in =
      let front : length (take at bytes) ≡ at = omega (arith, length-take at bytes) in
      rw (append_assoc, drop_at (take at bytes) (put ++ drop (at + length put) bytes) at front) (take_at put (drop (at + length put) bytes) (length put) refl)

-- of two fields put at one place, the second stands
pub patched-patched : (bytes first second : List ℕ) (at : ℕ) → length first ≡ length second → at + length second ≤ length bytes
    → patched (patched bytes at first) at second ≡ patched bytes at second
unfolding patched
patched-patched bytes first second at same fits = grind (arith, common_steps)
