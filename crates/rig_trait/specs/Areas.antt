-- The label storage areas of all modules.
use Rattle.std.specs.Prelude.{◌≡◌, ◌≢◌, ℕ, ◌+◌, ◌≤◌, List, [], length, Option, IsSome, unwrap_or}
use Rattle.std.specs.Ordering.{nat_cmp}
use Rattle.std.specs.FinMap.{FinMap, get, insert}
use Rattle.std.specs.Option.{option_map}
use Rattle.byte_ranges.specs.Ranges.{range, patched}

-- the bytes of each area, by the device handle of its module
abbrev pub Areas : Type 0
Areas = FinMap nat_cmp (List ℕ)

-- the bytes of an area, none where there is no area
abbrev pub area : Areas → ℕ → List ℕ
area areas dimm = unwrap_or (get areas dimm) []

-- the size of an area, where there is one
abbrev pub size_in : Areas → ℕ → Option ℕ
size_in areas dimm = option_map length (get areas dimm)

-- n bytes of an area from an offset on
abbrev pub bytes_in : Areas → ℕ → ℕ → ℕ → List ℕ
bytes_in areas dimm at n = range (area areas dimm) at n

-- the area is there, and n bytes from an offset lie inside it
pub record IsWithin (areas : Areas) (dimm at n : ℕ) : Type 0 where
  pub is_area : IsSome (get areas dimm)
  pub fits : at + n ≤ length (area areas dimm)

-- the areas with other bytes in one of them, from an offset on
abbrev pub written : Areas → ℕ → ℕ → List ℕ → Areas
written areas dimm at put = insert areas dimm (patched (area areas dimm) at put)

-- every area but one is as before
abbrev pub OthersKept : ℕ → Areas → Areas → Type 0
OthersKept dimm old new = (q : ℕ) → q ≢ dimm → get new q ≡ get old q

-- no area is made or taken away, and no size changes
abbrev pub SizesKept : Areas → Areas → Type 0
SizesKept old new = (q : ℕ) → size_in new q ≡ size_in old q
