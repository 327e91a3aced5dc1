-- The files that hold label storage areas.
use Rattle.std.specs.Prelude.{ℕ, ◌+◌, ◌*◌, ◌/◌, ◌%◌, ◌^◌, ◌≤◌, List, [], ◌∷◌, ◌++◌, map, codes, string_bytes}
use Rattle.std.specs.Prelude.{string_len, string_capacity}
use Rattle.std.specs.declared.alloc.Global.{Global}
use Rattle.std.specs.declared.string.String.{String}
use Rattle.std.specs.Char.{digit_char}
use Rattle.std.specs.String.Boundary.{IsSplitPoint}

-- the hexadecimal digit at a place, from 0 for the last one
abbrev pub digit_at : ℕ → ℕ → ℕ
digit_at n place = digit_char (n / 2 ^ (4 * place) % 16)

-- the places of eight digits, as they are written
abbrev pub places : List ℕ
places = 7 ∷ 6 ∷ 5 ∷ 4 ∷ 3 ∷ 2 ∷ 1 ∷ 0 ∷ []

-- the eight hexadecimal digits of a device handle
abbrev pub handle_digits : ℕ → List ℕ
handle_digits dimm = map (digit_at dimm) places

-- what the path of an area's file has behind its folder
abbrev pub area_file : ℕ → List ℕ
area_file dimm = codes "/dimm-" ++ handle_digits dimm ++ codes ".lsa"

-- the path begins with the folder, behind which there is room for what any area's path has there
pub record HasRoom (path : String Global) (folder_len : ℕ) : Type 0 where
  pub boundary : IsSplitPoint (string_bytes path) folder_len
  pub folder : folder_len ≤ string_len path
  pub room : folder_len + 18 ≤ string_capacity path
