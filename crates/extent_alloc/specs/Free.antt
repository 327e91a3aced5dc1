-- Free space as contracts see it.
use Rattle.std.specs.Prelude.{ℕ, List, ◌∷◌, Bool, not, ◌&&◌, nat_lt, ◌==◌, if◌then◌else◌}
use Rattle.std.specs.List.{list_any}
use Rattle.view_types.specs.declared.extents.Extent.{Extent}
use Rattle.view_types.specs.Intervals.{is_within}

-- the free extents, the length of the whole, and the number of spare nodes
pub record FreeSpace : Type 0 where
  pub extents : List Extent
  pub whole : ℕ
  pub spare : ℕ

-- an extent before others, unless it is empty
abbrev pub kept : Extent → List Extent → List Extent
kept e es = if e.len == 0 then es else e ∷ es

-- the offset is in one of the ranges
abbrev pub is_taken : List Extent → ℕ → Bool
is_taken ranges o = list_any (λ (r : Extent). is_within r.start r.len o) ranges

-- the offset is one of the whole, and in none of the ranges
abbrev pub is_outside : ℕ → List Extent → ℕ → Bool
is_outside whole ranges o = nat_lt o whole && not (is_taken ranges o)
