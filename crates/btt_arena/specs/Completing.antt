-- What it is to complete the lanes of an arena.
use Rattle.std.specs.Prelude.{◌≡◌, ◌⊎◌, ℕ, ◌-◌, ◌≤◌, List, Option}
use Rattle.btt_arena.specs.declared.layout.Layout.{Layout}
use Rattle.btt_arena.specs.Formatting.{ChangesOnly}
use Rattle.btt_arena.specs.declared.halves.Half.{Half}
use Rattle.btt_arena.specs.Tables.{Map, completed_by, map_in, with_lane}

-- the map is this one, and all other bytes are as before
pub record HasMap (a : Layout) (map : Map) (before bytes : List ℕ) : Type 0 where
  pub changes : ChangesOnly a.map_at (a.log_at - a.map_at) before bytes
  pub entries : map_in a bytes ≡ map

-- the first lanes are completed
abbrev pub IsCompleted : Layout → (ℕ → Option Half) → List ℕ → ℕ → List ℕ → Type 0
IsCompleted a halves before lanes bytes = HasMap a (completed_by halves lanes (map_in a before)) before bytes

-- as many lanes as one may say are completed, in ascending order
abbrev pub IsPartly : Layout → (ℕ → Option Half) → List ℕ → List ℕ → Type 0
IsPartly a halves before bytes = (lanes : ℕ) × (lanes ≤ 256) × IsCompleted a halves before lanes bytes

-- a lane is as it was, or completed
abbrev pub IsHereOrThere : Layout → Option Half → List ℕ → List ℕ → Type 0
IsHereOrThere a newer before bytes = HasMap a (map_in a before) before bytes
    ⊎ HasMap a (with_lane newer (map_in a before)) before bytes
