-- Modules of which one has another area.
use Rattle.std.specs.Prelude.{◌≡◌, ◌≢◌, ℕ, ◌<◌, List, length, map, slice_index, slice_index_or}
use Rattle.region_labels.specs.declared.modules.LoadedModule.{LoadedModule}
use Rattle.region_labels.specs.Modules.{dimm_of}

-- the module at a seat has another area, and all else stays
pub record IsChangedAt (before after : List LoadedModule) (seat : ℕ) : Type 0 where
  pub within : seat < length before
  pub each : length after ≡ length before
  pub dimm : (d : LoadedModule) → (slice_index_or after seat d).dimm ≡ (slice_index_or before seat d).dimm
  pub others : (k : ℕ) (d : LoadedModule) → k ≢ seat → slice_index_or after k d ≡ slice_index_or before k d

-- the device handle of the module at a seat
abbrev pub dimm_at : List LoadedModule → ℕ → ℕ
dimm_at modules seat = slice_index (map dimm_of modules) seat
