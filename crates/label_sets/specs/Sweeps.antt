-- The sweep of a module, among those of the state.
use Rattle.std.specs.Prelude.{◌≡◌, ℕ, ◌<◌, length, slice_index_or}
use Rattle.region_labels.specs.declared.modules.LoadedModule.{LoadedModule}
use Rattle.module_flips.specs.Together.{free_slots}
use Rattle.module_flips.specs.Sweeps.{IsSwept}
use Rattle.label_sets.specs.Sets.{StoredSets, labels_in, platform_in, state_in}

-- the module with a device handle is swept
abbrev pub IsSweptAt : StoredSets → ℕ → Type 0
IsSweptAt sets dimm = (place : ℕ) (d : LoadedModule) → place < length sets.modules
    → (slice_index_or sets.modules place d).dimm ≡ dimm
    → IsSwept (platform_in sets) (labels_in sets) (slice_index_or sets.modules place d)

-- the module with a device handle has as many free slots as the table has spare ones of it
abbrev pub IsFreeAsSpare : StoredSets → ℕ → Type 0
IsFreeAsSpare sets dimm = (place : ℕ) (d : LoadedModule) → place < length sets.modules
    → (slice_index_or sets.modules place d).dimm ≡ dimm
    → free_slots (slice_index_or sets.modules place d) ≡ (state_in sets).table.spare dimm
