-- Which modules have a live label with a uuid that is not dead.
use Rattle.std.specs.Prelude.{◌≡◌, ℕ, ◌≤◌, nat_lt, Bool, true, false, not, ◌&&◌, List, Option, Some, None}
use Rattle.std.specs.List.{Contains}
use Rattle.label_codec.specs.declared.label.Label.{Label}
use Rattle.label_codec.specs.ModuleLabels.{Labels, has, number}
use Rattle.region_map.specs.declared.platform.Platform.{Platform}
use Rattle.label_table.specs.Fates.{is_dead}
use Rattle.region_labels.specs.declared.modules.LoadedModule.{LoadedModule}
use Rattle.region_labels.specs.Modules.{module_in}

-- a label of the module with this handle has the uuid, and is not dead
abbrev pub keeps_uuid : Platform → Labels → List ℕ → ℕ → Label → Bool
keeps_uuid platform labels uuid handle label = has uuid label && not (is_dead platform labels handle label)

-- a module has such a label. One that is not Ready has no labels.
abbrev pub has_uuid : Platform → Labels → List ℕ → LoadedModule → Bool
has_uuid platform labels uuid loaded =
    nat_lt 0 (number (keeps_uuid platform labels uuid loaded.dimm) (module_in loaded))

-- the least handle of those modules
pub record IsLeastHolder (platform : Platform) (labels : Labels) (uuid : List ℕ) (modules : List LoadedModule)
    (handle : ℕ) : Type 0 where
  pub holder : LoadedModule
  pub listed : Contains modules holder
  pub is : holder.dimm ≡ handle
  pub holds : has_uuid platform labels uuid holder ≡ true
  pub least : (loaded : LoadedModule) → Contains modules loaded → has_uuid platform labels uuid loaded ≡ true
      → handle ≤ loaded.dimm

abbrev pub IsHolder : Platform → Labels → List ℕ → List LoadedModule → Option ℕ → Type 0
IsHolder platform labels uuid modules None =
    (loaded : LoadedModule) → Contains modules loaded → has_uuid platform labels uuid loaded ≡ false
IsHolder platform labels uuid modules (Some handle) = IsLeastHolder platform labels uuid modules handle
