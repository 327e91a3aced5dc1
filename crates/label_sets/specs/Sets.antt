-- What contracts see of the state of all modules.
use Rattle.std.specs.Prelude.{◌≡◌, Bool, List, refl}
use Rattle.std.specs.Coded.{Coded, code_by, coded_bool, coded_list, coded×}
use Rattle.label_codec.specs.ModuleLabels.{Labels}
use Rattle.region_map.specs.declared.platform.Platform.{Platform}
use Rattle.region_map.specs.declared.platform.Region.{Region}
use Rattle.label_table.specs.Tables.{State, state, table}
use Rattle.region_labels.specs.declared.modules.LoadedModule.{LoadedModule}
use Rattle.region_labels.specs.Fates.{with_regions}
use Rattle.region_labels.specs.Modules as modules
use Rattle.module_flips.specs.Passes.{Kept}
use Rattle.label_sets.specs.Codes.{module_code, region_code}

-- The regions, the modules with what was loaded of their areas, and whether there is room for a change.
pub record StoredSets : Type 0 where
  pub regions : List Region
  pub modules : List LoadedModule
  pub room : Bool

abbrev pub platform_in : StoredSets → Platform
platform_in sets = with_regions sets.regions

abbrev pub labels_in : StoredSets → Labels
labels_in sets = modules.labels_in sets.modules

-- the state that they are
abbrev pub state_in : StoredSets → State
state_in sets = state (platform_in sets) (labels_in sets)

-- what a pass over them keeps
abbrev pub kept_in : StoredSets → Kept
kept_in sets = record { modules = sets.modules; regions = sets.regions }

-- labels stand for the table of the state
abbrev pub IsTableOf : StoredSets → Labels → Type 0
IsTableOf sets labels = table (platform_in sets) labels ≡ (state_in sets).table

abbrev pub sets_code : Coded StoredSets
sets_code = code_by (List Region × (List LoadedModule × Bool))
    (coded× (coded_list region_code) (coded× (coded_list module_code) coded_bool))
    (λ s. (s.regions, (s.modules, s.room))) (λ p. record { regions = p.0; modules = p.1.0; room = p.1.1 })
    (λ _. refl)
