-- A namespace gets another name by the label of position 0.
use Rattle.std.specs.Prelude.{◌≡◌, ◌⊎◌, ℕ, true, List, map, option_map}
use Rattle.label_codec.specs.ModuleLabels.{Labels}
use Rattle.region_map.specs.declared.platform.Platform.{Platform}
use Rattle.region_map.specs.declared.platform.Region.{Region}
use Rattle.label_table.specs.Belonging.{member_at}
use Rattle.label_table.specs.Fates.{without_slot}
use Rattle.label_table.specs.Flips.{IsConfined}
use Rattle.label_table.specs.Spaces.{Space}
use Rattle.label_table.specs.Tables.{State, Table, changed_at, state}
use Rattle.region_labels.specs.declared.modules.LoadedModule.{LoadedModule}
use Rattle.region_labels.specs.declared.region.RegionLabels.{RegionLabels}
use Rattle.region_labels.specs.Fates.{platform_of}
use Rattle.region_labels.specs.Modules.{labels_in}
use Rattle.module_flips.specs.Together.{free_slots}
use Rattle.namespace_passes.specs.Namespaces.{IsOpen, label_at}
use Rattle.namespace_passes.specs.MarkedLabels.{renamed}

-- a namespace with another name
abbrev pub renamed_space : List ℕ → Space → Space
renamed_space name space = record space { name = name }

-- the table in which a namespace has another name
abbrev pub with_name : Region → List ℕ → List ℕ → Table → Table
with_name region uuid name table = record {
  kind = table.kind;
  spare = table.spare;
  held = table.held;
  space = changed_at region uuid (option_map (renamed_space name) (table.space region.index uuid)) table.space;
}

-- the state in which a namespace has another name, and is pending
abbrev pub with_renamed_namespace : Region → List ℕ → List ℕ → State → State
with_renamed_namespace region uuid name state = record {
  table = with_name region uuid name state.table;
  pending = changed_at region uuid true state.pending;
}

-- labels that stand for the state before, or for that with the name
abbrev pub IsBeforeOrRenamed : Platform → Region → List ℕ → List ℕ → Labels → Labels → Type 0
IsBeforeOrRenamed platform region uuid name before labels =
    (state platform labels ≡ state platform before)
    ⊎ (state platform labels ≡ with_renamed_namespace region uuid name (state platform before))

-- The namespace has the name and is pending, and all else in the state is kept. The label of position 0 is the one from
-- before with the name and the mark, wherever its slot is, and all other labels are kept.
pub record HasName (platform : Platform) (region : Region) (uuid name : List ℕ) (before after : Labels) : Type 0 where
  pub state_is : state platform after ≡ with_renamed_namespace region uuid name (state platform before)
  pub stands : IsOpen after region uuid
  pub label : option_map without_slot (label_at after region uuid 0)
      ≡ option_map (renamed name) (label_at before region uuid 0)
  pub confined : IsConfined uuid (member_at region 0).handle before after

-- so it is, and each module has as many free slots as before
pub record IsRenamed (modules : List LoadedModule) (regions : List RegionLabels) (region : Region)
    (uuid name : List ℕ) (now : List LoadedModule) : Type 0 where
  pub has_name : HasName (platform_of regions) region uuid name (labels_in modules) (labels_in now)
  pub same_free : map free_slots now ≡ map free_slots modules
