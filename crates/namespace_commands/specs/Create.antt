-- What a create asks of the state, what it gives, and what a stop leaves of it.
use Rattle.std.specs.Prelude.{◌≡◌, ◌⊎◌, ℕ, ◌<◌, false, true, List, [], Option, None, Some, Result, Ok, Err}
use Rattle.std.specs.Option.{option_map_or}
use Rattle.std.specs.List.{All}
use Rattle.view_types.specs.declared.extents.Extent.{Extent}
use Rattle.view_types.specs.declared.namespaces.Namespace.{Namespace}
use Rattle.view_types.specs.declared.refusal.Refusal.{Refusal}
use Rattle.view_types.specs.Intervals.{IsFirstFit}
use Rattle.label_codec.specs.ModuleLabels.{Labels}
use Rattle.region_map.specs.declared.platform.Member.{Member}
use Rattle.region_map.specs.declared.platform.Platform.{Platform}
use Rattle.region_map.specs.declared.platform.Region.{Region}
use Rattle.region_map.specs.Platforms.{region_at}
use Rattle.label_table.specs.Division.{alignment, is_common_free}
use Rattle.label_table.specs.Flips.{HasNone}
use Rattle.label_table.specs.Spaces.{Space}
use Rattle.label_table.specs.Statuses.{RegionReady, status}
use Rattle.label_table.specs.Tables.{changed_at, is_member, table, with_namespace}
use Rattle.region_labels.specs.declared.named.Named.{Named}
use Rattle.region_labels.specs.declared.named.Named.TheVariants as named
use Rattle.region_labels.specs.declared.modules.LoadedModule.{LoadedModule}
use Rattle.region_labels.specs.Regions.{handles}
use Rattle.module_flips.specs.declared.flips.AreaFailed.{AreaFailed}
use Rattle.module_flips.specs.Together.{free_slots}
use Rattle.namespace_passes.specs.Staged.{new_space}
use Rattle.label_sets.specs.Sets.{IsTableOf, StoredSets, labels_in, platform_in, state_in}
use Rattle.label_sets.specs.Staging.{IsOpenRange}
use Rattle.table_steps.specs.declared.new_namespace.NewNamespace.{NewNamespace}
use Rattle.table_steps.specs.Create.{AreFreeOf, Creates, create_refusals, made, part_length}
use Rattle.table_steps.specs.Refusals.{first_of}
use Rattle.namespace_commands.specs.declared.creation.ChangeFault.{ChangeFault}
use Rattle.namespace_commands.specs.declared.creation.ChangeFault.TheVariants as faults
use Rattle.namespace_commands.specs.Changes.{IsBeforeOrBehind}

-- the first of the refusals of a create that applies, or none
abbrev pub IsCreateRefusal : Platform → Labels → NewNamespace → Option Refusal → Type 0
IsCreateRefusal platform labels asked refusal = (free : List Extent)
    → AreFreeOf platform labels (region_at platform asked.region) free
    → first_of (create_refusals platform labels free asked) ≡ refusal

-- the uuid of the first namespace with a name
abbrev pub first_named : Named → Option (List ℕ)
first_named named.None = None
first_named (named.One space) = Some space.uuid
first_named (named.Several count first) = Some first.uuid

-- the namespace that a create makes in a region: on the first range that fits it
pub record IsNewSpace (platform : Platform) (labels : Labels) (asked : NewNamespace) (region : Region)
    (space : Namespace) : Type 0 where
  pub first : IsFirstFit (is_common_free platform labels region) (part_length asked region) alignment space.offset
  pub is_made : new_space space ≡ made asked region space.offset

-- labels stand for the table before a create, or for that behind it
abbrev pub IsBeforeOrAfter : Platform → Labels → NewNamespace → Labels → Type 0
IsBeforeOrAfter platform before asked labels =
    IsBeforeOrBehind platform before (Creates platform before asked) labels

-- a fact where no memory was given
abbrev pub WhereMemory : Type 0 → ChangeFault → Type 0
WhereMemory fact (faults.Area dimm) = Unit {0}
WhereMemory fact faults.Memory = fact

-- the modules of the region with an index
abbrev pub modules_of : Platform → ℕ → List ℕ
modules_of platform index = option_map_or handles (region_at platform index) []

abbrev pub failed_by : ChangeFault → Result Unit AreaFailed
failed_by (faults.Area dimm) = Err (record { dimm = dimm })
failed_by faults.Memory = Ok tt

-- the area that failed, where one did
abbrev pub area_failed : {T : Type 0} → Result T ChangeFault → Result Unit AreaFailed
area_failed (Ok value) = Ok tt
area_failed (Err fault) = failed_by fault

-- A namespace can be put into a Ready region: no label of its modules has the uuid, each has two free slots, and the
-- namespace's range is common free.
pub record CanPutIn (sets : StoredSets) (space : Namespace) (region : Region) : Type 0 where
  pub ready : status (labels_in sets) region ≡ RegionReady
  pub fresh : All (λ (member : Member). HasNone space.uuid (labels_in sets member.handle)) region.members
  pub free : All (λ (loaded : LoadedModule). is_member region loaded.dimm ≡ true → 1 < free_slots loaded) sets.modules
  pub is_open : IsOpenRange (platform_in sets) (labels_in sets) region space
  pub long : 0 < space.length

-- The namespace stands, and is not pending. The marks of all others are as before.
pub record IsPutIn (before after : StoredSets) (space : Space) (region : Region) : Type 0 where
  pub table_is : (state_in after).table ≡ (with_namespace region space (state_in before)).table
  pub marks : (state_in after).pending ≡ changed_at region space.uuid false (state_in before).pending

-- labels stand for the table of the state, or for that with a new namespace
abbrev pub IsTableOrWith : StoredSets → Region → Space → Labels → Type 0
IsTableOrWith sets region space labels = IsTableOf sets labels
    ⊎ (table (platform_in sets) labels ≡ (with_namespace region space (state_in sets)).table)
