-- `create-namespace`: a namespace on the least aligned range of a region that is common free.
use Rattle.std.specs.Prelude.{◌≡◌, ℕ, ◌*◌, ◌/◌, ◌%◌, ◌==◌, ◌&&◌, ◌||◌, nat_lt, Bool, false, not, List, [], ◌∷◌}
use Rattle.std.specs.Prelude.{Option, Some, None, find, if◌then◌else◌, length, option_map}
use Rattle.std.specs.Option.{unwrap_or}
use Rattle.std.specs.Str.{bytes_eq}
use Rattle.view_types.specs.declared.extents.Extent.{Extent}
use Rattle.view_types.specs.declared.refusal.Refusal.{Refusal}
use Rattle.view_types.specs.declared.refusal.Refusal.TheVariants as refusals
use Rattle.view_types.specs.declared.refusal.Refusal.TheVariants.{BadSize, NameInUse, NoSpace, UuidInUse}
use Rattle.view_types.specs.declared.reply.Reply.{Reply}
use Rattle.view_types.specs.declared.reply.Reply.TheVariants.{Created}
use Rattle.view_types.specs.Intervals.{IsFirstFit}
use Rattle.label_codec.specs.declared.label.Label.{Label}
use Rattle.label_codec.specs.Names.{name_before_zero}
use Rattle.label_codec.specs.ModuleLabels.{Labels, has, number}
use Rattle.region_map.specs.declared.platform.Platform.{Platform}
use Rattle.region_map.specs.declared.platform.Region.{Region}
use Rattle.region_map.specs.Platforms.{region_at}
use Rattle.label_table.specs.Division.{AreFreeExtents, alignment, is_common_free, largest}
use Rattle.label_table.specs.Fates.{is_dead}
use Rattle.label_table.specs.Namespaces.{namespaces}
use Rattle.label_table.specs.Spaces.{Space}
use Rattle.label_table.specs.Statuses.{AreaNotReady, Clash, RegionReady, RegionStatus, Unusable, status}
use Rattle.label_table.specs.Tables.{State, state, with_namespace}
use Rattle.table_steps.specs.declared.new_namespace.NewNamespace.{NewNamespace}
use Rattle.table_steps.specs.Changes.{IsDoneBy, least_spare, without_marks}
use Rattle.table_steps.specs.Refusals.{by_region, first_of, no_slots, no_slots_in, not_ready_by, refused_if}
use Rattle.table_steps.specs.Refusals.{region_not_ready, unhealed, unhealed_in, unknown_region, unusable}

-- The namespace that a command asks for. It gets its own uuid where the command gives none.
abbrev pub asked_by : ℕ → ℕ → List ℕ → List ℕ → ℕ → Option (List ℕ) → List ℕ → NewNamespace
asked_by region size name abstraction sector uuid own = record {
  region = region;
  size = size;
  name = name;
  abstraction = abstraction;
  sector = sector;
  uuid = unwrap_or uuid own;
}

-- the bytes of all members that sizes are multiples of
abbrev pub size_unit : Region → ℕ
size_unit region = length region.members * alignment

abbrev pub bad_size_in : ℕ → Region → Option Refusal
bad_size_in size region =
    refused_if ((size == 0) || not (size % size_unit region == 0)) (BadSize (size_unit region))

-- names are compared up to their first zero byte
abbrev pub is_named : List ℕ → Space → Bool
is_named name space = bytes_eq (name_before_zero name) (name_before_zero space.name)

abbrev pub is_unnamed : List ℕ → Bool
is_unnamed name = length (name_before_zero name) == 0

-- a namespace of the region has the name: of several the first by offset
abbrev pub name_in_use_in : Labels → List ℕ → Region → Option Refusal
name_in_use_in labels name region =
    if is_unnamed name then None
    else option_map (λ (space : Space). NameInUse space.uuid) (find (is_named name) (namespaces labels region))

-- a label of the module has the uuid, and is not dead
abbrev pub keeps_uuid : Platform → Labels → List ℕ → ℕ → Bool
keeps_uuid platform labels uuid handle =
    nat_lt 0 (number (λ (label : Label). has uuid label && not (is_dead platform labels handle label)) (labels handle))

-- a module of the platform has such a label: of several, as they ascend, that of the least handle
abbrev pub uuid_in_use : Platform → Labels → List ℕ → Option Refusal
uuid_in_use platform labels uuid = option_map UuidInUse (find (keeps_uuid platform labels uuid) platform.modules)

-- the greatest namespace that the free extents have room for is smaller
abbrev pub no_space_in : List Extent → ℕ → Region → Option Refusal
no_space_in free size region = refused_if (nat_lt (largest region free) size) (NoSpace (largest region free))

-- `free` are the region's free extents. Each module needs two spare slots: one stays for what is written later, as the
-- labels of a recovery.
abbrev pub create_refusals : Platform → Labels → List Extent → NewNamespace → List (Option Refusal)
create_refusals platform labels free asked =
    unknown_region platform asked.region
    ∷ unusable platform asked.region
    ∷ region_not_ready platform labels asked.region
    ∷ unhealed platform labels asked.region
    ∷ by_region platform asked.region (bad_size_in asked.size)
    ∷ by_region platform asked.region (name_in_use_in labels asked.name)
    ∷ uuid_in_use platform labels asked.uuid
    ∷ by_region platform asked.region (no_space_in free asked.size)
    ∷ no_slots platform labels 2 asked.region
    ∷ []

-- the same for a region that there is
abbrev pub known_region_refusals : Platform → Labels → List Extent → NewNamespace → Region → List (Option Refusal)
known_region_refusals platform labels free asked region =
    None
    ∷ option_map refusals.Unusable region.rule
    ∷ not_ready_by (status labels region)
    ∷ unhealed_in platform labels region
    ∷ bad_size_in asked.size region
    ∷ name_in_use_in labels asked.name region
    ∷ uuid_in_use platform labels asked.uuid
    ∷ no_space_in free asked.size region
    ∷ no_slots_in platform labels 2 region
    ∷ []

-- the free extents of a region that is Ready: of others none are looked for
abbrev pub AreFreeWhere : RegionStatus → Platform → Labels → Region → List Extent → Type 0
AreFreeWhere RegionReady platform labels region free = AreFreeExtents platform labels region free
AreFreeWhere (Unusable rule) platform labels region free = free ≡ []
AreFreeWhere (AreaNotReady handle kind) platform labels region free = free ≡ []
AreFreeWhere (Clash first second) platform labels region free = free ≡ []

abbrev pub AreFreeOf : Platform → Labels → Option Region → List Extent → Type 0
AreFreeOf platform labels None free = free ≡ []
AreFreeOf platform labels (Some region) free = AreFreeWhere (status labels region) platform labels region free

-- how much of each member's part the namespace takes, in bytes
abbrev pub part_length : NewNamespace → Region → ℕ
part_length asked region = asked.size / length region.members

-- the namespace that is made, at an offset of each member's part
abbrev pub made : NewNamespace → Region → ℕ → Space
made asked region offset = record {
  uuid = asked.uuid;
  name = asked.name;
  abstraction = asked.abstraction;
  sector = asked.sector;
  offset = offset;
  length = part_length asked region;
  read_only = false;
}

-- The namespace stands, and none of its region is pending. Each module of the region has a spare slot less.
abbrev pub with_made : NewNamespace → Region → ℕ → State → State
with_made asked region offset before = without_marks region (with_namespace region (made asked region offset) before)

-- The spare slots that the reply tells are the fewest that a module of the region has left.
abbrev pub created : NewNamespace → Region → ℕ → State → Reply
created asked region offset after =
    Created asked.uuid asked.region offset (part_length asked region) asked.size (least_spare after region)

-- The namespace is made on the first range that fits it.
pub record IsCreated (platform : Platform) (labels : Labels) (asked : NewNamespace) (reply : Reply)
    (after : State) : Type 0 where
  pub region : Region
  pub found : region_at platform asked.region ≡ Some region
  pub offset : ℕ
  pub first : IsFirstFit (is_common_free platform labels region) (part_length asked region) alignment offset
  pub after_is : after ≡ with_made asked region offset (state platform labels)
  pub reply_is : reply ≡ created asked region offset after

abbrev pub CreatesIn : Platform → Labels → List Extent → NewNamespace → Reply → State → Type 0
CreatesIn platform labels free asked reply after =
    IsDoneBy (first_of (create_refusals platform labels free asked)) (state platform labels)
    (IsCreated platform labels asked) reply after

-- The command.
pub record Creates (platform : Platform) (labels : Labels) (asked : NewNamespace) (reply : Reply)
    (after : State) : Type 0 where
  pub free : List Extent
  pub free_are : AreFreeOf platform labels (region_at platform asked.region) free
  pub is_done : CreatesIn platform labels free asked reply after

-- Nothing refuses the command, and it is done.
pub record Accepts (platform : Platform) (labels : Labels) (free : List Extent) (asked : NewNamespace) (reply : Reply)
    (after : State) : Type 0 where
  pub free_are : AreFreeOf platform labels (region_at platform asked.region) free
  pub unrefused : first_of (create_refusals platform labels free asked) ≡ None
  pub done : IsCreated platform labels asked reply after
