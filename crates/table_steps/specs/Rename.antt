-- `rename-namespace`: the namespace of a region that fits a key gets a name.
use Rattle.std.specs.Prelude.{◌≡◌, ℕ, ◌&&◌, Bool, false, not, List, [], ◌∷◌, Option, Some, None, find}
use Rattle.std.specs.Prelude.{if◌then◌else◌, option_map}
use Rattle.std.specs.Str.{bytes_eq}
use Rattle.view_types.specs.declared.refusal.Refusal.{Refusal}
use Rattle.view_types.specs.declared.refusal.Refusal.TheVariants as refusals
use Rattle.view_types.specs.declared.refusal.Refusal.TheVariants.{NameInUse}
use Rattle.view_types.specs.declared.reply.Reply.{Reply}
use Rattle.view_types.specs.declared.reply.Reply.TheVariants.{Renamed}
use Rattle.cmd_words.specs.declared.name_keys.NameKey.{NameKey}
use Rattle.label_codec.specs.ModuleLabels.{Labels}
use Rattle.region_map.specs.declared.platform.Platform.{Platform}
use Rattle.region_map.specs.declared.platform.Region.{Region}
use Rattle.region_map.specs.Platforms.{region_at}
use Rattle.label_table.specs.Namespaces.{namespaces}
use Rattle.label_table.specs.Spaces.{Space}
use Rattle.label_table.specs.Statuses.{status}
use Rattle.label_table.specs.Tables.{State, state, with_changed_namespace}
use Rattle.table_steps.specs.Changes.{IsDoneBy, without_marks}
use Rattle.table_steps.specs.Create.{is_named, is_unnamed}
use Rattle.table_steps.specs.Namespaces.{ambiguous_in, fitting, read_only_in, unknown_in}
use Rattle.table_steps.specs.Refusals.{by_region, first_of, no_slots, no_slots_in, not_ready_by, region_not_ready}
use Rattle.table_steps.specs.Refusals.{unhealed, unhealed_in, unknown_region, unusable}

-- another namespace than the one with this uuid has the name
abbrev pub is_other_named : List ℕ → List ℕ → Space → Bool
is_other_named name uuid space = is_named name space && not (bytes_eq uuid space.uuid)

-- One beside the first of those that fit has the name, which is not empty: of several the first by offset.
abbrev pub name_taken_beside : Labels → Region → List ℕ → List Space → Option Refusal
name_taken_beside labels region name [] = None
name_taken_beside labels region name (own ∷ spaces) =
    if is_unnamed name then None
    else option_map (λ (space : Space). NameInUse space.uuid)
    (find (is_other_named name own.uuid) (namespaces labels region))

abbrev pub name_taken_in : Labels → NameKey → List ℕ → Region → Option Refusal
name_taken_in labels key name region = name_taken_beside labels region name (fitting labels region key)

-- Each module needs a spare slot, for the labels that are written before any is freed.
abbrev pub rename_refusals : Platform → Labels → ℕ → NameKey → List ℕ → List (Option Refusal)
rename_refusals platform labels index key name =
    unknown_region platform index
    ∷ unusable platform index
    ∷ region_not_ready platform labels index
    ∷ unhealed platform labels index
    ∷ by_region platform index (unknown_in labels key)
    ∷ by_region platform index (ambiguous_in labels key)
    ∷ by_region platform index (read_only_in labels key)
    ∷ by_region platform index (name_taken_in labels key name)
    ∷ no_slots platform labels 1 index
    ∷ []

-- the same for a region that there is
abbrev pub rename_refusals_in : Platform → Labels → NameKey → List ℕ → Region → List (Option Refusal)
rename_refusals_in platform labels key name region =
    None
    ∷ option_map refusals.Unusable region.rule
    ∷ not_ready_by (status labels region)
    ∷ unhealed_in platform labels region
    ∷ unknown_in labels key region
    ∷ ambiguous_in labels key region
    ∷ read_only_in labels key region
    ∷ name_taken_in labels key name region
    ∷ no_slots_in platform labels 1 region
    ∷ []

-- a namespace with another name
abbrev pub renamed : List ℕ → Space → Space
renamed name space = record space { name = name }

-- The namespace has the name, and none of its region is pending.
abbrev pub with_renamed : Region → List ℕ → Space → State → State
with_renamed region name space before =
    without_marks region (with_changed_namespace region (renamed name space) false before)

-- The only namespace that fits gets the name.
pub record IsRenamed (platform : Platform) (labels : Labels) (index : ℕ) (key : NameKey) (name : List ℕ) (reply : Reply)
    (after : State) : Type 0 where
  pub region : Region
  pub found : region_at platform index ≡ Some region
  pub space : Space
  pub only : fitting labels region key ≡ space ∷ []
  pub after_is : after ≡ with_renamed region name space (state platform labels)
  pub reply_is : reply ≡ Renamed space.uuid name

-- The command.
abbrev pub Renames : Platform → Labels → ℕ → NameKey → List ℕ → Reply → State → Type 0
Renames platform labels index key name reply after =
    IsDoneBy (first_of (rename_refusals platform labels index key name)) (state platform labels)
    (IsRenamed platform labels index key name) reply after
