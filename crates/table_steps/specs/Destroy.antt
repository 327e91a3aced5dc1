-- `destroy-namespace`: the namespace of a region that fits a key is taken away.
use Rattle.std.specs.Prelude.{◌≡◌, ℕ, List, [], ◌∷◌, Option, Some, None, option_map}
use Rattle.view_types.specs.declared.refusal.Refusal.{Refusal}
use Rattle.view_types.specs.declared.refusal.Refusal.TheVariants as refusals
use Rattle.view_types.specs.declared.reply.Reply.{Reply}
use Rattle.view_types.specs.declared.reply.Reply.TheVariants.{Destroyed}
use Rattle.cmd_words.specs.declared.name_keys.NameKey.{NameKey}
use Rattle.label_codec.specs.ModuleLabels.{Labels}
use Rattle.region_map.specs.declared.platform.Platform.{Platform}
use Rattle.region_map.specs.declared.platform.Region.{Region}
use Rattle.region_map.specs.Platforms.{region_at}
use Rattle.label_table.specs.Spaces.{Space}
use Rattle.label_table.specs.Statuses.{status}
use Rattle.label_table.specs.Tables.{State, state, without_namespace}
use Rattle.table_steps.specs.Changes.{IsDoneBy, without_marks}
use Rattle.table_steps.specs.Namespaces.{ambiguous_in, fitting, read_only_in, unknown_in}
use Rattle.table_steps.specs.Refusals.{by_region, first_of, no_slots, no_slots_in, not_ready_by, region_not_ready}
use Rattle.table_steps.specs.Refusals.{unhealed, unhealed_in, unknown_region, unusable}

-- Each module needs a spare slot, for the labels that are written before any is freed.
abbrev pub destroy_refusals : Platform → Labels → ℕ → NameKey → List (Option Refusal)
destroy_refusals platform labels index key =
    unknown_region platform index
    ∷ unusable platform index
    ∷ region_not_ready platform labels index
    ∷ unhealed platform labels index
    ∷ by_region platform index (unknown_in labels key)
    ∷ by_region platform index (ambiguous_in labels key)
    ∷ by_region platform index (read_only_in labels key)
    ∷ no_slots platform labels 1 index
    ∷ []

-- the same for a region that there is
abbrev pub destroy_refusals_in : Platform → Labels → NameKey → Region → List (Option Refusal)
destroy_refusals_in platform labels key region =
    None
    ∷ option_map refusals.Unusable region.rule
    ∷ not_ready_by (status labels region)
    ∷ unhealed_in platform labels region
    ∷ unknown_in labels key region
    ∷ ambiguous_in labels key region
    ∷ read_only_in labels key region
    ∷ no_slots_in platform labels 1 region
    ∷ []

-- The namespace is gone, and none of its region is pending. Each module of the region has a spare slot more.
abbrev pub with_destroyed : Region → List ℕ → State → State
with_destroyed region uuid before = without_marks region (without_namespace region uuid before)

-- The only namespace that fits is taken away.
pub record IsDestroyed (platform : Platform) (labels : Labels) (index : ℕ) (key : NameKey) (reply : Reply)
    (after : State) : Type 0 where
  pub region : Region
  pub found : region_at platform index ≡ Some region
  pub space : Space
  pub only : fitting labels region key ≡ space ∷ []
  pub after_is : after ≡ with_destroyed region space.uuid (state platform labels)
  pub reply_is : reply ≡ Destroyed space.uuid

-- The command.
abbrev pub Destroys : Platform → Labels → ℕ → NameKey → Reply → State → Type 0
Destroys platform labels index key reply after =
    IsDoneBy (first_of (destroy_refusals platform labels index key)) (state platform labels)
    (IsDestroyed platform labels index key) reply after
