-- What refuses a change of the namespace of a region that fits a key, and what holds where nothing does.
use Rattle.std.specs.Prelude.{◌≡◌, ℕ, ◌<◌, false, List, [], ◌∷◌, Option, None, Some}
use Rattle.std.specs.List.{Contains}
use Rattle.view_types.specs.declared.namespaces.Namespace.{Namespace}
use Rattle.view_types.specs.declared.refusal.Refusal.{Refusal}
use Rattle.cmd_words.specs.declared.name_keys.NameKey.{NameKey}
use Rattle.label_codec.specs.ModuleLabels.{Labels}
use Rattle.region_map.specs.declared.platform.Member.{Member}
use Rattle.region_map.specs.declared.platform.Platform.{Platform}
use Rattle.region_map.specs.declared.platform.Region.{Region}
use Rattle.region_map.specs.Platforms.{region_at}
use Rattle.label_table.specs.Fates.{spare}
use Rattle.label_table.specs.Spaces as spaces
use Rattle.label_table.specs.Statuses.{RegionReady, status}
use Rattle.region_labels.specs.Statuses.{space_in}
use Rattle.table_steps.specs.Namespaces.{ambiguous_in, fitting, read_only_in, unknown_in}
use Rattle.table_steps.specs.Refusals.{by_region, first_of, region_not_ready, unhealed, unhealed_in, unknown_region}
use Rattle.table_steps.specs.Refusals.{unusable}
use Rattle.namespace_commands.specs.declared.refusals.Unanswered.{Unanswered}
use Rattle.namespace_commands.specs.declared.refusals.Unanswered.TheVariants as unanswereds

-- what refuses each command that changes the namespace that fits a key, before what refuses the command alone
abbrev pub keyed : Platform → Labels → ℕ → NameKey → List (Option Refusal) → List (Option Refusal)
keyed platform labels index key more =
    unknown_region platform index
    ∷ unusable platform index
    ∷ region_not_ready platform labels index
    ∷ unhealed platform labels index
    ∷ by_region platform index (unknown_in labels key)
    ∷ by_region platform index (ambiguous_in labels key)
    ∷ by_region platform index (read_only_in labels key)
    ∷ more

-- what refuses a change of the namespace that fits a key, of those of one region
abbrev pub key_refusals : Labels → NameKey → Region → List (Option Refusal)
key_refusals labels key region = unknown_in labels key region ∷ ambiguous_in labels key region
    ∷ read_only_in labels key region ∷ []

-- Why a command has no answer: the first of its refusals that applies, or nothing tells why memory was refused.
abbrev pub IsRefusedBy : Option Refusal → Unanswered → Type 0
IsRefusedBy first (unanswereds.Refused refusal) = first ≡ Some refusal
IsRefusedBy first unanswereds.Memory = Unit {0}

-- One namespace alone of the region fits, and it is not read-only.
pub record IsOnly (labels : Labels) (key : NameKey) (space : Namespace) (region : Region) : Type 0 where
  pub only : fitting labels region key ≡ space_in space ∷ []
  pub writable : space.read_only ≡ false

-- Nothing refuses a change of a namespace of the region so far: the region is Ready and can be recovered, and the
-- namespace alone fits.
pub record IsChosenIn (platform : Platform) (labels : Labels) (key : NameKey) (space : Namespace)
    (region : Region) : Type 0 where
  pub ready : status labels region ≡ RegionReady
  pub healable : unhealed_in platform labels region ≡ None
  pub fits : IsOnly labels key space region

-- So it is in the region with an index, which there is.
pub record IsChosen (platform : Platform) (labels : Labels) (index : ℕ) (key : NameKey)
    (space : Namespace) : Type 0 where
  pub unrefused : (more : List (Option Refusal)) → first_of (keyed platform labels index key more) ≡ first_of more
  pub chosen : (region : Region) → region_at platform index ≡ Some region
      → IsChosenIn platform labels key space region

-- A namespace of a region can be changed: the region is Ready and can be recovered, the namespace stands there and is
-- not read-only, and each module has a spare slot.
pub record CanChange (platform : Platform) (labels : Labels) (space : Namespace) (region : Region) : Type 0 where
  pub ready : status labels region ≡ RegionReady
  pub healable : unhealed_in platform labels region ≡ None
  pub stands : spaces.space labels region space.uuid ≡ Some (space_in space)
  pub writable : space.read_only ≡ false
  pub spares : (member : Member) → Contains region.members member → 0 < spare platform labels member.handle
