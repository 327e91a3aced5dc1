-- `release-held`: the labels with one uuid that a module holds are given up.
use Rattle.std.specs.Prelude.{◌≡◌, ℕ, ◌==◌, ◌&&◌, ◌||◌, ◌<◌, nat_lt, Bool, not, true, List, [], ◌∷◌, Option, find}
use Rattle.std.specs.List.{Contains, list_any}
use Rattle.std.specs.Option.{option_and_then}
use Rattle.view_types.specs.declared.refusal.Refusal.{Refusal}
use Rattle.view_types.specs.declared.refusal.Refusal.TheVariants.{NotHeld, ReadOnly}
use Rattle.view_types.specs.declared.reply.Reply.{Reply}
use Rattle.view_types.specs.declared.reply.Reply.TheVariants.{Released}
use Rattle.label_codec.specs.declared.label.Label.{Label}
use Rattle.label_codec.specs.Flags.{is_local, is_read_only}
use Rattle.label_codec.specs.declared.kind.AreaKind.TheVariants.{Ready}
use Rattle.label_codec.specs.ModuleLabels.{Labels, has}
use Rattle.region_map.specs.declared.platform.Platform.{Platform}
use Rattle.region_map.specs.declared.platform.Region.{Region}
use Rattle.label_table.specs.Belonging.{belongs}
use Rattle.label_table.specs.Fates.{held_count}
use Rattle.label_table.specs.Settling.{settled, without_held}
use Rattle.label_table.specs.Statuses.{status}
use Rattle.label_table.specs.Tables.{State, state}
use Rattle.label_table.specs.Wholes.{all_ready}
use Rattle.table_steps.specs.Changes.{IsDoneBy}
use Rattle.table_steps.specs.Refusals.{area_not_ready, first_of, not_ready_by, refused_if, unknown_dimm}

abbrev pub not_held : Platform → Labels → ℕ → List ℕ → Option Refusal
not_held platform labels dimm uuid = refused_if (held_count platform labels dimm (has uuid) == 0) NotHeld

-- the module holds a label with the uuid that belongs to the region
abbrev pub holds_of : Platform → Labels → ℕ → List ℕ → Region → Bool
holds_of platform labels dimm uuid region =
    nat_lt 0 (held_count platform labels dimm (λ label. has uuid label && belongs region dimm label))

-- so it does, and the area of a module of the region is not Ready
abbrev pub lacks_area : Platform → Labels → ℕ → List ℕ → Region → Bool
lacks_area platform labels dimm uuid region = holds_of platform labels dimm uuid region && not (all_ready region labels)

-- One of the labels belongs to a region with a module whose area is not Ready: of several regions that of the least
-- index. A label may be all that is left of a namespace there.
abbrev pub region_lacks_area : Platform → Labels → ℕ → List ℕ → Option Refusal
region_lacks_area platform labels dimm uuid =
    option_and_then (λ (region : Region). not_ready_by (status labels region))
    (find (lacks_area platform labels dimm uuid) platform.regions)

-- one of the labels is read-only, or not of an interleave set
abbrev pub is_fixed : List ℕ → Label → Bool
is_fixed uuid label = has uuid label && (is_read_only label || is_local label)

abbrev pub held_fixed : Platform → Labels → ℕ → List ℕ → Option Refusal
held_fixed platform labels dimm uuid =
    refused_if (nat_lt 0 (held_count platform labels dimm (is_fixed uuid))) (ReadOnly uuid)

abbrev pub release_refusals : Platform → Labels → ℕ → List ℕ → List (Option Refusal)
release_refusals platform labels dimm uuid =
    unknown_dimm platform dimm
    ∷ area_not_ready labels dimm
    ∷ not_held platform labels dimm uuid
    ∷ region_lacks_area platform labels dimm uuid
    ∷ held_fixed platform labels dimm uuid
    ∷ []

-- A module of the platform has a Ready area and holds labels with the uuid. None of these is read-only or not of an
-- interleave set, and each region that one of them belongs to has the areas of all its modules.
pub record MayBeReleased (platform : Platform) (labels : Labels) (dimm : ℕ) (uuid : List ℕ) : Type 0 where
  pub known : list_any (λ handle. handle == dimm) platform.modules ≡ true
  pub ready : (labels dimm).kind ≡ Ready
  pub some : 0 < held_count platform labels dimm (has uuid)
  pub loose : held_count platform labels dimm (is_fixed uuid) ≡ 0
  pub areas : (region : Region) → Contains platform.regions region → holds_of platform labels dimm uuid region ≡ true
      → all_ready region labels ≡ true

-- The module holds none of the labels any longer, and has a spare slot more for each. Held labels of other modules that
-- are left of the same namespace may vanish with them.
abbrev pub released : Platform → ℕ → List ℕ → State → State
released platform dimm uuid before = record {
  table = settled platform (without_held dimm uuid before.table);
  pending = before.pending;
}

-- all labels with the uuid that the module holds are given up
pub record IsReleased (platform : Platform) (labels : Labels) (dimm : ℕ) (uuid : List ℕ) (reply : Reply)
    (after : State) : Type 0 where
  pub after_is : after ≡ released platform dimm uuid (state platform labels)
  pub reply_is : reply ≡ Released (held_count platform labels dimm (has uuid))

-- The command.
abbrev pub Releases : Platform → Labels → ℕ → List ℕ → Reply → State → Type 0
Releases platform labels dimm uuid reply after =
    IsDoneBy (first_of (release_refusals platform labels dimm uuid)) (state platform labels)
    (IsReleased platform labels dimm uuid) reply after
