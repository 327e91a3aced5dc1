-- What refuses a release of held labels, told of the held labels of a module as they are listed.
use Rattle.std.specs.Prelude.{◌≡◌, ℕ, ◌==◌, ◌&&◌, ◌||◌, Bool, false, not, true, List, ◌∷◌, Option, None, Some}
use Rattle.std.specs.List.{list_any}
use Rattle.std.specs.Str.{bytes_eq}
use Rattle.view_types.specs.declared.namespaces.Held.{Held}
use Rattle.view_types.specs.declared.refusal.Refusal.{Refusal}
use Rattle.label_codec.specs.ModuleLabels.{Labels}
use Rattle.region_map.specs.declared.platform.Platform.{Platform}
use Rattle.region_map.specs.declared.platform.Region.{Region}
use Rattle.label_table.specs.Wholes.{all_ready}
use Rattle.table_steps.specs.Refusals.{area_not_ready, first_of, unknown_dimm}
use Rattle.namespace_commands.specs.declared.creation.ChangeFault.{ChangeFault}
use Rattle.namespace_commands.specs.declared.creation.ChangeFault.TheVariants as faults
use Rattle.namespace_commands.specs.Lists.{AreHeldOf}

-- a held label has the uuid
abbrev pub is_with : List ℕ → Held → Bool
is_with uuid held = bytes_eq uuid held.uuid

abbrev pub is_index : ℕ → Option ℕ → Bool
is_index index None = false
is_index index (Some other) = other == index

-- and belongs to the region with an index
abbrev pub is_with_in : List ℕ → ℕ → Held → Bool
is_with_in uuid index held = is_with uuid held && is_index index held.region

-- and is read-only, or not of an interleave set
abbrev pub is_fixed_with : List ℕ → Held → Bool
is_fixed_with uuid held = is_with uuid held && (held.read_only || held.local)

-- One with the uuid belongs to the region, and the area of a module of the region is not Ready.
abbrev pub lacks_area : Labels → List Held → List ℕ → Region → Bool
lacks_area labels held uuid region =
    list_any (is_with_in uuid region.index) held && not (all_ready region labels)

-- A module of the platform has a Ready area, and these are its held labels.
pub record IsReadyHeld (platform : Platform) (labels : Labels) (dimm : ℕ) (held : List Held) : Type 0 where
  pub unrefused : (more : List (Option Refusal))
      → first_of (unknown_dimm platform dimm ∷ area_not_ready labels dimm ∷ more) ≡ first_of more
  pub held_are : AreHeldOf platform labels dimm held

-- the module of an area that failed is one of the platform's
abbrev pub IsAreaOf : Platform → ChangeFault → Type 0
IsAreaOf platform (faults.Area dimm) = list_any (λ handle. handle == dimm) platform.modules ≡ true
IsAreaOf platform faults.Memory = Unit {0}
