-- How the status of a region is shown.
use Rattle.std.specs.Prelude.{◌≡◌, ℕ, ◌<◌, Option, None, Some, length}
use Rattle.view_types.specs.declared.namespaces.Namespace.{Namespace}
use Rattle.view_types.specs.declared.states.AreaState.{AreaState}
use Rattle.view_types.specs.declared.states.AreaState.TheVariants as state
use Rattle.view_types.specs.declared.states.Status.{Status}
use Rattle.view_types.specs.declared.states.Status.TheVariants as shown
use Rattle.label_codec.specs.declared.kind.AreaKind.{AreaKind}
use Rattle.label_codec.specs.declared.kind.AreaKind.TheVariants.{Missing, WrongSize, Ready, Foreign, Uninit}
use Rattle.label_codec.specs.ModuleLabels.{Labels}
use Rattle.region_map.specs.declared.platform.Region.{Region}
use Rattle.label_table.specs.Belonging.{member_at}
use Rattle.label_table.specs.Spaces.{Space}
use Rattle.label_table.specs.Statuses.{AreaNotReady, Clash, RegionReady, RegionStatus, Unusable, first_not_ready}

-- a namespace as it is listed, without the mark of a change under way
abbrev pub space_in : Namespace → Space
space_in space = record {
  uuid = space.uuid;
  name = space.name;
  abstraction = space.abstraction;
  sector = space.sector;
  offset = space.offset;
  length = space.length;
  read_only = space.read_only;
}

-- how an area that is not Ready is shown
abbrev pub unready_state : AreaKind → AreaState
unready_state Missing = state.Missing
unready_state WrongSize = state.WrongSize
unready_state Ready = state.Ready 0 0
unready_state Foreign = state.Foreign
unready_state Uninit = state.Uninit

abbrev pub shown_status : RegionStatus → Status
shown_status (Unusable rule) = shown.Unusable rule
shown_status (AreaNotReady handle kind) = shown.Area handle (unready_state kind)
shown_status (Clash first second) = shown.Clash first second
shown_status RegionReady = shown.Ready

-- the first position whose module is not Ready
abbrev pub IsFirstNotReady : Labels → Region → Option ℕ → Type 0
IsFirstNotReady labels region None = first_not_ready (λ handle. (labels handle).kind) region.members ≡ None
IsFirstNotReady labels region (Some position) = (position < length region.members)
    × (first_not_ready (λ handle. (labels handle).kind) region.members ≡ Some (member_at region position).handle)
