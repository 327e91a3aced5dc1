-- The status of a region.
use Rattle.std.specs.Prelude.{ℕ, List, [], ◌∷◌, Option, Some, None, if◌then◌else◌}
use Rattle.view_types.specs.declared.rule.Rule.{Rule}
use Rattle.label_codec.specs.declared.kind.AreaKind.{AreaKind}
use Rattle.label_codec.specs.ModuleLabels.{Labels, is_ready}
use Rattle.region_map.specs.declared.platform.Member.{Member}
use Rattle.region_map.specs.declared.platform.Region.{Region}
use Rattle.label_table.specs.Namespaces.{first_clash, namespaces}
use Rattle.label_table.specs.Spaces.{Space}

pub data RegionStatus : Type 0 where
  -- the region cannot be used
  Unusable : (rule : Rule) → RegionStatus
  -- the area of the module with this handle is of this kind
  AreaNotReady : (handle : ℕ) (kind : AreaKind) → RegionStatus
  -- the namespaces with these uuids overlap
  Clash : (first second : List ℕ) → RegionStatus
  RegionReady : RegionStatus

-- the first member whose area is not Ready
abbrev pub first_not_ready : (ℕ → AreaKind) → List Member → Option ℕ
first_not_ready kind [] = None
first_not_ready kind (member ∷ members) =
    if is_ready (kind member.handle) then first_not_ready kind members else Some member.handle

abbrev pub status_by_clash : Option (List ℕ × List ℕ) → RegionStatus
status_by_clash None = RegionReady
status_by_clash (Some clash) = Clash clash.0 clash.1

abbrev pub status_by_area : (ℕ → AreaKind) → List Space → Option ℕ → RegionStatus
status_by_area kind spaces (Some handle) = AreaNotReady handle (kind handle)
status_by_area kind spaces None = status_by_clash (first_clash spaces)

-- the status by the kinds of the areas and the namespaces of the region: the first that applies
abbrev pub status_by : (ℕ → AreaKind) → List Space → Region → Option Rule → RegionStatus
status_by kind spaces region (Some rule) = Unusable rule
status_by kind spaces region None = status_by_area kind spaces (first_not_ready kind region.members)

abbrev pub status : Labels → Region → RegionStatus
status labels region = status_by (λ handle. (labels handle).kind) (namespaces labels region) region region.rule
