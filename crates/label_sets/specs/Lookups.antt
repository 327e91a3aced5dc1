-- What commands look up in the state.
use Rattle.std.specs.Prelude.{◌≡◌, ℕ, List, Option, None, Some}
use Rattle.std.specs.Option.{option_and_then}
use Rattle.view_types.specs.declared.extents.Extent.{Extent}
use Rattle.view_types.specs.declared.namespaces.Namespace.{Namespace}
use Rattle.view_types.specs.Intervals.{IsFirstFit, NoneFits, is_free}
use Rattle.label_codec.specs.ModuleLabels.{Labels}
use Rattle.region_map.specs.declared.platform.Platform.{Platform}
use Rattle.region_map.specs.declared.platform.Region.{Region}
use Rattle.region_map.specs.Platforms.{region_at}
use Rattle.label_table.specs.Division.{AreFreeExtents, alignment}
use Rattle.region_labels.specs.declared.positions.ModuleSpare.{ModuleSpare}
use Rattle.region_labels.specs.Positions.{IsFirstWithoutSpare}
use Rattle.region_labels.specs.declared.region.RegionLabels.{RegionLabels}
use Rattle.region_labels.specs.Regions.{IsOver}
use Rattle.label_sets.specs.Sets.{StoredSets, labels_in, platform_in}

-- what the region with an index has, where there is one
abbrev pub in_region : {A : Type 0} → StoredSets → ℕ → (Region → Option A) → Option A
in_region sets index of_region = option_and_then of_region (region_at (platform_in sets) index)

abbrev pub uuid_of : Namespace → List ℕ
uuid_of space = space.uuid

-- the first position of a region whose module has fewer spare slots
abbrev pub LacksSpareIn : Platform → Labels → ℕ → Option Region → Option ModuleSpare → Type 0
LacksSpareIn platform labels least None found = found ≡ None
LacksSpareIn platform labels least (Some region) found = IsFirstWithoutSpare platform labels region least found

abbrev pub LacksSpare : StoredSets → ℕ → ℕ → Option ModuleSpare → Type 0
LacksSpare sets index least found =
    LacksSpareIn (platform_in sets) (labels_in sets) least (region_at (platform_in sets) index) found

-- the first aligned offset from which so many are free
abbrev pub IsFitIn : List Extent → ℕ → Option ℕ → Type 0
IsFitIn extents len None = NoneFits (is_free extents) len alignment
IsFitIn extents len (Some at) = IsFirstFit (is_free extents) len alignment at

abbrev pub FitsFirstIn : Platform → Labels → ℕ → Option Region → Option ℕ → Type 0
FitsFirstIn platform labels len None found = found ≡ None
FitsFirstIn platform labels len (Some region) found =
    (extents : List Extent) → AreFreeExtents platform labels region extents → IsFitIn extents len found

abbrev pub FitsFirst : StoredSets → ℕ → ℕ → Option ℕ → Type 0
FitsFirst sets index len found =
    FitsFirstIn (platform_in sets) (labels_in sets) len (region_at (platform_in sets) index) found

-- the free extents of a region
abbrev pub AreFreeOf : Platform → Labels → Option Region → Option (List Extent) → Type 0
AreFreeOf platform labels None None = Unit {0}
AreFreeOf platform labels None (Some extents) = ⊥
AreFreeOf platform labels (Some region) None = ⊥
AreFreeOf platform labels (Some region) (Some extents) = AreFreeExtents platform labels region extents

abbrev pub TellsFree : StoredSets → ℕ → Option (List Extent) → Type 0
TellsFree sets index found = AreFreeOf (platform_in sets) (labels_in sets) (region_at (platform_in sets) index) found

-- what is kept of a region, over the modules
pub record IsKeptRegion (sets : StoredSets) (index : ℕ) (kept : RegionLabels) : Type 0 where
  pub over : IsOver sets.modules kept
  pub found : region_at (platform_in sets) index ≡ Some kept.region

abbrev pub IsKeptIn : StoredSets → ℕ → Option RegionLabels → Type 0
IsKeptIn sets index None = region_at (platform_in sets) index ≡ None
IsKeptIn sets index (Some kept) = IsKeptRegion sets index kept
