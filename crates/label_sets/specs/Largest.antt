-- How much room the free space of a region has.
use Rattle.std.specs.Prelude.{◌≡◌, ℕ, ◌^◌, ◌-◌, List, Option, None, Some, min}
use Rattle.view_types.specs.declared.extents.Extent.{Extent}
use Rattle.label_codec.specs.ModuleLabels.{Labels}
use Rattle.region_map.specs.declared.platform.Platform.{Platform}
use Rattle.region_map.specs.declared.platform.Region.{Region}
use Rattle.region_map.specs.Platforms.{region_at}
use Rattle.label_table.specs.Division.{AreFreeExtents, largest}
use Rattle.label_sets.specs.Sets.{StoredSets, labels_in, platform_in}

-- the size of the greatest namespace that the free extents of a region have room for; none is told above 2^64 - 1
abbrev pub IsLargestOf : Platform → Labels → Option Region → Option ℕ → Type 0
IsLargestOf platform labels None None = Unit {0}
IsLargestOf platform labels None (Some size) = ⊥
IsLargestOf platform labels (Some region) None = ⊥
IsLargestOf platform labels (Some region) (Some size) =
    (extents : List Extent) → AreFreeExtents platform labels region extents
    → size ≡ min (largest region extents) (2 ^ 64 - 1)

abbrev pub TellsLargest : StoredSets → ℕ → Option ℕ → Type 0
TellsLargest sets index found =
    IsLargestOf (platform_in sets) (labels_in sets) (region_at (platform_in sets) index) found
