-- The platform of regions that are kept.
use Rattle.std.specs.Prelude.{◌&&◌, Bool, not, List, [], Some, map}
use Rattle.label_codec.specs.declared.label.Label.{Label}
use Rattle.label_codec.specs.Flags.{is_read_only, is_updating}
use Rattle.label_codec.specs.ModuleLabels.{Labels}
use Rattle.label_table.specs.Fates.{is_unfinished}
use Rattle.label_table.specs.Wholes.{is_whole}
use Rattle.region_map.specs.declared.platform.Platform.{Platform}
use Rattle.region_map.specs.declared.platform.Region.{Region}
use Rattle.region_labels.specs.declared.region.RegionLabels.{RegionLabels}

abbrev pub region_in : RegionLabels → Region
region_in kept = kept.region

-- what is told of a platform by its regions alone
abbrev pub with_regions : List Region → Platform
with_regions regions = record { regions = regions; modules = []; tables = [] }

abbrev pub platform_of : List RegionLabels → Platform
platform_of regions = with_regions (map region_in regions)

-- In what follows a label belongs to the region.

-- it is being changed, and may be
abbrev pub is_stale_in : Label → Bool
is_stale_in label = is_updating label && not (is_read_only label)

abbrev pub is_dead_in : Labels → Region → Label → Bool
is_dead_in labels region label = is_stale_in label && is_unfinished labels label.uuid (Some region)

abbrev pub holds_in : Labels → Region → Label → Bool
holds_in labels region label = not (is_dead_in labels region label) && not (is_whole labels region label.uuid)
