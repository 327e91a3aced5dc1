-- What passes keep that replace labels, whether they end well or not.
use Rattle.std.specs.Prelude.{◌≡◌, ℕ, List, map}
use Rattle.std.specs.List.{AllZip}
use Rattle.label_table.specs.Tables.{table}
use Rattle.label_table.specs.Wholes.{any_label}
use Rattle.label_codec.specs.ModuleLabels.{Labels, number}
use Rattle.region_labels.specs.Rooms.{KeepsRegion}
use Rattle.region_labels.specs.declared.modules.LoadedModule.{LoadedModule}
use Rattle.region_labels.specs.declared.region.RegionLabels.{RegionLabels}
use Rattle.region_labels.specs.Fates.{platform_of}
use Rattle.region_labels.specs.Modules.{labels_in, module_in}
use Rattle.module_flips.specs.Together.{StaysTogether, free_slots}

-- the room in the index of a region
abbrev pub room_in : RegionLabels → ℕ
room_in kept = kept.index.room

-- how many live labels a module has
abbrev pub label_number : LoadedModule → ℕ
label_number loaded = number any_label (module_in loaded)

-- labels stand for the table that other ones stand for
abbrev pub HasTableOf : List LoadedModule → List RegionLabels → Labels → Type 0
HasTableOf modules regions labels =
    table (platform_of regions) labels ≡ table (platform_of regions) (labels_in modules)

-- What labels that are replaced one by one keep: modules and regions go together as before, with as many free slots, as
-- many labels and as much room.
pub record IsStill (modules : List LoadedModule) (regions : List RegionLabels) (now : List LoadedModule)
    (regions_now : List RegionLabels) : Type 0 where
  pub together : StaysTogether modules regions now regions_now
  pub same_free : map free_slots now ≡ map free_slots modules
  pub same_counts : map label_number now ≡ map label_number modules
  pub rooms : AllZip (KeepsRegion room_in) regions regions_now
