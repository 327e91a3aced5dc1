-- What a pass over the label storage areas of modules promises. It is one flip or several, each of one module, or none.
use Rattle.std.specs.Prelude.{◌≡◌, ℕ, false, List, OnOk, Result, map}
use Rattle.std.specs.FinMap.{get}
use Rattle.std.specs.List.{All}
use Rattle.rig_trait.specs.declared.shown.Shown.{Ghosts}
use Rattle.rig_trait.specs.Areas.{Areas}
use Rattle.rig_trait.specs.Frames.{IsTold, LeavesOnly}
use Rattle.rig_trait.specs.Records.{CrashRecord}
use Rattle.label_area.specs.Flips.{is_among}
use Rattle.label_codec.specs.ModuleLabels.{Labels}
use Rattle.region_map.specs.declared.platform.Region.{Region}
use Rattle.region_labels.specs.declared.modules.LoadedModule.{LoadedModule}
use Rattle.region_labels.specs.declared.region.RegionLabels.{RegionLabels}
use Rattle.region_labels.specs.Fates.{region_in}
use Rattle.region_labels.specs.Modules.{dimm_of, labels_in, size_in}
use Rattle.module_flips.specs.declared.flips.AreaFailed.{AreaFailed}
use Rattle.module_flips.specs.Flips.{IsSizedIn}
use Rattle.module_flips.specs.Stops.{HasAreaCause, LeftIn, WritesAmong}
use Rattle.module_flips.specs.Stored.{StandsIn}

-- What is kept: the modules with what was loaded of their areas, and the regions that they form.
pub record Kept : Type 0 where
  pub modules : List LoadedModule
  pub regions : List Region

abbrev pub kept_of : List LoadedModule → List RegionLabels → Kept
kept_of modules regions = record { modules = modules; regions = map region_in regions }

-- a rig that tells has areas of the sizes that are kept
abbrev pub AreSized : {R : Type 0} → Ghosts R → R → List LoadedModule → Type 0
AreSized m rig modules = IsTold m rig → All (IsSizedIn (m.areas rig)) modules

-- What a stop within a pass leaves: the output as it was, all areas but these byte for byte, and in a fair record labels
-- that fit.
pub record LeftByPass (handles modules said : List ℕ) (areas : Areas) (fits : Labels → Type 0)
    (c : CrashRecord) : Type 0 where
  pub left : LeftIn modules said fits c
  pub others : (dimm : ℕ) → is_among handles dimm ≡ false → get c.areas dimm ≡ get areas dimm

-- A pass, whether it ends well or not. It writes the areas of modules with these handles alone. The labels that are
-- kept then fit, as do those that a stop at any moment leaves.
pub record IsPass {R T : Type 0} (handles : List ℕ) (fits : Labels → Type 0) (m : Ghosts R) (before : Kept) (old : R)
    (after : Kept) (new : R) (result : Result T AreaFailed) : Type 0 where
  pub regions : after.regions ≡ before.regions
  pub dimms : map dimm_of after.modules ≡ map dimm_of before.modules
  pub sizes : map size_in after.modules ≡ map size_in before.modules
  pub labels : fits (labels_in after.modules)
  -- where no area failed the areas stand for what is kept
  pub stands : IsTold m old → All (StandsIn (m.areas old)) before.modules
      → OnOk result (All (StandsIn (m.areas new)) after.modules)
  pub any_moment : IsTold m old → All (StandsIn (m.areas old)) before.modules
      → LeavesOnly m old new (LeftByPass handles (map dimm_of before.modules) (m.said old) (m.areas old) fits)
  pub writes : WritesAmong handles m old new
  pub cause : HasAreaCause handles m old new result
  pub reads : m.reads new ≡ m.reads old
