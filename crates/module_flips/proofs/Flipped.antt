-- A flip of the area of a module is one of the module.
use Rattle.std.proofs.Common.{◌≡◌, ℕ, List, sym, subst}
use Rattle.rig_trait.specs.declared.shown.Shown.{Ghosts}
use Rattle.rig_trait.specs.Frames.{LeavesOnly}
use Rattle.label_area.specs.Flips.{LeftByFlip, after_free}
use Rattle.label_area.specs.LoadedAreas.{LoadedArea}
use Rattle.region_labels.specs.declared.modules.ModuleArea.{ModuleArea}
use Rattle.region_labels.specs.declared.modules.ModuleArea.TheVariants.{Ready}
use Rattle.module_flips.specs.Flips.{standing_in, with_free}

-- what a stop leaves
pub free-left : {R : Type 0} (m : Ghosts R) (old new : R) (dimm : ℕ) (stored : ModuleArea) (area : LoadedArea) (slots : List ℕ) → stored ≡ Ready area → area.dimm ≡ dimm
    → LeavesOnly m old new (LeftByFlip (m.areas old) (m.said old) area.dimm (after_free area slots))
    → LeavesOnly m old new (LeftByFlip (m.areas old) (m.said old) dimm (with_free slots (standing_in (record { dimm = dimm; area = stored }))))
free-left m old new dimm stored area slots is own left =
    subst (λ (a : ModuleArea). LeavesOnly m old new (LeftByFlip (m.areas old) (m.said old) dimm (with_free slots (standing_in (record { dimm = dimm; area = a }))))) (sym is)
    (subst (λ d. LeavesOnly m old new (LeftByFlip (m.areas old) (m.said old) d (after_free area slots))) own left)
