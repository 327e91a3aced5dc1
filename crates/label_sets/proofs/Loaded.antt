-- What is kept of an area that was loaded is what the area that is stored stands for.
use Rattle.std.proofs.Common.{◌≡◌, ℕ, false, Result, Ok, Err, refl, sym, subst}
use Rattle.std.specs.Prelude.{IsSome, IfOk}
use Rattle.rig_trait.specs.declared.shown.Shown.{Ghosts}
use Rattle.rig_trait.specs.Areas.{Areas}
use Rattle.rig_trait.specs.Frames.{FailsAt}
use Rattle.label_area.specs.declared.load.AreaFault.{AreaFault}
use Rattle.label_area.specs.declared.load.AreaFault.TheVariants as fault
use Rattle.label_area.specs.Faults.{is_load_failed}
use Rattle.label_area.specs.LoadedAreas.{IsSound, LoadedArea}
use Rattle.label_area.specs.Loads.{Loads}
use Rattle.module_flips.specs.Flips.{HasLabelsInUse, IsAreaOf}
use Rattle.label_sets.specs.Loads.{HasCause, area_by}
use Rattle.module_flips.specs.Stored.{StoredAs}

-- what was loaded stands in the areas
pub loads-stored : (dimm : ℕ) (areas : Areas) (result : Result LoadedArea AreaFault) → Loads dimm areas result → IfOk result (λ area. area.dimm ≡ dimm) → IfOk (area_by dimm result) (StoredAs areas dimm)
loads-stored dimm areas (Ok area) shown same = (same, shown)
loads-stored dimm areas (Err fault.Missing) is same = is.kind_is
loads-stored dimm areas (Err (fault.WrongSize size)) is same = (is.kind_is, is.size_is)
loads-stored dimm areas (Err (fault.Uninit size)) is same = (is.kind_is, is.size_is)
loads-stored dimm areas (Err (fault.Foreign size)) is same = (is.kind_is, is.size_is)
loads-stored dimm areas (Err fault.Failed) is same = tt
loads-stored dimm areas (Err fault.Memory) is same = tt

-- and where it wasn't, the rig failed there, or memory was refused
module _ {R : Type 0} (m : Ghosts R) (old new : R) (dimm : ℕ) where
  unnamed : FailsAt dimm m old new false → FailsAt 0 m old new false
  unnamed f = record { faults = f.faults; failed_dimm = f.failed_dimm }

  pub loads-cause : (result : Result LoadedArea AreaFault) → FailsAt dimm m old new (is_load_failed result) → HasCause m old new (area_by dimm result)
  loads-cause (Ok area) f = unnamed f
  loads-cause (Err fault.Missing) f = unnamed f
  loads-cause (Err (fault.WrongSize size)) f = unnamed f
  loads-cause (Err (fault.Uninit size)) f = unnamed f
  loads-cause (Err (fault.Foreign size)) f = unnamed f
  loads-cause (Err fault.Failed) f = f
  loads-cause (Err fault.Memory) f = unnamed f

-- its area is its own, and a slot with a label is in use
pub loads-own : (dimm : ℕ) (result : Result LoadedArea AreaFault) → IfOk result (λ area. area.dimm ≡ dimm) → IfOk (area_by dimm result) (IsAreaOf dimm)
loads-own dimm (Ok area) same = same
loads-own dimm (Err fault.Missing) same = tt
loads-own dimm (Err (fault.WrongSize size)) same = tt
loads-own dimm (Err (fault.Uninit size)) same = tt
loads-own dimm (Err (fault.Foreign size)) same = tt
loads-own dimm (Err fault.Failed) same = tt
loads-own dimm (Err fault.Memory) same = tt

pub loads-in_use : (dimm : ℕ) (result : Result LoadedArea AreaFault) → IfOk result IsSound → IfOk (area_by dimm result) (λ area. HasLabelsInUse (record { dimm = dimm; area = area }))
loads-in_use dimm (Ok area) sound = λ slot label is. sound.live_in_use slot (subst (λ o. IsSome o) (sym is) refl)
loads-in_use dimm (Err fault.Missing) sound = λ slot label is. absurd cc
loads-in_use dimm (Err (fault.WrongSize size)) sound = λ slot label is. absurd cc
loads-in_use dimm (Err (fault.Uninit size)) sound = λ slot label is. absurd cc
loads-in_use dimm (Err (fault.Foreign size)) sound = λ slot label is. absurd cc
loads-in_use dimm (Err fault.Failed) sound = tt
loads-in_use dimm (Err fault.Memory) sound = tt
