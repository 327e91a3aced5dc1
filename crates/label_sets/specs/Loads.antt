-- What is loaded of the areas of all modules.
use Rattle.std.specs.Prelude.{◌≡◌, ℕ, ◌==◌, true, false, List, Result, Ok, Err}
use Rattle.std.specs.List.{list_any}
use Rattle.rig_trait.specs.declared.shown.Shown.{Ghosts}
use Rattle.rig_trait.specs.Frames.{FailsAt}
use Rattle.label_area.specs.LoadedAreas.{LoadedArea}
use Rattle.label_area.specs.declared.load.AreaFault.{AreaFault}
use Rattle.label_area.specs.declared.load.AreaFault.TheVariants as fault
use Rattle.region_labels.specs.declared.modules.ModuleArea.{ModuleArea}
use Rattle.region_labels.specs.declared.modules.ModuleArea.TheVariants.{Missing, WrongSize, Uninit, Foreign, Ready}
use Rattle.label_sets.specs.declared.load.SetFault.{SetFault}
use Rattle.label_sets.specs.declared.load.SetFault.TheVariants.{Failed, Memory}

-- what is kept of an area that was loaded
abbrev pub area_by : ℕ → Result LoadedArea AreaFault → Result ModuleArea SetFault
area_by dimm (Ok area) = Ok (Ready area)
area_by dimm (Err fault.Missing) = Ok Missing
area_by dimm (Err (fault.WrongSize size)) = Ok (WrongSize size)
area_by dimm (Err (fault.Uninit size)) = Ok (Uninit size)
area_by dimm (Err (fault.Foreign size)) = Ok (Foreign size)
area_by dimm (Err fault.Failed) = Err (Failed dimm)
area_by dimm (Err fault.Memory) = Err Memory

-- No call of the rig failed, or the last one did, and the fault names its module.
abbrev pub HasCause : {R T : Type 0} → Ghosts R → R → R → Result T SetFault → Type 0
HasCause m old new (Ok value) = FailsAt 0 m old new false
HasCause m old new (Err (Failed dimm)) = FailsAt dimm m old new true
HasCause m old new (Err Memory) = FailsAt 0 m old new false

-- a module whose area failed to be read is the one with this device handle
abbrev pub IsAt : ℕ → SetFault → Type 0
IsAt handle (Failed dimm) = dimm ≡ handle
IsAt handle Memory = Unit {0}

-- or one of these
abbrev pub IsAmong : List ℕ → SetFault → Type 0
IsAmong handles (Failed dimm) = list_any (λ handle. handle == dimm) handles ≡ true
IsAmong handles Memory = Unit {0}
