-- What a stop leaves at any moment of changes of modules, and what they write.
use Rattle.std.specs.Prelude.{◌≡◌, ◌⊎◌, ℕ, false, true, List, Result, Ok, Err}
use Rattle.std.specs.FinMap.{get}
use Rattle.rig_trait.specs.declared.shown.Shown.{Ghosts}
use Rattle.rig_trait.specs.Frames.{FailsAt, IsTold, SaysNothing}
use Rattle.rig_trait.specs.Records.{CrashRecord}
use Rattle.label_area.specs.Fair.{IsFair}
use Rattle.label_area.specs.Flips.{is_among}
use Rattle.label_codec.specs.ModuleLabels.{Labels}
use Rattle.module_flips.specs.declared.flips.AreaFailed.{AreaFailed}
use Rattle.module_flips.specs.Stored.{stored_labels}

-- The output is as it was, and in a fair record the labels in the areas of these modules fit.
pub record LeftIn (modules said : List ℕ) (fits : Labels → Type 0) (c : CrashRecord) : Type 0 where
  pub said_is : c.said ≡ said
  pub labels : IsFair c → fits (stored_labels modules c.areas)

-- labels before a change, or after it
abbrev pub IsOneOf : Labels → Labels → Labels → Type 0
IsOneOf before after labels = (labels ≡ before) ⊎ (labels ≡ after)

-- Calls that say nothing, and write into the areas of some modules alone.
pub record WritesAmong {R : Type 0} (handles : List ℕ) (m : Ghosts R) (old new : R) : Type 0 where
  pub others : IsTold m old → (dimm : ℕ) → is_among handles dimm ≡ false
      → get (m.areas new) dimm ≡ get (m.areas old) dimm
  pub says : SaysNothing m old new

-- No call of the rig failed, or the last one did, and the fault names its module, one of these.
pub record FailedAmong {R : Type 0} (handles : List ℕ) (m : Ghosts R) (old new : R) (failed : AreaFailed) : Type 0 where
  pub fails : FailsAt failed.dimm m old new true
  pub known : is_among handles failed.dimm ≡ true

abbrev pub HasAreaCause : {R T : Type 0} → List ℕ → Ghosts R → R → R → Result T AreaFailed → Type 0
HasAreaCause handles m old new (Ok value) = FailsAt 0 m old new false
HasAreaCause handles m old new (Err failed) = FailedAmong handles m old new failed
