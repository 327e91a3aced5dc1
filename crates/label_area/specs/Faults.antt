-- What a fault of an area says of the kind of the area, and which faults are the rig's.
use Rattle.std.specs.Prelude.{ℕ, Bool, true, false, Option, Some, None, Result, Ok, Err}
use Rattle.label_codec.specs.declared.kind.AreaKind.{AreaKind}
use Rattle.label_codec.specs.declared.kind.AreaKind.TheVariants.{Missing, WrongSize, Ready, Foreign, Uninit}
use Rattle.label_area.specs.declared.init.InitFault.{InitFault}
use Rattle.label_area.specs.declared.init.InitFault.TheVariants as init
use Rattle.label_area.specs.declared.load.AreaFault.{AreaFault}
use Rattle.label_area.specs.declared.load.AreaFault.TheVariants as load

-- the kind of an area that isn't loaded; nothing tells it where the rig failed, or memory was refused
abbrev pub load_kind : AreaFault → Option AreaKind
load_kind load.Missing = Some Missing
load_kind (load.WrongSize size) = Some WrongSize
load_kind (load.Uninit size) = Some Uninit
load_kind (load.Foreign size) = Some Foreign
load_kind load.Failed = None
load_kind load.Memory = None

-- the size of an area that is there and isn't loaded; nothing tells it where the rig failed, or memory was refused
abbrev pub load_size : AreaFault → Option ℕ
load_size load.Missing = None
load_size (load.WrongSize size) = Some size
load_size (load.Uninit size) = Some size
load_size (load.Foreign size) = Some size
load_size load.Failed = None
load_size load.Memory = None

-- the kind of an area that isn't initialised; nothing tells it where the rig failed
abbrev pub init_kind : InitFault → Option AreaKind
init_kind init.Missing = Some Missing
init_kind init.WrongSize = Some WrongSize
init_kind init.Foreign = Some Foreign
init_kind init.AlreadyReady = Some Ready
init_kind init.Failed = None

-- the rig failed while an area was loaded
abbrev pub is_load_failed : {T : Type 0} → Result T AreaFault → Bool
is_load_failed (Ok value) = false
is_load_failed (Err load.Missing) = false
is_load_failed (Err (load.WrongSize size)) = false
is_load_failed (Err (load.Uninit size)) = false
is_load_failed (Err (load.Foreign size)) = false
is_load_failed (Err load.Failed) = true
is_load_failed (Err load.Memory) = false

-- the rig failed while an area was initialised
abbrev pub is_init_failed : {T : Type 0} → Result T InitFault → Bool
is_init_failed (Ok value) = false
is_init_failed (Err init.Missing) = false
is_init_failed (Err init.WrongSize) = false
is_init_failed (Err init.Foreign) = false
is_init_failed (Err init.AlreadyReady) = false
is_init_failed (Err init.Failed) = true
