-- What calls of a rig change, what they keep, and what a stop leaves of them.
use Rattle.std.specs.Prelude.{◌≡◌, ◌⊎◌, ℕ, ◌≤◌, Bool, List, None, Result, IsTrue, OnOk, if◌then◌else◌}
use Rattle.rig_trait.specs.declared.rig.Failed.{Failed}
use Rattle.rig_trait.specs.declared.shown.Shown.{Ghosts}
use Rattle.rig_trait.specs.Areas.{OthersKept, SizesKept, bytes_in}
use Rattle.rig_trait.specs.Faults.{counted}
use Rattle.rig_trait.specs.Records.{CrashRecord, IsSaying, LeftByWrite, Writes}

-- The rig tells its areas and the bytes said: the premise of whatever is promised of content.
abbrev pub IsTold : {R : Type 0} → Ghosts R → R → Type 0
IsTold m rig = IsTrue (m.tells rig)

-- The clock goes on. `during` is what a stop within the call, or right after it, leaves.
pub record Elapses {R : Type 0} (m : Ghosts R) (old new : R) (during : CrashRecord → Type 0) : Type 0 where
  pub later : m.moment old ≤ m.moment new
  pub nothing_else : (t : ℕ) (c : CrashRecord) → t ≤ m.moment old → m.left_since new t c
      → m.left_since old t c ⊎ during c
  pub keeps : (t : ℕ) (c : CrashRecord) → t ≤ m.moment old → m.left_since old t c → m.left_since new t c
  pub left_is : (c : CrashRecord) → m.may_leave new c → during c
  -- what a stop since an earlier moment might have left was left before the call, or by a stop since it began
  pub joins : (t : ℕ) (c : CrashRecord) → t ≤ m.moment old → m.left_since new t c
      → m.left_since old t c ⊎ m.left_since new (m.moment old) c

-- A stop at any moment from `old` on leaves a record that has P.
pub record LeavesOnly {R : Type 0} (m : Ghosts R) (old new : R) (P : CrashRecord → Type 0) : Type 0 where
  pub later : m.moment old ≤ m.moment new
  pub each : (c : CrashRecord) → m.left_since new (m.moment old) c → P c
  -- what a stop since an earlier moment might have left was left before `old`, or has P
  pub before : (t : ℕ) (c : CrashRecord) → t ≤ m.moment old → m.left_since new t c → m.left_since old t c ⊎ P c

-- What every call keeps: what is told, and the size of each area. No count falls.
pub record GoesOn {R : Type 0} (m : Ghosts R) (old new : R) : Type 0 where
  pub tells : m.tells new ≡ m.tells old
  pub tells_records : IsTrue (m.tells_records old) → IsTrue (m.tells_records new)
  pub sizes : IsTold m old → SizesKept (m.areas old) (m.areas new)
  pub faults : m.faults old ≤ m.faults new
  pub say_faults : m.say_faults old ≤ m.say_faults new
  pub reads : m.reads old ≤ m.reads new

-- Calls that write nothing and say nothing. A stop leaves nothing that one before them could not have left.
pub record Reads {R : Type 0} (m : Ghosts R) (old new : R) : Type 0 where
  pub areas : m.areas new ≡ m.areas old
  pub said : m.said new ≡ m.said old
  pub say_faults : m.say_faults new ≡ m.say_faults old
  pub time : Elapses m old new (m.may_leave old)
  pub goes_on : GoesOn m old new

-- Calls that say nothing.
pub record SaysNothing {R : Type 0} (m : Ghosts R) (old new : R) : Type 0 where
  pub said : m.said new ≡ m.said old
  pub say_faults : m.say_faults new ≡ m.say_faults old
  pub goes_on : GoesOn m old new

-- Calls that say nothing, and write into the area of one module alone.
pub record WritesTo {R : Type 0} (dimm : ℕ) (m : Ghosts R) (old new : R) : Type 0 where
  pub others : IsTold m old → OthersKept dimm (m.areas old) (m.areas new)
  pub said : m.said new ≡ m.said old
  pub say_faults : m.say_faults new ≡ m.say_faults old
  pub goes_on : GoesOn m old new

-- A call that says something, and asks no area for anything.
pub record SaysOnly {R : Type 0} (m : Ghosts R) (old new : R) (failed : Bool) : Type 0 where
  pub areas : m.areas new ≡ m.areas old
  pub say_faults : m.say_faults new ≡ counted failed (m.say_faults old)
  pub faults : m.faults new ≡ m.faults old
  pub failed_dimm : m.failed_dimm new ≡ m.failed_dimm old
  pub reads : m.reads new ≡ m.reads old
  pub goes_on : GoesOn m old new

-- The faults of calls for one module: none, or one that ended them. Then the rig names the module.
pub record FailsAt {R : Type 0} (dimm : ℕ) (m : Ghosts R) (old new : R) (failed : Bool) : Type 0 where
  pub faults : m.faults new ≡ counted failed (m.faults old)
  pub failed_dimm : m.failed_dimm new ≡ (if failed then dimm else m.failed_dimm old)

-- A read gives the bytes as they stand.
abbrev pub GivesBytes : {R T : Type 0} → Ghosts R → R → ℕ → ℕ → ℕ → List ℕ → Result T Failed → Type 0
GivesBytes m rig dimm at n bytes result = IsTold m rig → OnOk result (bytes ≡ bytes_in (m.areas rig) dimm at n)

-- A write changes its range alone.
abbrev pub WritesBytes : {R T : Type 0} → Ghosts R → R → R → ℕ → ℕ → List ℕ → Result T Failed → Type 0
WritesBytes m old new dimm at bytes result = IsTold m old → Writes (m.areas old) (m.areas new) dimm at bytes result

-- What a stop within a write, or right after it, leaves; no write is torn once it answered Ok.
pub record WriteLeaves {R T : Type 0} (m : Ghosts R) (old new : R) (dimm at : ℕ) (bytes : List ℕ)
    (result : Result T Failed) : Type 0 where
  pub time : Elapses m old new (LeftByWrite (m.areas old) (m.areas new) (m.said old) dimm at bytes result)
  pub whole : OnOk result ((c : CrashRecord) → m.may_leave new c → c.torn ≡ None)

-- What a stop within a `say`, or right after it, leaves.
abbrev pub SayLeaves : {R : Type 0} → Ghosts R → R → R → List ℕ → Type 0
SayLeaves m old new bytes = Elapses m old new (IsSaying (m.may_leave old) (m.said old) bytes)
