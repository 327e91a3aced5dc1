-- What calls of a media change, what they keep, and what a stop leaves of them.
use Rattle.std.specs.Prelude.{◌≡◌, ◌⊎◌, ℕ, ◌≤◌, Bool, List, length, None, Result, IsTrue, OnOk}
use Rattle.byte_ranges.specs.Ranges.{range}
use Rattle.rig_trait.specs.declared.rig.Failed.{Failed}
use Rattle.rig_trait.specs.Faults.{counted}
use Rattle.btt_arena.specs.declared.state.MediaState.{Ghosts}
use Rattle.btt_arena.specs.Records.{CrashRecord, LeftByWrite, Writes}

-- The media tells its bytes: the premise of whatever is promised of content.
abbrev pub IsTold : {M : Type 0} → Ghosts M → M → Type 0
IsTold m media = IsTrue (m.tells media)

-- The clock goes on. `during` is what a stop within the call, or right after it, leaves.
pub record Elapses {M : Type 0} (m : Ghosts M) (old new : M) (during : CrashRecord → Type 0) : Type 0 where
  pub later : m.moment old ≤ m.moment new
  pub nothing_else : (t : ℕ) (c : CrashRecord) → t ≤ m.moment old → m.left_since new t c
      → m.left_since old t c ⊎ during c
  pub keeps : (t : ℕ) (c : CrashRecord) → t ≤ m.moment old → m.left_since old t c → m.left_since new t c
  pub left_is : (c : CrashRecord) → m.may_leave new c → during c
  -- what a stop since an earlier moment might have left was left before the call, or by a stop since it began
  pub joins : (t : ℕ) (c : CrashRecord) → t ≤ m.moment old → m.left_since new t c
      → m.left_since old t c ⊎ m.left_since new (m.moment old) c

-- A stop at any moment from `old` on leaves a record that has P.
pub record LeavesOnly {M : Type 0} (m : Ghosts M) (old new : M) (P : CrashRecord → Type 0) : Type 0 where
  pub later : m.moment old ≤ m.moment new
  pub each : (c : CrashRecord) → m.left_since new (m.moment old) c → P c
  -- what a stop since an earlier moment might have left was left before `old`, or has P
  pub before : (t : ℕ) (c : CrashRecord) → t ≤ m.moment old → m.left_since new t c → m.left_since old t c ⊎ P c

-- What every call keeps: what is told, and the size. The count does not fall.
pub record GoesOn {M : Type 0} (m : Ghosts M) (old new : M) : Type 0 where
  pub tells : m.tells new ≡ m.tells old
  pub tells_records : IsTrue (m.tells_records old) → IsTrue (m.tells_records new)
  pub size : IsTold m old → length (m.bytes new) ≡ length (m.bytes old)
  pub faults : m.faults old ≤ m.faults new

-- Calls that write nothing. A stop leaves nothing that one before them could not have left.
pub record Reads {M : Type 0} (m : Ghosts M) (old new : M) : Type 0 where
  pub bytes : m.bytes new ≡ m.bytes old
  pub time : Elapses m old new (m.may_leave old)
  pub goes_on : GoesOn m old new

-- The faults of calls: none, or one that ended them.
abbrev pub Fails : {M : Type 0} → Ghosts M → M → M → Bool → Type 0
Fails m old new failed = m.faults new ≡ counted failed (m.faults old)

-- A read gives the bytes as they stand.
abbrev pub GivesBytes : {M T : Type 0} → Ghosts M → M → ℕ → ℕ → List ℕ → Result T Failed → Type 0
GivesBytes m media at n bytes result = IsTold m media → OnOk result (bytes ≡ range (m.bytes media) at n)

-- A write changes its range alone.
abbrev pub WritesBytes : {M T : Type 0} → Ghosts M → M → M → ℕ → List ℕ → Result T Failed → Type 0
WritesBytes m old new at bytes result = IsTold m old → Writes (m.bytes old) (m.bytes new) at bytes result

-- What a stop within a write, or right after it, leaves; no write is torn once it answered Ok.
pub record WriteLeaves {M T : Type 0} (m : Ghosts M) (old new : M) (at : ℕ) (bytes : List ℕ)
    (result : Result T Failed) : Type 0 where
  pub time : Elapses m old new (LeftByWrite (m.bytes old) (m.bytes new) at bytes result)
  pub whole : OnOk result ((c : CrashRecord) → m.may_leave new c → c.torn ≡ None)
