-- What a stop leaves of all modules and of the output: crash records.
use Rattle.std.specs.Prelude.{◌≡◌, ◌⊎◌, ℕ, List, ◌++◌, length, take, Option, Some, None, Result, IsErr, OnErr, OnOk}
use Rattle.rig_trait.specs.Areas.{Areas, bytes_in, written}
use Rattle.rig_trait.specs.declared.rig.Failed.{Failed}

-- a write that was stopped or failed: where it goes, and the bytes there before it and after it
pub record TornWrite : Type 0 where
  pub dimm : ℕ
  pub at : ℕ
  pub old : List ℕ
  pub new : List ℕ

-- what a stop leaves of all modules and of the output, at one moment
pub record CrashRecord : Type 0 where
  pub areas : Areas
  pub said : List ℕ
  pub torn : Option TornWrite

-- a write into these areas, as a record holds it
abbrev pub torn_write : Areas → ℕ → ℕ → List ℕ → TornWrite
torn_write areas dimm at put = record { dimm = dimm; at = at; old = bytes_in areas dimm at (length put); new = put }

-- a write was stopped or failed: any bytes in its range, and all else as before it
pub record IsTorn (before : Areas) (said_before : List ℕ) (dimm at : ℕ) (put : List ℕ) (c : CrashRecord) : Type 0 where
  pub garbage : List ℕ
  pub same_length : length garbage ≡ length put
  pub areas_are : c.areas ≡ written before dimm at garbage
  pub said_is : c.said ≡ said_before
  pub torn_is : c.torn ≡ Some (torn_write before dimm at put)

-- these areas and these bytes said, and no torn write
pub record IsWhole (now : Areas) (said_now : List ℕ) (c : CrashRecord) : Type 0 where
  pub areas_are : c.areas ≡ now
  pub said_is : c.said ≡ said_now
  pub torn_is : c.torn ≡ None

-- A write changes its range alone: at Ok its bytes stand there, at Err any bytes.
pub record Writes {T : Type 0} (old new : Areas) (dimm at : ℕ) (put : List ℕ) (result : Result T Failed) : Type 0 where
  pub garbage : List ℕ
  pub same_length : length garbage ≡ length put
  pub areas_are : new ≡ written old dimm at garbage
  pub ok : IsErr result ⊎ (garbage ≡ put)

-- Bytes were said: all of them at Ok, and at Err a front of them.
pub record Says {T : Type 0} (old new bytes : List ℕ) (result : Result T Failed) : Type 0 where
  pub all : OnOk result (new ≡ old ++ bytes)
  pub count : ℕ
  pub front : new ≡ old ++ take count bytes

-- What a stop within a write, or right after it, leaves. After one that failed, nothing torn is left only where no byte
-- changed.
abbrev pub LeftByWrite : {T : Type 0} → Areas → Areas → List ℕ → ℕ → ℕ → List ℕ → Result T Failed → CrashRecord → Type 0
LeftByWrite old new said dimm at put result c = IsTorn old said dimm at put c
    ⊎ (IsWhole new said c × OnErr result (new ≡ old))

-- What a stop within a `say`, or right after it, leaves: what one before it left, with a front of the text said behind.
pub record IsSaying (left_before : CrashRecord → Type 0) (said_before text : List ℕ) (c : CrashRecord) : Type 0 where
  pub from : CrashRecord
  pub was : left_before from
  pub count : ℕ
  pub areas_are : c.areas ≡ from.areas
  pub said_is : c.said ≡ said_before ++ take count text
  pub torn_is : c.torn ≡ from.torn
