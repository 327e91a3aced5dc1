-- What a stop leaves of a media: crash records.
use Rattle.std.specs.Prelude.{◌≡◌, ◌⊎◌, ℕ, ◌*◌, List, length, Option, Some, None, Result, IsErr, OnErr}
use Rattle.byte_ranges.specs.Ranges.{range, patched}
use Rattle.rig_trait.specs.declared.rig.Failed.{Failed}

-- a write that was stopped or failed: where it goes, and the bytes there before it and after it
pub record TornWrite : Type 0 where
  pub at : ℕ
  pub old : List ℕ
  pub new : List ℕ

-- what a stop leaves at one moment
pub record CrashRecord : Type 0 where
  pub bytes : List ℕ
  pub torn : Option TornWrite

-- as many bytes as the new ones, of which each word of four bytes is the old one or the new one
pub record IsByWords (old new mixed : List ℕ) : Type 0 where
  pub same_length : length mixed ≡ length new
  pub each : (word : ℕ) → (range mixed (4 * word) 4 ≡ range old (4 * word) 4)
      ⊎ (range mixed (4 * word) 4 ≡ range new (4 * word) 4)

-- a write over these bytes, as a record holds it
abbrev pub torn_write : List ℕ → ℕ → List ℕ → TornWrite
torn_write bytes at put = record { at = at; old = range bytes at (length put); new = put }

-- a write was stopped or failed: each word of its range is old or new, and all else is as before it
pub record IsTorn (before : List ℕ) (at : ℕ) (put : List ℕ) (c : CrashRecord) : Type 0 where
  pub mixed : List ℕ
  pub by_words : IsByWords (range before at (length put)) put mixed
  pub bytes_are : c.bytes ≡ patched before at mixed
  pub torn_is : c.torn ≡ Some (torn_write before at put)

-- these bytes, and no torn write
pub record IsWhole (now : List ℕ) (c : CrashRecord) : Type 0 where
  pub bytes_are : c.bytes ≡ now
  pub torn_is : c.torn ≡ None

-- A write changes its range alone: at Ok its bytes stand there, at Err each word is old or new.
pub record Writes {T : Type 0} (old new : List ℕ) (at : ℕ) (put : List ℕ) (result : Result T Failed) : Type 0 where
  pub mixed : List ℕ
  pub by_words : IsByWords (range old at (length put)) put mixed
  pub bytes_are : new ≡ patched old at mixed
  pub ok : IsErr result ⊎ (mixed ≡ put)

-- What a stop within a write, or right after it, leaves. After one that failed, nothing torn is left only where no byte
-- changed.
abbrev pub LeftByWrite : {T : Type 0} → List ℕ → List ℕ → ℕ → List ℕ → Result T Failed → CrashRecord → Type 0
LeftByWrite old new at put result c = IsTorn old at put c ⊎ (IsWhole new c × OnErr result (new ≡ old))
