-- What a stop leaves at any moment of two writes into one area, one after the other.
use Rattle.std.specs.Prelude.{◌≡◌, ◌⊎◌, ℕ, List, Result, IsErr, OnOk}
use Rattle.rig_trait.specs.declared.rig.Failed.{Failed}
use Rattle.rig_trait.specs.declared.shown.Shown.{Ghosts}
use Rattle.rig_trait.specs.Areas.{Areas, written}
use Rattle.rig_trait.specs.Frames.{IsTold, LeavesOnly}
use Rattle.rig_trait.specs.Records.{CrashRecord, IsTorn, IsWhole, Writes}

-- the areas after both
abbrev pub with_both : Areas → ℕ → ℕ → List ℕ → ℕ → List ℕ → Areas
with_both areas dimm first_at first second_at second = written (written areas dimm first_at first) dimm second_at second

pub data LeftByTwo (areas : Areas) (said : List ℕ) (dimm first_at : ℕ) (first : List ℕ) (second_at : ℕ)
    (second : List ℕ) (c : CrashRecord) : Type 0 where
  neither : c.areas ≡ areas → c.said ≡ said → LeftByTwo areas said dimm first_at first second_at second c
  first_torn : IsTorn areas said dimm first_at first c → LeftByTwo areas said dimm first_at first second_at second c
  first_whole : IsWhole (written areas dimm first_at first) said c
      → LeftByTwo areas said dimm first_at first second_at second c
  second_torn : IsTorn (written areas dimm first_at first) said dimm second_at second c
      → LeftByTwo areas said dimm first_at first second_at second c
  both : IsWhole (with_both areas dimm first_at first second_at second) said c
      → LeftByTwo areas said dimm first_at first second_at second c

-- at Ok both stand
abbrev pub WritesBoth : {R T : Type 0} → Ghosts R → R → R → ℕ → ℕ → List ℕ → ℕ → List ℕ → Result T Failed → Type 0
WritesBoth m old new dimm first_at first second_at second result =
    IsTold m old → OnOk result (m.areas new ≡ with_both (m.areas old) dimm first_at first second_at second)

-- The first failed, and the second was not begun; or the first stands, and the second was made behind it.
abbrev pub IsInTurn : {T : Type 0} → Areas → Areas → ℕ → ℕ → List ℕ → ℕ → List ℕ → Result T Failed → Type 0
IsInTurn old new dimm first_at first second_at second result =
    (IsErr result × Writes old new dimm first_at first result)
    ⊎ Writes (written old dimm first_at first) new dimm second_at second result

-- what the areas are at the return, whatever the answer
abbrev pub WritesInTurn : {R T : Type 0} → Ghosts R → R → R → ℕ → ℕ → List ℕ → ℕ → List ℕ → Result T Failed → Type 0
WritesInTurn m old new dimm first_at first second_at second result =
    IsTold m old → IsInTurn (m.areas old) (m.areas new) dimm first_at first second_at second result

-- what a stop leaves at any moment of them
abbrev pub LeavesTwo : {R : Type 0} → Ghosts R → R → R → ℕ → ℕ → List ℕ → ℕ → List ℕ → Type 0
LeavesTwo m old new dimm first_at first second_at second =
    IsTold m old → LeavesOnly m old new (LeftByTwo (m.areas old) (m.said old) dimm first_at first second_at second)
