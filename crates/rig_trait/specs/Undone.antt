-- What a rig in memory stood as before each of the calls that it keeps, and what a stop left.
use Rattle.std.specs.Prelude.{◌≡◌, ◌⊎◌, ◌≤◌, ℕ, zero, suc, List, [], ◌∷◌, ◌++◌, length, take, drop, None, is_some}
use Rattle.std.specs.Prelude.{IsTrue, refl}
use Rattle.std.proofs.Common.{inr, ap}
use Rattle.std.proofs.Math.Nat.{le_of_suc-le-suc, not-suc-le-zero}
use Rattle.rig_trait.specs.Areas.{Areas, written}
use Rattle.rig_trait.specs.Kept.{KeptCall, kept_write, kept_say, kept_calls}
use Rattle.rig_trait.specs.Memory.{Memory}
use Rattle.rig_trait.specs.Records.{CrashRecord, IsTorn}

-- a record without a torn write
abbrev pub whole : Areas → List ℕ → CrashRecord
whole areas said = record { areas = areas; said = said; torn = None }

abbrev pub standing : Memory → CrashRecord
standing rig = whole rig.areas rig.said

-- as it stood before a call
abbrev pub undone : KeptCall → CrashRecord → CrashRecord
undone (kept_write call dimm at old new) now = whole (written now.areas dimm at old) now.said
undone (kept_say call said text) now = whole now.areas (take said now.said)

-- as it stood before these calls, after the last of which it stands so
abbrev pub before : List KeptCall → CrashRecord → CrashRecord
before [] now = now
before (call ∷ calls) now = undone call (before calls now)

-- a stop within a call: any bytes in the range of a write, or a front of the text said
abbrev pub LeftWithin : KeptCall → CrashRecord → CrashRecord → Type 0
LeftWithin (kept_write call dimm at old new) was c = IsTorn was.areas was.said dimm at new c
LeftWithin (kept_say call said text) was c = (count : ℕ) × (c ≡ whole was.areas (was.said ++ take count text))

-- a stop before one of these calls, within it, or after all of them
abbrev pub LeftBy : List KeptCall → CrashRecord → CrashRecord → Type 0
LeftBy [] now c = c ≡ now
LeftBy (call ∷ calls) now c = ((c ≡ before (call ∷ calls) now) ⊎ LeftWithin call (before (call ∷ calls) now) c)
    ⊎ LeftBy calls now c

-- what a stop now leaves, and one since a moment: where calls are kept
abbrev pub LeftNow : Memory → CrashRecord → Type 0
LeftNow rig c = IsTrue (is_some rig.keeping) × (c ≡ standing rig)

abbrev pub LeftSince : Memory → ℕ → CrashRecord → Type 0
LeftSince rig t c = IsTrue (is_some rig.keeping) × LeftBy (drop t (kept_calls rig.keeping)) (standing rig) c

left_last : (calls : List KeptCall) (now c : CrashRecord) → c ≡ now → LeftBy calls now c
left_last [] now c is = is
left_last (call ∷ calls) now c is = inr (left_last calls now c is)

pub counts_now_lem : (rig : Memory) (t : ℕ) (c : CrashRecord) → t ≤ length (kept_calls rig.keeping) → LeftNow rig c
    → LeftSince rig t c
counts_now_lem rig t c le left = (left.0, left_last (drop t (kept_calls rig.keeping)) (standing rig) c left.1)

left_of_none : (calls : List KeptCall) (now c : CrashRecord) → LeftBy (drop (length calls) calls) now c → c ≡ now
left_of_none [] now c left = left
left_of_none (call ∷ calls) now c left = left_of_none calls now c left

pub only_now_lem : (rig : Memory) (c : CrashRecord) → LeftSince rig (length (kept_calls rig.keeping)) c → LeftNow rig c
only_now_lem rig c left = (left.0, left_of_none (kept_calls rig.keeping) (standing rig) c left.1)

pub now_is_lem : (rig : Memory) (c : CrashRecord) → LeftNow rig c → (c.areas ≡ rig.areas) × (c.said ≡ rig.said)
now_is_lem rig c left = (ap (λ (r : CrashRecord). r.areas) left.1, ap (λ (r : CrashRecord). r.said) left.1)

pub has_record_lem : (rig : Memory) → IsTrue (is_some rig.keeping) → (c : CrashRecord) × LeftNow rig c
has_record_lem rig told = (standing rig, (told, refl))

left_of_all : (calls : List KeptCall) (now c : CrashRecord) (u : ℕ) → LeftBy (drop u calls) now c → LeftBy calls now c
left_of_all calls now c zero left = left
left_of_all [] now c (suc u) left = left
left_of_all (call ∷ calls) now c (suc u) left = inr (left_of_all calls now c u left)

left_later : (calls : List KeptCall) (now c : CrashRecord) (t u : ℕ) → t ≤ u → LeftBy (drop u calls) now c
    → LeftBy (drop t calls) now c
left_later calls now c zero u le left = left_of_all calls now c u left
left_later calls now c (suc t) zero le left = absurd (not-suc-le-zero le)
left_later [] now c (suc t) (suc u) le left = left
left_later (call ∷ calls) now c (suc t) (suc u) le left = left_later calls now c t u (le_of_suc-le-suc le) left

pub earlier_lem : (rig : Memory) (t u : ℕ) (c : CrashRecord) → t ≤ u → LeftSince rig u c → LeftSince rig t c
earlier_lem rig t u c le left = (left.0, left_later (kept_calls rig.keeping) (standing rig) c t u le left.1)
