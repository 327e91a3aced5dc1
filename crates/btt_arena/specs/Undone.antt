-- What a media in memory held before each of the writes that it keeps, and what a stop left.
use Rattle.std.specs.Prelude.{◌≡◌, ◌⊎◌, ◌≤◌, ℕ, zero, suc, List, [], ◌∷◌, length, drop, None, is_some, IsTrue, refl}
use Rattle.std.proofs.Common.{inr, ap}
use Rattle.std.proofs.Math.Nat.{le_of_suc-le-suc, not-suc-le-zero}
use Rattle.byte_ranges.specs.Ranges.{patched}
use Rattle.btt_arena.specs.Kept.{KeptWrite, kept_writes}
use Rattle.btt_arena.specs.Memory.{Memory}
use Rattle.btt_arena.specs.Records.{CrashRecord, IsTorn}

-- a record without a torn write
abbrev pub whole : List ℕ → CrashRecord
whole bytes = record { bytes = bytes; torn = None }

-- the bytes before a write
abbrev pub undone : KeptWrite → List ℕ → List ℕ
undone write now = patched now write.at write.old

-- the bytes before these writes, after the last of which they are so
abbrev pub before : List KeptWrite → List ℕ → List ℕ
before [] now = now
before (write ∷ writes) now = undone write (before writes now)

-- a stop before one of these writes, within it, or after all of them
abbrev pub LeftBy : List KeptWrite → List ℕ → CrashRecord → Type 0
LeftBy [] now c = c ≡ whole now
LeftBy (write ∷ writes) now c =
    ((c ≡ whole (before (write ∷ writes) now)) ⊎ IsTorn (before (write ∷ writes) now) write.at write.new c)
    ⊎ LeftBy writes now c

-- what a stop now leaves, and one since a moment: where writes are kept
abbrev pub LeftNow : Memory → CrashRecord → Type 0
LeftNow media c = IsTrue (is_some media.keeping) × (c ≡ whole media.bytes)

abbrev pub LeftSince : Memory → ℕ → CrashRecord → Type 0
LeftSince media t c = IsTrue (is_some media.keeping) × LeftBy (drop t (kept_writes media.keeping)) media.bytes c

left_last : (writes : List KeptWrite) (now : List ℕ) (c : CrashRecord) → c ≡ whole now → LeftBy writes now c
left_last [] now c is = is
left_last (write ∷ writes) now c is = inr (left_last writes now c is)

pub counts_now_lem : (media : Memory) (t : ℕ) (c : CrashRecord) → t ≤ length (kept_writes media.keeping)
    → LeftNow media c → LeftSince media t c
counts_now_lem media t c le left = (left.0, left_last (drop t (kept_writes media.keeping)) media.bytes c left.1)

left_of_none : (writes : List KeptWrite) (now : List ℕ) (c : CrashRecord) → LeftBy (drop (length writes) writes) now c
    → c ≡ whole now
left_of_none [] now c left = left
left_of_none (write ∷ writes) now c left = left_of_none writes now c left

pub only_now_lem : (media : Memory) (c : CrashRecord) → LeftSince media (length (kept_writes media.keeping)) c
    → LeftNow media c
only_now_lem media c left = (left.0, left_of_none (kept_writes media.keeping) media.bytes c left.1)

pub now_is_lem : (media : Memory) (c : CrashRecord) → LeftNow media c → c.bytes ≡ media.bytes
now_is_lem media c left = ap (λ (r : CrashRecord). r.bytes) left.1

pub has_record_lem : (media : Memory) → IsTrue (is_some media.keeping) → (c : CrashRecord) × LeftNow media c
has_record_lem media told = (whole media.bytes, (told, refl))

left_of_all : (writes : List KeptWrite) (now : List ℕ) (c : CrashRecord) (u : ℕ) → LeftBy (drop u writes) now c
    → LeftBy writes now c
left_of_all writes now c zero left = left
left_of_all [] now c (suc u) left = left
left_of_all (write ∷ writes) now c (suc u) left = inr (left_of_all writes now c u left)

left_later : (writes : List KeptWrite) (now : List ℕ) (c : CrashRecord) (t u : ℕ) → t ≤ u
    → LeftBy (drop u writes) now c → LeftBy (drop t writes) now c
left_later writes now c zero u le left = left_of_all writes now c u left
left_later writes now c (suc t) zero le left = absurd (not-suc-le-zero le)
left_later [] now c (suc t) (suc u) le left = left
left_later (write ∷ writes) now c (suc t) (suc u) le left = left_later writes now c t u (le_of_suc-le-suc le) left

pub earlier_lem : (media : Memory) (t u : ℕ) (c : CrashRecord) → t ≤ u → LeftSince media u c → LeftSince media t c
earlier_lem media t u c le left = (left.0, left_later (kept_writes media.keeping) media.bytes c t u le left.1)
