-- The calls that a rig in memory keeps, from a moment on.
use Rattle.std.specs.Prelude.{◌≡◌, ℕ, ◌+◌, ◌*◌, Bool, true, ◌&&◌, List, [], ◌∷◌, ◌++◌, ◌⊎◌, length, Option, Some, None}
use Rattle.std.specs.Prelude.{nat_eq, nat_lt, nat_le, if◌then◌else◌, refl}
use Rattle.std.specs.Coded.{Coded, coded_ℕ, coded_list, coded×, coded⊎, code_by}
use Rattle.std.proofs.Common.{inl, inr}
use Rattle.rig_trait.specs.Areas.{Areas, IsWithin, bytes_in}

-- a write, by the bytes before it and those to be written; and a `say`, by how many bytes were said before it. Each has
-- its number, from 0 since the rig was made.
pub data KeptCall : Type 0 where
  kept_write : (call dimm at : ℕ) (old new : List ℕ) → KeptCall
  kept_say : (call said : ℕ) (text : List ℕ) → KeptCall

-- the calls kept, how many calls and bytes can be kept, and how many bytes are
pub record Keeping : Type 0 where
  pub kept : List KeptCall
  pub calls : ℕ
  pub bytes : ℕ
  pub taken : ℕ

-- before the first call
abbrev pub nothing_kept : ℕ → ℕ → Keeping
nothing_kept calls bytes = record { kept = []; calls = calls; bytes = bytes; taken = 0 }

abbrev pub number_of : KeptCall → ℕ
number_of (kept_write call dimm at old new) = call
number_of (kept_say call said text) = call

-- a write counts twice its length, a `say` its length
abbrev pub bytes_kept : KeptCall → ℕ
bytes_kept (kept_write call dimm at old new) = 2 * length new
bytes_kept (kept_say call said text) = length text

-- one call more, of so many bytes, can be kept, or none are
abbrev pub has_space : ℕ → Option Keeping → Bool
has_space n None = true
has_space n (Some k) = nat_lt (length k.kept) k.calls && nat_le (k.taken + n) k.bytes

-- with one call more, where calls are kept and it can be
abbrev pub with_call : KeptCall → Option Keeping → Option Keeping
with_call call None = None
with_call call (Some k) =
    if has_space (bytes_kept call) (Some k)
    then Some (record k { kept = k.kept ++ call ∷ []; taken = k.taken + bytes_kept call })
    else Some k

-- the calls kept, none where none are to be
abbrev pub kept_calls : Option Keeping → List KeptCall
kept_calls None = []
kept_calls (Some k) = k.kept

-- a write into these areas, as it is kept
abbrev pub write_into : Areas → ℕ → ℕ → ℕ → List ℕ → KeptCall
write_into areas call dimm at put = kept_write call dimm at (bytes_in areas dimm at (length put)) put

-- a kept write lies inside an area
abbrev pub LiesIn : Areas → KeptCall → Type 0
LiesIn areas (kept_write call dimm at old new) = IsWithin areas dimm at (length new) × (length old ≡ length new)
LiesIn areas (kept_say call said text) = Unit {0}

abbrev pub AllLieIn : Areas → List KeptCall → Type 0
AllLieIn areas [] = Unit {0}
AllLieIn areas (call ∷ calls) = LiesIn areas call × AllLieIn areas calls

-- the kept calls from the first with a number on
abbrev pub kept_from : ℕ → List KeptCall → List KeptCall
kept_from call [] = []
kept_from call (kept ∷ later) = if nat_eq (number_of kept) call then kept ∷ later else kept_from call later

-- a kept call as the tuple of its parts, by which proofs tell two apart
abbrev pub WriteParts : Type 0
WriteParts = ℕ × (ℕ × (ℕ × (List ℕ × List ℕ)))

abbrev pub SayParts : Type 0
SayParts = ℕ × (ℕ × List ℕ)

abbrev pub parts_of : KeptCall → WriteParts ⊎ SayParts
parts_of (kept_write call dimm at old new) = inl (call, (dimm, (at, (old, new))))
parts_of (kept_say call said text) = inr (call, (said, text))

abbrev pub call_of : WriteParts ⊎ SayParts → KeptCall
call_of (inl p) = kept_write p.0 p.1.0 p.1.1.0 p.1.1.1.0 p.1.1.1.1
call_of (inr p) = kept_say p.0 p.1.0 p.1.1

pub call_of-parts_of : (call : KeptCall) → call_of (parts_of call) ≡ call
call_of-parts_of (kept_write call dimm at old new) = refl
call_of-parts_of (kept_say call said text) = refl

abbrev pub kept_code : Coded KeptCall
kept_code = code_by (WriteParts ⊎ SayParts)
    (coded⊎ (coded× coded_ℕ (coded× coded_ℕ (coded× coded_ℕ (coded× (coded_list coded_ℕ) (coded_list coded_ℕ)))))
    (coded× coded_ℕ (coded× coded_ℕ (coded_list coded_ℕ))))
    parts_of call_of call_of-parts_of

abbrev pub keeping_code : Coded Keeping
keeping_code = code_by (List KeptCall × (ℕ × (ℕ × ℕ)))
    (coded× (coded_list kept_code) (coded× coded_ℕ (coded× coded_ℕ coded_ℕ)))
    (λ k. (k.kept, (k.calls, (k.bytes, k.taken))))
    (λ p. record { kept = p.0; calls = p.1.0; bytes = p.1.1.0; taken = p.1.1.1 }) (λ _. refl)
