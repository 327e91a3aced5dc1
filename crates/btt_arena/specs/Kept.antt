-- The writes that a media in memory keeps, from a moment on.
use Rattle.std.specs.Prelude.{◌≡◌, ℕ, ◌+◌, ◌*◌, ◌%◌, ◌≤◌, Bool, true, ◌&&◌, List, [], ◌∷◌, ◌++◌, length, Option, Some}
use Rattle.std.specs.Prelude.{None, nat_eq, nat_lt, nat_le, if◌then◌else◌, refl}
use Rattle.std.specs.Coded.{Coded, coded_ℕ, coded_list, coded×, code_by}
use Rattle.byte_ranges.specs.Ranges.{range}

-- a write, by the bytes before it and those to be written; its number is from 0 since the media was made
pub record KeptWrite : Type 0 where
  pub call : ℕ
  pub at : ℕ
  pub old : List ℕ
  pub new : List ℕ

-- the writes kept, how many writes and bytes can be kept, and how many bytes are
pub record Keeping : Type 0 where
  pub kept : List KeptWrite
  pub calls : ℕ
  pub bytes : ℕ
  pub taken : ℕ

-- before the first write
abbrev pub nothing_kept : ℕ → ℕ → Keeping
nothing_kept calls bytes = record { kept = []; calls = calls; bytes = bytes; taken = 0 }

-- a write counts twice its length
abbrev pub bytes_kept : KeptWrite → ℕ
bytes_kept write = 2 * length write.new

-- one write more, of so many bytes, can be kept, or none are
abbrev pub has_space : ℕ → Option Keeping → Bool
has_space n None = true
has_space n (Some k) = nat_lt (length k.kept) k.calls && nat_le (k.taken + n) k.bytes

-- with one write more, where writes are kept and it can be
abbrev pub with_write : KeptWrite → Option Keeping → Option Keeping
with_write write None = None
with_write write (Some k) =
    if has_space (bytes_kept write) (Some k)
    then Some (record k { kept = k.kept ++ write ∷ []; taken = k.taken + bytes_kept write })
    else Some k

-- the writes kept, none where none are to be
abbrev pub kept_writes : Option Keeping → List KeptWrite
kept_writes None = []
kept_writes (Some k) = k.kept

-- a write over these bytes, as it is kept
abbrev pub write_over : List ℕ → ℕ → ℕ → List ℕ → KeptWrite
write_over bytes call at put = record { call = call; at = at; old = range bytes at (length put); new = put }

-- a kept write lies inside n bytes, and is of whole words
pub record LiesIn (n : ℕ) (write : KeptWrite) : Type 0 where
  pub fits : write.at + length write.new ≤ n
  pub same_length : length write.old ≡ length write.new
  pub words : length write.new % 4 ≡ 0

abbrev pub AllLieIn : ℕ → List KeptWrite → Type 0
AllLieIn n [] = Unit {0}
AllLieIn n (write ∷ writes) = LiesIn n write × AllLieIn n writes

-- the kept writes from the first with a number on
abbrev pub kept_from : ℕ → List KeptWrite → List KeptWrite
kept_from call [] = []
kept_from call (write ∷ later) = if nat_eq write.call call then write ∷ later else kept_from call later

-- kept writes as the tuple of their parts, by which proofs tell two apart
abbrev pub kept_code : Coded KeptWrite
kept_code = code_by (ℕ × (ℕ × (List ℕ × List ℕ)))
    (coded× coded_ℕ (coded× coded_ℕ (coded× (coded_list coded_ℕ) (coded_list coded_ℕ))))
    (λ w. (w.call, (w.at, (w.old, w.new))))
    (λ p. record { call = p.0; at = p.1.0; old = p.1.1.0; new = p.1.1.1 }) (λ _. refl)

abbrev pub keeping_code : Coded Keeping
keeping_code = code_by (List KeptWrite × (ℕ × (ℕ × ℕ)))
    (coded× (coded_list kept_code) (coded× coded_ℕ (coded× coded_ℕ coded_ℕ)))
    (λ k. (k.kept, (k.calls, (k.bytes, k.taken))))
    (λ p. record { kept = p.0; calls = p.1.0; bytes = p.1.1.0; taken = p.1.1.1 }) (λ _. refl)
