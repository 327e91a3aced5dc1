-- What contracts see of a media in memory.
use Rattle.std.specs.Prelude.{ℕ, List, [], Option, None, refl}
use Rattle.std.specs.Coded.{Coded, coded_ℕ, coded_list, coded_option, coded×, code_by}
use Rattle.btt_arena.specs.Kept.{Keeping, keeping_code}

pub record Memory : Type 0 where
  pub bytes : List ℕ
  -- the numbers of the calls that fail, how many calls there were, and how many of them failed
  pub listed : List ℕ
  pub calls : ℕ
  pub faults : ℕ
  -- the writes kept, where writes are kept
  pub keeping : Option Keeping

-- a media of these bytes, before its first call
abbrev pub new_memory : List ℕ → Memory
new_memory bytes = record { bytes = bytes; listed = []; calls = 0; faults = 0; keeping = None }

-- a memory as the tuple of its parts, by which proofs tell two apart
abbrev pub memory_code : Coded Memory
memory_code = code_by (List ℕ × (List ℕ × (ℕ × (ℕ × Option Keeping))))
    (coded× (coded_list coded_ℕ) (coded× (coded_list coded_ℕ)
    (coded× coded_ℕ (coded× coded_ℕ (coded_option keeping_code)))))
    (λ m. (m.bytes, (m.listed, (m.calls, (m.faults, m.keeping)))))
    (λ p. record {
      bytes = p.0;
      listed = p.1.0;
      calls = p.1.1.0;
      faults = p.1.1.1.0;
      keeping = p.1.1.1.1;
    }) (λ _. refl)
