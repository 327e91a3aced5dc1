-- What contracts see of a source in memory.
use Rattle.std.specs.Prelude.{ℕ, List, refl}
use Rattle.std.specs.Coded.{Coded, coded_ℕ, coded_list, coded×, code_by}

pub record Input : Type 0 where
  -- the bytes left
  pub left : List ℕ
  -- the numbers of the reads that fail, and how many reads there were
  pub listed : List ℕ
  pub calls : ℕ
  -- how many of the reads failed
  pub faults : ℕ

-- a source before its first read
abbrev pub new_input : List ℕ → List ℕ → Input
new_input bytes listed = record { left = bytes; listed = listed; calls = 0; faults = 0 }

-- an input as the tuple of its parts, by which proofs tell two apart
abbrev pub input_code : Coded Input
input_code = code_by (List ℕ × (List ℕ × (ℕ × ℕ)))
    (coded× (coded_list coded_ℕ) (coded× (coded_list coded_ℕ) (coded× coded_ℕ coded_ℕ)))
    (λ i. (i.left, (i.listed, (i.calls, i.faults))))
    (λ p. record { left = p.0; listed = p.1.0; calls = p.1.1.0; faults = p.1.1.1 }) (λ _. refl)
