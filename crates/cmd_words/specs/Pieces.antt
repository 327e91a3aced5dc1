-- The pieces of a line.
use Rattle.std.specs.Prelude.{ℕ, ◌==◌, Bool, List, filter, length, nat_lt}
use Rattle.std.specs.List.{slice_split}

abbrev pub is_space : ℕ → Bool
is_space byte = byte == 32

-- the parts between spaces, without the empty ones
abbrev pub pieces : List ℕ → List (List ℕ)
pieces line = filter (λ piece. nat_lt 0 (length piece)) (slice_split is_space line)
