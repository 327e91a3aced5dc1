-- What a walk over structures has seen.
use Rattle.std.specs.Prelude.{◌≡◌, ◌<◌, ◌^◌, ◌==◌, ◌||◌, ℕ, Bool, false, List, [], ◌∷◌, ◌++◌, if◌then◌else◌}
use Rattle.std.specs.Prelude.{slice_index_or}
use Rattle.std.specs.List.{list_any}
use Rattle.nfit_tables.specs.declared.marks.IndexMarks.{IndexMarks}
use Rattle.nfit_tables.specs.Proper.{is_same_name}

-- the types whose structures have an index of their own
abbrev pub is_indexed : ℕ → Bool
is_indexed kind = (kind == 0) || (kind == 2) || (kind == 4)

-- the indices that are marked are those of earlier names
pub record Knows (seen : IndexMarks) (earlier : List (ℕ × ℕ)) : Type 0 where
  pub ranges : (index : ℕ) → index < 2 ^ 16
      → slice_index_or seen.ranges.items index false ≡ list_any (is_same_name (0, index)) earlier
  pub interleaves : (index : ℕ) → index < 2 ^ 16
      → slice_index_or seen.interleaves.items index false ≡ list_any (is_same_name (2, index)) earlier
  pub controls : (index : ℕ) → index < 2 ^ 16
      → slice_index_or seen.controls.items index false ≡ list_any (is_same_name (4, index)) earlier

-- the numbers with one more, if it is not there yet
abbrev pub with_new : List ℕ → ℕ → List ℕ
with_new earlier n = if list_any (λ e. e == n) earlier then earlier else earlier ++ n ∷ []
