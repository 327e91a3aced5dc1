-- The place among the links of a chain at which an offset stands.
use Rattle.std.specs.Prelude.{◌≡◌, ℕ, ◌≤◌, ◌<◌, ◌+◌, List, [], ◌∷◌, ◌==◌, if◌then◌else◌, Option, None, Some, IfSome}
use Rattle.std.specs.Prelude.{length, slice_get}
use Rattle.view_types.specs.declared.extents.Extent.{Extent}
use Rattle.view_types.specs.Intervals.{end_of}
use Rattle.extent_alloc.specs.declared.pool.Link.{Link}
use Rattle.extent_alloc.specs.declared.cuts.Cut.{Cut}
use Rattle.extent_alloc.specs.Chains.{first_at, unwind}

abbrev pub EndBy : ℕ → List Link → Type 0
EndBy offset [] = Unit {0}
EndBy offset (l ∷ ls) = (end_of l.extent ≤ offset) × EndBy offset ls

-- what was passed ends by the offset, and what is ahead ends past it
pub record IsCutAt (links : List Link) (offset : ℕ) (cut : Cut) : Type 0 where
  pub done : List Link
  pub rest : List Link
  pub is : links ≡ unwind done rest
  pub before : cut.before ≡ slice_get done 0
  pub after : cut.after ≡ slice_get rest 0
  pub passed : EndBy offset done
  pub reached : IfSome (slice_get rest 0) (λ l. offset < end_of l.extent)

-- on the way there, with one step for each link that was passed
pub record IsPassing (links : List Link) (offset steps_before steps : ℕ) (before : Option Link)
    (next : Option ℕ) : Type 0 where
  pub done : List Link
  pub rest : List Link
  pub is : links ≡ unwind done rest
  pub before_is : before ≡ slice_get done 0
  pub next_is : next ≡ first_at rest
  pub passed : EndBy offset done
  pub steps_are : steps ≡ steps_before + length done

-- a link, if its extent ends or starts at an offset
abbrev pub ending_at : Option Link → ℕ → Option Link
ending_at None offset = None
ending_at (Some l) offset = if end_of l.extent == offset then Some l else None

abbrev pub starting_at : Option Link → ℕ → Option Link
starting_at None offset = None
starting_at (Some l) offset = if l.extent.start == offset then Some l else None

-- an extent with the one that begins where it ends
abbrev pub joined : Extent → Extent → Extent
joined e f = record { start = e.start; len = e.len + f.len }

-- an extent among others, joined with the one behind, and with the one before, where they touch
abbrev pub joined_ahead : Extent → List Extent → List Extent
joined_ahead e [] = e ∷ []
joined_ahead e (a ∷ es) = if a.start == end_of e then joined e a ∷ es else e ∷ a ∷ es

abbrev pub joined_in : List Extent → Extent → List Extent → List Extent
joined_in [] e rest = joined_ahead e rest
joined_in (b ∷ done) e rest =
    unwind done (if end_of b == e.start then joined_ahead (joined b e) rest else b ∷ joined_ahead e rest)
