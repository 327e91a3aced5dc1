-- The free extents of regions, which are known or not.
use Rattle.std.specs.Prelude.{◌≡◌, ◌≢◌, ℕ, IfSome, List, Option, None, Some, length, slice_get, slice_index_or}
use Rattle.std.specs.Option.{option_and_then, option_map}
use Rattle.std.specs.declared.vec.Vec.{Vec}
use Rattle.view_types.specs.Intervals.{AreMaximal, is_free, with_range, without_range}
use Rattle.extent_alloc.specs.Free.{FreeSpace}
use Rattle.label_sets.specs.declared.free.FreeExtents.TheInside.{Inside}

abbrev pub items_of : {Z : Type 0} → Vec FreeSpace Z → List FreeSpace
items_of spaces = spaces.items

abbrev pub known_spaces : Inside → Option (List FreeSpace)
known_spaces free = option_map items_of free.each

-- the free space of the region at a place, where it is known
abbrev pub space_at : Option (List FreeSpace) → ℕ → Option FreeSpace
space_at free place = option_and_then (λ spaces. slice_get spaces place) free

-- the free space has lost a range
pub record LosesRange (start len : ℕ) (before after : FreeSpace) : Type 0 where
  pub taken : AreMaximal before.whole (without_range (is_free before.extents) start len) after.extents
  pub whole : after.whole ≡ before.whole

-- or got one back
pub record GainsRange (start len : ℕ) (before after : FreeSpace) : Type 0 where
  pub released : AreMaximal before.whole (with_range (is_free before.extents) start len) after.extents
  pub whole : after.whole ≡ before.whole

-- that of the region at a place changes so, and all others are as before
pub record ChangesAt (place : ℕ) (Change : FreeSpace → FreeSpace → Type 0)
    (before after : List FreeSpace) : Type 0 where
  pub each : length after ≡ length before
  pub here : (e : FreeSpace) → Change (slice_index_or before place e) (slice_index_or after place e)
  pub others : (other : ℕ) (e : FreeSpace) → other ≢ place
      → slice_index_or after other e ≡ slice_index_or before other e

-- so it is where they are known before and after: what is not known stays so
abbrev pub ChangesKnown : ℕ → (FreeSpace → FreeSpace → Type 0) → Option (List FreeSpace) → Option (List FreeSpace)
    → Type 0
ChangesKnown place Change None after = after ≡ None
ChangesKnown place Change (Some before) after = IfSome after (ChangesAt place Change before)
