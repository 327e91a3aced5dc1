-- Room for more extents.
use Rattle.std.specs.Prelude.{◌≡◌, ◌≤◌, ℕ}
use Rattle.extent_alloc.specs.Chain.{Links}

-- the same extents, with room for at least so many more
pub record HasRoom (old new : Links) (room : ℕ) : Type 0 where
  pub links : new.links ≡ old.links
  pub spare : room ≤ new.spare
  pub grows : old.spare ≤ new.spare
