-- A chain as its links in order, and the number of spare nodes.
use Rattle.std.specs.Prelude.{ℕ, List}
use Rattle.extent_alloc.specs.declared.pool.Link.{Link}

pub record Links : Type 0 where
  pub links : List Link
  pub spare : ℕ
