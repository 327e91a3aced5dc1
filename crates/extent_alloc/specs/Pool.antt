-- A pool as its nodes by index, and the chain of the spare ones.
use Rattle.std.specs.Prelude.{List}
use Rattle.extent_alloc.specs.declared.pool.Node.{Node}
use Rattle.extent_alloc.specs.declared.pool.Link.{Link}

pub record Nodes : Type 0 where
  pub nodes : List Node
  pub idle : List Link
