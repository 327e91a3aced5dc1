-- Nodes of which one is changed.
use Rattle.std.specs.Prelude.{◌≡◌, ◌≢◌, ℕ, List, Option, Some, length, slice_get}
use Rattle.extent_alloc.specs.declared.pool.Node.{Node}

-- the node at an index, if there is an index, is changed in a way, and the others stay
pub record ChangesAt (at : Option ℕ) (change : Node → Node) (old new : List Node) : Type 0 where
  pub others : (k : ℕ) → at ≢ Some k → slice_get new k ≡ slice_get old k
  pub changed : (k : ℕ) (node : Node) → at ≡ Some k → slice_get old k ≡ Some node → slice_get new k ≡ Some (change node)
  pub len : length new ≡ length old

abbrev pub after_as : Option ℕ → Node → Node
after_as to node = record { extent = node.extent; before = node.before; after = to }

abbrev pub before_as : Option ℕ → Node → Node
before_as to node = record { extent = node.extent; before = to; after = node.after }
