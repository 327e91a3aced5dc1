-- What a pool's fields show.
use Rattle.std.specs.Prelude.{◌≡◌, ◌≤◌, length}
use Rattle.extent_alloc.specs.declared.pool.Pool.TheInside.{Inside}
use Rattle.extent_alloc.specs.Chains.{links_from}
use Rattle.extent_alloc.specs.Pool.{Nodes}

abbrev pub nodes_of : Inside → Nodes
nodes_of pool = record { nodes = pool.nodes.items; idle = links_from pool.nodes.items pool.spare_len pool.spare }

-- the chain of spare nodes has as many as the pool tells, and no more than there are nodes
pub record IsChained (pool : Inside) : Type 0 where
  pub len : length (links_from pool.nodes.items pool.spare_len pool.spare) ≡ pool.spare_len
  pub few : pool.spare_len ≤ length pool.nodes.items
