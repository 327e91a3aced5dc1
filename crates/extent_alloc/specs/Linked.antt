-- What a chain's fields show, and how its nodes lead to one another.
use Rattle.std.specs.Prelude.{◌≡◌, ℕ, ◌+◌, ◌<◌, List, [], ◌∷◌, Option, None, Some, length, slice_get}
use Rattle.extent_alloc.specs.declared.pool.Node.{Node}
use Rattle.extent_alloc.specs.declared.pool.Link.{Link}
use Rattle.extent_alloc.specs.declared.chain.Chain.TheInside.{Inside}
use Rattle.extent_alloc.specs.Chains.{links_from, first_at, times}
use Rattle.extent_alloc.specs.Chain.{Links}

-- each link's node has the link's extent, and leads to the links before and after it
abbrev pub AreLinked : List Node → Option ℕ → List Link → Type 0
AreLinked nodes before [] = Unit {0}
AreLinked nodes before (l ∷ ls) =
    (slice_get nodes l.at ≡ Some (record { extent = l.extent; before = before; after = first_at ls }))
    × AreLinked nodes (Some l.at) ls

abbrev pub links_in : Inside → List Link
links_in chain = links_from chain.pool.nodes chain.len chain.first

abbrev pub links_of : Inside → Links
links_of chain = record { links = links_in chain; spare = length chain.pool.idle }

pub record IsDoublyLinked (chain : Inside) : Type 0 where
  -- the chain from the first node, forwards and backwards, is the list
  pub linked : AreLinked chain.pool.nodes None (links_in chain)
  pub first : chain.first ≡ first_at (links_in chain)
  pub len : chain.len ≡ length (links_in chain)
  -- each node is in exactly one of the two chains, once
  pub once : (k : ℕ) → k < length chain.pool.nodes → times k (links_in chain) + times k chain.pool.idle ≡ 1
  pub all : chain.len + length chain.pool.idle ≡ length chain.pool.nodes
