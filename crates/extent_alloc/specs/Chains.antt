-- Chains of nodes through a list of them.
use Rattle.std.specs.Prelude.{ℕ, zero, suc, ◌+◌, List, [], ◌∷◌, ◌==◌, if◌then◌else◌, slice_get, map}
use Rattle.std.specs.Prelude.{Option, None, Some}
use Rattle.std.specs.Option.{option_map, unwrap_or}
use Rattle.view_types.specs.declared.extents.Extent.{Extent}
use Rattle.extent_alloc.specs.declared.pool.Node.{Node}
use Rattle.extent_alloc.specs.declared.pool.Link.{Link}

-- the links of the nodes that follow one another from an index on, at most so many
abbrev pub links_from : List Node → ℕ → Option ℕ → List Link
links_from nodes zero next = []
links_from nodes (suc n) None = []
links_from nodes (suc n) (Some at) =
    unwrap_or (option_map
    (λ (node : Node). record { at = at; extent = node.extent } ∷ links_from nodes n node.after) (slice_get nodes at)) []

-- the index of the first link
abbrev pub first_at : List Link → Option ℕ
first_at [] = None
first_at (p ∷ ps) = Some p.at

-- how often a node stands in a chain
abbrev pub times : ℕ → List Link → ℕ
times k [] = 0
times k (p ∷ ps) = (if p.at == k then 1 else 0) + times k ps

abbrev pub extents_of : List Link → List Extent
extents_of = map (λ (p : Link). p.extent)

-- a list that is cut in two: what was passed, the last first, and what is ahead
abbrev pub unwind {ℓ} : {X : Type ℓ} → List X → List X → List X
unwind [] rest = rest
unwind (x ∷ done) rest = unwind done (x ∷ rest)

-- links with one among them, by its index and its extent
abbrev pub around : List Link → ℕ → Extent → List Link → List Link
around done at e rest = unwind done (record { at = at; extent = e } ∷ rest)
