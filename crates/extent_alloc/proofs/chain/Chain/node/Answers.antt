use Rattle.std.proofs.Common.{◌≡◌, ◌<◌, sym, ap, ◌∙◌, subst, slice_get, Some}
use Rattle.extent_alloc.specs.Chain.{Links}
use Rattle.extent_alloc.specs.Chains.{first_at, times}
use Rattle.extent_alloc.specs.declared.pool.Node.{Node}
use Rattle.extent_alloc.proofs.Linked.{node_at, in_use}
use Rattle.extent_alloc.proofs.chain.Chain.node.Goals as goal

pub node-requires : goal.node-requires
node-requires g c =
    (in_use c.self.inside c.args.at c.self.invariant (subst (λ (v : Links). 0 < times c.args.at v.links) (sym c.self.view_is) c.requires)).within

pub returns-clause-node : goal.returns-clause-node
returns-clause-node g c done rest e is =
    let node : Node = record { extent = e; before = first_at done; after = first_at rest } in
    let here : slice_get c.self.inside.pool.nodes c.args.at ≡ Some node =
    node_at c.self.inside.pool.nodes c.args.at e done rest _ c.self.invariant.linked (ap (λ (v : Links). v.links) c.self.view_is ∙ is) in
    let read : slice_get c.self.inside.pool.nodes c.args.at ≡ Some c.node.result = c.node.ensures.node in
    cc
