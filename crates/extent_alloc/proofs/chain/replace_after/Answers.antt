use Rattle.std.proofs.Common.{sym, subst, Some}
use Rattle.extent_alloc.specs.Changes.{ChangesAt, after_as}
use Rattle.extent_alloc.proofs.Changes.{changes_set}
use Rattle.extent_alloc.proofs.chain.replace_after.Goals as goal

pub node-node-requires : goal.node-node-requires
node-node-requires g c = (c.requires c.in-Some.at c.in-Some.is).0

pub set_node-requires-clause-within : goal.set_node-requires-clause-within
set_node-requires-clause-within g c = (c.requires c.in-Some.at c.in-Some.is).0

pub returns-in-Some-clause-nodes : goal.returns-in-Some-clause-nodes
returns-in-Some-clause-nodes g c =
    let old = c.args.pool.now.nodes in
    let change = after_as c.args.to in
    subst (λ at. ChangesAt at change old c.set_node.new.self.nodes) (sym c.in-Some.is)
    (subst (ChangesAt (Some c.in-Some.at) change old) (sym c.set_node.ensures.nodes) (changes_set c.in-Some.at change old c.node-node.result c.node-node.ensures.node))
