use Rattle.std.proofs.Common.{◌<◌, [], sym, ap, ◌∙◌, subst, refl}
use Rattle.extent_alloc.specs.Chain.{Links}
use Rattle.extent_alloc.specs.Chains.{times}
use Rattle.extent_alloc.proofs.Unwinding.{Cut, cut_from}
use Rattle.extent_alloc.specs.Linked.{links_in}
use Rattle.extent_alloc.proofs.Linked.{in_use}
use Rattle.extent_alloc.proofs.Resetting.{extent_set}
use Rattle.extent_alloc.proofs.chain.Chain.set_extent.Goals as goal

pub node-node-requires : goal.node-node-requires
node-node-requires g c =
    (in_use c.self.inside c.args.at c.self.invariant (subst (λ (v : Links). 0 < times c.args.at v.links) (sym c.self.view_is) c.requires)).within

pub set_node-requires-clause-within : goal.set_node-requires-clause-within
set_node-requires-clause-within g c =
    (in_use c.self.inside c.args.at c.self.invariant (subst (λ (v : Links). 0 < times c.args.at v.links) (sym c.self.view_is) c.requires)).within

pub set_node-requires-clause-in_use : goal.set_node-requires-clause-in_use
set_node-requires-clause-in_use g c =
    (in_use c.self.inside c.args.at c.self.invariant (subst (λ (v : Links). 0 < times c.args.at v.links) (sym c.self.view_is) c.requires)).in_use

pub invariant_of-self : goal.invariant_of-self
invariant_of-self g c =
    let cut : Cut c.args.at (links_in c.self.inside) =
    cut_from c.args.at [] (links_in c.self.inside) (subst (λ (v : Links). 0 < times c.args.at v.links) (sym c.self.view_is) c.requires) in
    (extent_set c.self.inside _ c.args.at c.node-node.result c.args.extent c.self.invariant c.node-node.ensures.node c.set_node.ensures.nodes c.set_node.ensures.idle refl refl
    cut.done cut.rest cut.extent cut.is).linked

pub returns-clause-links : goal.returns-clause-links
returns-clause-links g c done rest e is =
    (extent_set c.self.inside (record { pool = c.set_node.new.self; first = c.self.inside.first; len = c.self.inside.len }) c.args.at c.node-node.result c.args.extent c.self.invariant c.node-node.ensures.node c.set_node.ensures.nodes c.set_node.ensures.idle refl refl
    done rest e (ap (λ (v : Links). v.links) c.self.view_is ∙ is)).links
