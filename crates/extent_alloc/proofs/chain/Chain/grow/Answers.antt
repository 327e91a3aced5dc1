use Rattle.std.proofs.Common.{refl, ap, ◌∙◌, subst, sym}
use Rattle.extent_alloc.specs.Chain.{Links}
use Rattle.extent_alloc.specs.Pool.{Nodes}
use Rattle.extent_alloc.specs.declared.chain.Chain.TheInside.{Inside}
use Rattle.extent_alloc.specs.Linked.{IsDoublyLinked}
use Rattle.extent_alloc.proofs.Growing.{grown}
use Rattle.extent_alloc.proofs.chain.Chain.grow.Goals as goal

pub invariant_of-self : goal.invariant_of-self
invariant_of-self g c =
    let chain = c.self.inside in
    subst (λ (pool : Nodes). IsDoublyLinked (record { pool = pool; first = chain.first; len = chain.len })) (sym c.in_err-add_node.ensures.err) c.self.invariant

pub invariant_of-self-2 : goal.invariant_of-self-2
invariant_of-self-2 g c =
    let told = c.in_ok-add_node.ensures in
    (grown c.self.inside _ c.self.invariant refl refl told.fresh told.given told.rest told.len told.others).linked

pub returns-clause-links : goal.returns-clause-links
returns-clause-links g c =
    let told = c.in_ok-add_node.ensures in
    let new : Inside = record { pool = c.add_node.new.self; first = c.self.inside.first; len = c.self.inside.len } in
    (grown c.self.inside new c.self.invariant refl refl told.fresh told.given told.rest told.len told.others).links ∙ ap (λ (v : Links). v.links) c.self.view_is
