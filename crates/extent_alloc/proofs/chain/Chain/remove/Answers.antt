use Rattle.std.proofs.Common.{◌<◌, ◌-◌, [], List, length, inl, inr, sym, ap, ◌∙◌, subst, arith}
use Rattle.extent_alloc.specs.declared.pool.Link.{Link}
use Rattle.extent_alloc.specs.declared.chain.Chain.TheInside.{Inside}
use Rattle.extent_alloc.specs.Chain.{Links}
use Rattle.extent_alloc.specs.Chains.{times}
use Rattle.extent_alloc.specs.Linked.{links_in}
use Rattle.extent_alloc.proofs.Unwinding.{Cut, cut_from, some_links}
use Rattle.extent_alloc.proofs.Linked.{in_use, IsInUse, neighbours_in_use}
use Rattle.extent_alloc.proofs.Removing.{removed}
use Rattle.extent_alloc.proofs.chain.Chain.remove.Goals as goal

pub node-before-requires : goal.node-before-requires
node-before-requires g c =
    (in_use c.self.inside c.args.at c.self.invariant (subst (λ (v : Links). 0 < times c.args.at v.links) (sym c.self.view_is) c.requires)).within

pub replace_after-requires : goal.replace_after-requires
replace_after-requires g c k e =
    let used : IsInUse k c.self.inside.pool.nodes c.self.inside.pool.idle =
    neighbours_in_use c.self.inside c.args.at c.node-before.result c.self.invariant c.node-before.ensures.node
    (subst (λ (v : Links). 0 < times c.args.at v.links) (sym c.self.view_is) c.requires) k (inl e) in
    (used.within, used.in_use)

pub replace_before-requires : goal.replace_before-requires
replace_before-requires g c k e =
    let used : IsInUse k c.self.inside.pool.nodes c.self.inside.pool.idle =
    neighbours_in_use c.self.inside c.args.at c.node-before.result c.self.invariant c.node-before.ensures.node
    (subst (λ (v : Links). 0 < times c.args.at v.links) (sym c.self.view_is) c.requires) k (inr e) in
    (omega (arith, used.within, c.replace_after.ensures.nodes.len), ap (times k) c.replace_after.ensures.idle ∙ used.in_use)

pub give_node-requires-clause-within : goal.give_node-requires-clause-within
give_node-requires-clause-within g c =
    let used : IsInUse c.args.at c.self.inside.pool.nodes c.self.inside.pool.idle =
    in_use c.self.inside c.args.at c.self.invariant (subst (λ (v : Links). 0 < times c.args.at v.links) (sym c.self.view_is) c.requires) in
    omega (arith, used.within, c.replace_after.ensures.nodes.len, c.replace_before.ensures.nodes.len)

pub give_node-requires-clause-in_use : goal.give_node-requires-clause-in_use
give_node-requires-clause-in_use g c =
    let used : IsInUse c.args.at c.self.inside.pool.nodes c.self.inside.pool.idle =
    in_use c.self.inside c.args.at c.self.invariant (subst (λ (v : Links). 0 < times c.args.at v.links) (sym c.self.view_is) c.requires) in
    ap (times c.args.at) (c.replace_before.ensures.idle ∙ c.replace_after.ensures.idle) ∙ used.in_use

pub give_node-requires-clause-room : goal.give_node-requires-clause-room
give_node-requires-clause-room g c =
    let chain = c.self.inside in
    let some = some_links c.args.at (links_in chain) (subst (λ (v : Links). 0 < times c.args.at v.links) (sym c.self.view_is) c.requires) in
    omega (
      arith,
      some,
      c.self.invariant.len,
      c.self.invariant.all,
      c.replace_after.ensures.nodes.len,
      c.replace_before.ensures.nodes.len,
      ap (λ (ls : List Link). length ls) (c.replace_before.ensures.idle ∙ c.replace_after.ensures.idle),
    )

pub invariant_of-self : goal.invariant_of-self
invariant_of-self g c =
    let chain = c.self.inside in
    let cut : Cut c.args.at (links_in chain) =
    cut_from c.args.at [] (links_in chain) (subst (λ (v : Links). 0 < times c.args.at v.links) (sym c.self.view_is) c.requires) in
    let given = c.give_node.ensures in
    let some = some_links c.args.at (links_in chain) (subst (λ (v : Links). 0 < times c.args.at v.links) (sym c.self.view_is) c.requires) in
    (removed chain _ c.args.at c.node-before.result c.replace_after.new.pool.nodes c.replace_before.new.pool.nodes c.self.invariant c.node-before.ensures.node
    c.replace_after.ensures.nodes c.replace_after.ensures.first c.replace_before.ensures.nodes given.others given.len given.given
    (given.rest ∙ c.replace_before.ensures.idle ∙ c.replace_after.ensures.idle) (omega (arith, some, c.self.invariant.len)) cut.done cut.rest cut.extent cut.is).linked

pub returns-clause-links : goal.returns-clause-links
returns-clause-links g c done rest e is =
    let chain = c.self.inside in
    let given = c.give_node.ensures in
    let some = some_links c.args.at (links_in chain) (subst (λ (v : Links). 0 < times c.args.at v.links) (sym c.self.view_is) c.requires) in
    let new : Inside = record { pool = c.give_node.new.self; first = c.replace_after.new.first; len = chain.len - 1 } in
    (removed chain new c.args.at c.node-before.result c.replace_after.new.pool.nodes c.replace_before.new.pool.nodes c.self.invariant c.node-before.ensures.node
    c.replace_after.ensures.nodes c.replace_after.ensures.first c.replace_before.ensures.nodes given.others given.len given.given
    (given.rest ∙ c.replace_before.ensures.idle ∙ c.replace_after.ensures.idle) (omega (arith, some, c.self.invariant.len)) done rest e (ap (λ (v : Links). v.links) c.self.view_is ∙ is)).links
