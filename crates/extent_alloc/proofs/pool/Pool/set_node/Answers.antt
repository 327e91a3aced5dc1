use Rattle.std.proofs.Common.{◌≡◌, ◌∙◌, ap, length, slice_set, arith}
use Rattle.std.proofs.lemmas.List.{length-set}
use Rattle.extent_alloc.specs.Pool.{Nodes}
use Rattle.extent_alloc.specs.Chains.{links_from, times}
use Rattle.extent_alloc.proofs.Chains.{links_from-keeps, keeps_set}
use Rattle.extent_alloc.proofs.pool.Pool.set_node.Goals as goal

pub invariant_of-self : goal.invariant_of-self
invariant_of-self g c =
    let pool = c.self.inside in
    let kept : links_from (slice_set pool.nodes.items c.args.at c.args.node) pool.spare_len pool.spare ≡ links_from pool.nodes.items pool.spare_len pool.spare =
    links_from-keeps pool.nodes.items _ pool.spare_len pool.spare c.self.invariant.len
    (keeps_set pool.nodes.items c.args.at c.args.node _ (ap (λ (n : Nodes). times c.args.at n.idle) c.self.view_is ∙ c.requires.in_use)) in
    record {
      len = ap length kept ∙ c.self.invariant.len;
      few = omega (arith, length-set pool.nodes.items c.args.at c.args.node, c.self.invariant.few);
    }

pub returns-clause-idle : goal.returns-clause-idle
returns-clause-idle g c =
    let pool = c.self.inside in
    links_from-keeps pool.nodes.items _ pool.spare_len pool.spare c.self.invariant.len
    (keeps_set pool.nodes.items c.args.at c.args.node _ (ap (λ (n : Nodes). times c.args.at n.idle) c.self.view_is ∙ c.requires.in_use))
    ∙ ap (λ (n : Nodes). n.idle) c.self.view_is
