use Rattle.std.proofs.Common.{◌≡◌, ◌∙◌, ap, length, arith, slice_get, refl, drop}
use Rattle.std.proofs.lemmas.List.{length-set}
use Rattle.extent_alloc.specs.Pool.{Nodes}
use Rattle.extent_alloc.specs.Chains.{first_at, times}
use Rattle.extent_alloc.proofs.Chains.{links_from-given, slice_get-set_other}
use Rattle.extent_alloc.proofs.pool.Pool.give_node.Goals as goal

pub overflow_add-self : goal.overflow_add-self
overflow_add-self g c =
    let len : length c.self.inside.nodes.items ≡ length c.args.self.now.nodes = ap (λ (n : Nodes). length n.nodes) c.self.view_is in
    let idle = ap (λ (n : Nodes). length n.idle) c.self.view_is in
    omega (arith, len, idle, c.self.invariant.len, c.requires.room)

pub invariant_of-self : goal.invariant_of-self
invariant_of-self g c =
    let pool = c.self.inside in
    let within = ap (λ (n : Nodes). length n.nodes) c.self.view_is in
    let idle = ap (λ (n : Nodes). length n.idle) c.self.view_is in
    let none = ap (λ (n : Nodes). times c.args.at n.idle) c.self.view_is ∙ c.requires.in_use in
    record {
      len = ap length (links_from-given pool.nodes.items pool.spare_len c.args.at pool.spare _ (omega (arith, within)) c.self.invariant.len none refl)
          ∙ (omega (arith, c.self.invariant.len));
      few = omega (arith, length-set pool.nodes.items c.args.at, within, idle, c.self.invariant.len, c.requires.room);
    }

pub returns-clause-given : goal.returns-clause-given
returns-clause-given g c =
    let pool = c.self.inside in
    let within = ap (λ (n : Nodes). length n.nodes) c.self.view_is in
    let none = ap (λ (n : Nodes). times c.args.at n.idle) c.self.view_is ∙ c.requires.in_use in
    ap first_at (links_from-given pool.nodes.items pool.spare_len c.args.at pool.spare _ (omega (arith, within)) c.self.invariant.len none refl)

pub returns-clause-rest : goal.returns-clause-rest
returns-clause-rest g c =
    let pool = c.self.inside in
    let within = ap (λ (n : Nodes). length n.nodes) c.self.view_is in
    let none = ap (λ (n : Nodes). times c.args.at n.idle) c.self.view_is ∙ c.requires.in_use in
    ap (drop 1) (links_from-given pool.nodes.items pool.spare_len c.args.at pool.spare _ (omega (arith, within)) c.self.invariant.len none refl)
    ∙ ap (λ (n : Nodes). n.idle) c.self.view_is

pub returns-clause-others : goal.returns-clause-others
returns-clause-others g c k other =
    slice_get-set_other c.self.inside.nodes.items c.args.at k _ other ∙ ap (λ (n : Nodes). slice_get n.nodes k) c.self.view_is
