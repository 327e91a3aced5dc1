use Rattle.std.proofs.Common.{◌≡◌, ◌∙◌, ap, length, arith, ◌+◌, Some, slice_get, refl, drop, sym, length-append}
use Rattle.extent_alloc.specs.Pool.{Nodes}
use Rattle.extent_alloc.specs.Chains.{first_at, links_from, times}
use Rattle.extent_alloc.proofs.Chains.{links_from-added, times-beyond, slice_get-append}
use Rattle.extent_alloc.proofs.pool.Pool.add_node.Goals as goal

pub invariant_of-self-2 : goal.invariant_of-self-2
invariant_of-self-2 g c =
    let pool = c.self.inside in
    let items = c.in_ok-push.ensures.items in
    let at : c.len-at.result ≡ length pool.nodes.items = omega (arith, c.len-at.ensures) in
    let added = (λ i. links_from (items i) (pool.spare_len + 1) (Some (at i))) ∙ links_from-added pool.nodes.items pool.spare_len pool.spare _ c.self.invariant.len refl in
    record {
      len = ap length added ∙ (omega (arith, c.self.invariant.len));
      few = omega (arith, simp length-append at (ap length items), c.self.invariant.few);
    }

pub returns-clause-given : goal.returns-clause-given
returns-clause-given g c =
    let pool = c.self.inside in
    let at : c.len-at.result ≡ length pool.nodes.items = omega (arith, c.len-at.ensures) in
    (λ i. first_at (links_from (c.in_ok-push.ensures.items i) (pool.spare_len + 1) (Some (at i))))
    ∙ ap first_at (links_from-added pool.nodes.items pool.spare_len pool.spare _ c.self.invariant.len refl)
    ∙ ap (λ (n : Nodes). Some (length n.nodes)) c.self.view_is

pub returns-clause-rest : goal.returns-clause-rest
returns-clause-rest g c =
    let pool = c.self.inside in
    let at : c.len-at.result ≡ length pool.nodes.items = omega (arith, c.len-at.ensures) in
    (λ i. drop 1 (links_from (c.in_ok-push.ensures.items i) (pool.spare_len + 1) (Some (at i))))
    ∙ ap (drop 1) (links_from-added pool.nodes.items pool.spare_len pool.spare _ c.self.invariant.len refl)
    ∙ ap (λ (n : Nodes). n.idle) c.self.view_is

pub returns-clause-others : goal.returns-clause-others
returns-clause-others g c k lt =
    let len = ap (λ (n : Nodes). length n.nodes) c.self.view_is in
    ap (λ ns. slice_get ns k) c.in_ok-push.ensures.items
    ∙ slice_get-append c.self.inside.nodes.items _ k (omega (arith, len))
    ∙ ap (λ (n : Nodes). slice_get n.nodes k) c.self.view_is

pub returns-clause-fresh : goal.returns-clause-fresh
returns-clause-fresh g c =
    let pool = c.self.inside in
    ap (λ (n : Nodes). times (length n.nodes) n.idle) (sym c.self.view_is)
    ∙ times-beyond pool.nodes.items pool.spare_len pool.spare (length pool.nodes.items) (omega arith)
