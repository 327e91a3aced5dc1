-- Another extent in a node of a chain.
use Rattle.std.proofs.Common.{◌≡◌, ℕ, ◌+◌, ◌<◌, List, ◌∷◌, length, None, Some, slice_get, slice_set, refl, sym, ap, ◌∙◌, subst, arith}
use Rattle.std.proofs.lemmas.List.{length-set}
use Rattle.std.proofs.lemmas.Option.{slice_get_within}
use Rattle.view_types.specs.declared.extents.Extent.{Extent}
use Rattle.extent_alloc.specs.declared.pool.Node.{Node}
use Rattle.extent_alloc.specs.declared.pool.Link.{Link}
use Rattle.extent_alloc.specs.declared.chain.Chain.TheInside.{Inside}
use Rattle.extent_alloc.specs.Chains.{first_at, times, unwind}
use Rattle.extent_alloc.specs.Linked.{AreLinked, links_in, IsDoublyLinked}
use Rattle.extent_alloc.proofs.Chains.{times-here, slice_get-set_same, keeps_set}
use Rattle.extent_alloc.proofs.Unwinding.{length-unwind, times-unwind, first_at-unwind}
use Rattle.extent_alloc.proofs.Linked.{AreLinkedAt, linked_at, linked, linked_keeps, linked_back_keeps, node_at, Becomes, becomes}

pub extent_set : (chain new : Inside) (at : ℕ) (node : Node) (to : Extent) → IsDoublyLinked chain
    → slice_get chain.pool.nodes at ≡ Some node → new.pool.nodes ≡ slice_set chain.pool.nodes at (record { extent = to; before = node.before; after = node.after })
    → new.pool.idle ≡ chain.pool.idle → new.first ≡ chain.first → new.len ≡ chain.len
    → (done rest : List Link) (e : Extent) → links_in chain ≡ unwind done (record { at = at; extent = e } ∷ rest)
    → Becomes new (unwind done (record { at = at; extent = to } ∷ rest))
extent_set chain new at node to h read nodes idle first len done rest e is =
    let nodes_was : List Node = chain.pool.nodes in
    let link : Link = record { at = at; extent = e } in
    let link_new : Link = record { at = at; extent = to } in
    let written : Node = record { extent = to; before = node.before; after = node.after } in
    let there : slice_get nodes_was at ≡ Some (record { extent = e; before = first_at done; after = first_at rest }) = node_at nodes_was at e done rest (links_in chain) h.linked is in
    let node_is : node ≡ record { extent = e; before = first_at done; after = first_at rest } = cc in
    let within : at < length nodes_was = slice_get_within nodes_was at node read in
    let zip : AreLinkedAt nodes_was done (link ∷ rest) = linked_at nodes_was done (link ∷ rest) (subst (AreLinked nodes_was None) is h.linked) in
    let count : (k : ℕ) → times k (links_in chain) ≡ times k done + times k (link ∷ rest) = λ k. ap (times k) is ∙ times-unwind k done (link ∷ rest) in
    let once : times at (links_in chain) + times at chain.pool.idle ≡ 1 = h.once at within in
    let none_behind : times at done ≡ 0 = omega (arith, count at, times-here link rest) in
    let none_ahead : times at rest ≡ 0 = omega (arith, count at, times-here link rest) in
    let written_at : slice_get (slice_set nodes_was at written) at ≡ Some (record { extent = to; before = first_at done; after = first_at rest }) =
    slice_get-set_same nodes_was at written within ∙ (λ i. Some (record { extent = to; before = (node_is i).before; after = (node_is i).after })) in
    let zip_new : AreLinkedAt (slice_set nodes_was at written) done (link_new ∷ rest) = record {
      behind = linked_back_keeps nodes_was (slice_set nodes_was at written) (Some at) done (keeps_set nodes_was at written done none_behind) zip.behind;
      ahead = (written_at, linked_keeps nodes_was (slice_set nodes_was at written) (Some at) rest (keeps_set nodes_was at written rest none_ahead) zip.ahead.1);
    } in
    let size : length new.pool.nodes ≡ length nodes_was = ap length nodes ∙ length-set nodes_was at written in
    becomes new (unwind done (link_new ∷ rest))
    (subst (λ ns. AreLinked ns None (unwind done (link_new ∷ rest))) (sym nodes) (linked (slice_set nodes_was at written) done (link_new ∷ rest) zip_new))
    (first ∙ h.first ∙ ap first_at is ∙ first_at-unwind done (link ∷ rest) (link_new ∷ rest) refl)
    (len ∙ h.len ∙ ap length is ∙ length-unwind done (link ∷ rest) ∙ sym (length-unwind done (link_new ∷ rest)))
    (λ k lt. (λ i. times k (unwind done (link_new ∷ rest)) + times k (idle i)) ∙ ap (λ n. n + times k chain.pool.idle) (times-unwind k done (link_new ∷ rest) ∙ sym (count k))
    ∙ h.once k (subst (λ n. k < n) size lt))
    ((λ i. len i + length (idle i)) ∙ h.all ∙ sym size)
