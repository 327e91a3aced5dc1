use Rattle.std.proofs.Common.{◌≡◌, ◌<◌, ◌+◌, ◌∷◌, List, Some, length, slice_get, MatchOption, IfSome, sym, ap, ◌∙◌, subst, refl, arith}
use Rattle.std.proofs.lemmas.List.{length-set}
use Rattle.extent_alloc.specs.declared.pool.Node.{Node}
use Rattle.extent_alloc.specs.declared.pool.Link.{Link}
use Rattle.extent_alloc.specs.declared.chain.Chain.TheInside.{Inside}
use Rattle.extent_alloc.specs.Chain.{Links}
use Rattle.extent_alloc.specs.Changes.{ChangesAt, after_as}
use Rattle.extent_alloc.specs.Chains.{times, extents_of}
use Rattle.extent_alloc.specs.Linked.{links_in}
use Rattle.extent_alloc.proofs.Unwinding.{CutAfter, cut_after, extents_of-unwind, times-drop, times-first}
use Rattle.extent_alloc.proofs.Linked.{in_use, IsInUse, in_use_ahead}
use Rattle.extent_alloc.proofs.Inserting.{inserted, after_is}
use Rattle.extent_alloc.proofs.chain.Chain.insert_after.Goals as goal

pub replace_after-after-requires : goal.replace_after-after-requires
replace_after-after-requires g c k e =
    let chain = c.self.inside in
    let used : IsInUse k chain.pool.nodes chain.pool.idle =
    in_use chain k c.self.invariant (subst (λ (v : Links). 0 < times k v.links) (sym c.self.view_is) (c.requires.before k e)) in
    let nodes = ap (λ (ns : List Node). length ns) c.take_node-at.ensures.nodes in
    let idle = ap (times k) c.take_node-at.ensures.rest in
    (omega (arith, nodes, used.within), omega (arith, idle, used.in_use, times-drop k chain.pool.idle))

pub set_node-requires-clause-in_use : goal.set_node-requires-clause-in_use
set_node-requires-clause-in_use g c =
    let chain = c.self.inside in
    let at = c.take_node-at.result in
    let idle = ap (times at) (c.replace_after-after.ensures.idle ∙ c.take_node-at.ensures.rest) in
    omega (arith, idle, times-first at chain.pool.idle c.take_node-at.ensures.taken, c.self.invariant.once at c.take_node-at.ensures.within)

pub replace_before-requires : goal.replace_before-requires
replace_before-requires g c k e =
    let chain = c.self.inside in
    let was = c.take_node-at.ensures in
    let led = c.replace_after-after.ensures in
    let after = c.replace_after-after.result in
    let cut : CutAfter c.args.before (links_in chain) =
    cut_after c.args.before (links_in chain) (λ at b. subst (λ (v : Links). 0 < times at v.links) (sym c.self.view_is) (c.requires.before at b)) in
    let replaced = subst (λ ns. MatchOption c.args.before (after ≡ chain.first) (λ at. IfSome (slice_get ns at) (λ (node : Node). after ≡ node.after))) was.nodes led.replaced in
    let next = after_is chain c.args.before after cut.done cut.rest c.self.invariant cut.is cut.before_is replaced in
    let used : IsInUse k chain.pool.nodes chain.pool.idle = in_use_ahead chain cut.done cut.rest c.self.invariant cut.is k (sym next ∙ e) in
    let size = ap (λ (ns : List Node). length ns) c.set_node.ensures.nodes in
    let idle = ap (times k) (c.set_node.ensures.idle ∙ led.idle ∙ was.rest) in (
      omega (arith, used.within, size, length-set c.replace_after-after.new.pool.nodes c.take_node-at.result, led.nodes.len, ap (λ (ns : List Node). length ns) was.nodes),
      omega (arith, used.in_use, idle, times-drop k chain.pool.idle),
    )

pub invariant_of-self : goal.invariant_of-self
invariant_of-self g c =
    let chain = c.self.inside in
    let was = c.take_node-at.ensures in
    let led = c.replace_after-after.ensures in
    let after = c.replace_after-after.result in
    let cut : CutAfter c.args.before (links_in chain) =
    cut_after c.args.before (links_in chain) (λ at b. subst (λ (v : Links). 0 < times at v.links) (sym c.self.view_is) (c.requires.before at b)) in
    (inserted chain _ c.take_node-at.result c.args.before after c.args.extent c.replace_after-after.new.pool.nodes c.set_node.new.self.nodes c.self.invariant
    was.within was.taken (c.replace_before.ensures.idle ∙ c.set_node.ensures.idle ∙ led.idle ∙ was.rest)
    (subst (λ ns. ChangesAt c.args.before (after_as (Some c.take_node-at.result)) ns c.replace_after-after.new.pool.nodes) was.nodes led.nodes)
    led.first
    (subst (λ ns. MatchOption c.args.before (after ≡ chain.first) (λ at. IfSome (slice_get ns at) (λ (node : Node). after ≡ node.after))) was.nodes led.replaced)
    c.set_node.ensures.nodes c.replace_before.ensures.nodes refl cut.done cut.rest cut.is cut.before_is).linked

pub returns-clause-extents : goal.returns-clause-extents
returns-clause-extents g c done rest is front =
    let chain = c.self.inside in
    let was = c.take_node-at.ensures in
    let led = c.replace_after-after.ensures in
    let after = c.replace_after-after.result in
    let new : Inside = record { pool = c.replace_before.new.pool; first = c.replace_after-after.new.first; len = chain.len + 1 } in
    let link : Link = record { at = c.take_node-at.result; extent = c.args.extent } in
    ap extents_of (inserted chain new c.take_node-at.result c.args.before after c.args.extent c.replace_after-after.new.pool.nodes c.set_node.new.self.nodes c.self.invariant
    was.within was.taken (c.replace_before.ensures.idle ∙ c.set_node.ensures.idle ∙ led.idle ∙ was.rest)
    (subst (λ ns. ChangesAt c.args.before (after_as (Some c.take_node-at.result)) ns c.replace_after-after.new.pool.nodes) was.nodes led.nodes)
    led.first
    (subst (λ ns. MatchOption c.args.before (after ≡ chain.first) (λ at. IfSome (slice_get ns at) (λ (node : Node). after ≡ node.after))) was.nodes led.replaced)
    c.set_node.ensures.nodes c.replace_before.ensures.nodes refl done rest (ap (λ (v : Links). v.links) c.self.view_is ∙ is) front).links
    ∙ extents_of-unwind done (link ∷ rest)
