use Rattle.std.proofs.Common.{◌≡◌, [], Some, sym, ap, subst, refl, arith}
use Rattle.extent_alloc.specs.declared.pool.Node.{Node}
use Rattle.extent_alloc.specs.Chains.{first_at}
use Rattle.extent_alloc.specs.Cuts.{IsPassing}
use Rattle.extent_alloc.proofs.Passing.{First, coming, coming_is, next_in_use, passed_one, ends_inside}
use Rattle.extent_alloc.proofs.cuts.cut_at.Goals as goal

pub loop-next-init : goal.loop-next-init
loop-next-init g c = record {
  done = [];
  rest = c.args.chain.now.links;
  is = refl;
  before_is = refl;
  next_is = c.first-next.ensures;
  passed = tt;
  steps_are = omega arith;
}

pub node-node-requires : goal.node-node-requires
node-node-requires g c =
    next_in_use c.args.chain.now.links c.args.offset c.args.steps.now c.loop-next.steps c.loop-next.before c.loop-next.next c.in-Some.at c.loop-next.invariant c.in-Some.is

pub end-requires : goal.end-requires
end-requires g c =
    let way = c.loop-next.invariant in
    let links = c.args.chain.now.links in
    let first : First c.in-Some.at way.rest = coming links c.args.offset c.args.steps.now c.loop-next.steps c.loop-next.before c.loop-next.next c.in-Some.at way c.in-Some.is in
    let is = coming_is links c.args.offset c.args.steps.now c.loop-next.steps c.loop-next.before c.loop-next.next c.in-Some.at way c.in-Some.is in
    let node : c.node-node.result ≡ record { extent = first.extent; before = first_at way.done; after = first_at first.later } = c.node-node.ensures.node way.done first.later first.extent is in
    let inside = ends_inside c.args.whole links way.done first.later (record { at = c.in-Some.at; extent = first.extent }) c.requires is in
    let start = ap (λ (n : Node). n.extent.start) node in
    let len = ap (λ (n : Node). n.extent.len) node in
    omega (arith, inside, start, len, c.ranges.whole)

pub loop-next-preserved : goal.loop-next-preserved
loop-next-preserved g c =
    let way = c.loop-next.invariant in
    let links = c.args.chain.now.links in
    let first : First c.in-Some.at way.rest = coming links c.args.offset c.args.steps.now c.loop-next.steps c.loop-next.before c.loop-next.next c.in-Some.at way c.in-Some.is in
    let is = coming_is links c.args.offset c.args.steps.now c.loop-next.steps c.loop-next.before c.loop-next.next c.in-Some.at way c.in-Some.is in
    let node : c.node-node.result ≡ record { extent = first.extent; before = first_at way.done; after = first_at first.later } = c.node-node.ensures.node way.done first.later first.extent is in
    let passing = passed_one links c.args.offset c.args.steps.now c.loop-next.steps c.loop-next.before c.loop-next.next c.in-Some.at way c.in-Some.is
    c.node-node.result node (omega (arith, c.if-offset-end.false, c.end.ensures)) in
    subst (λ n. IsPassing links c.args.offset c.args.steps.now n (Some (record { at = c.in-Some.at; extent = c.node-node.result.extent })) c.node-node.result.after)
    (sym c.node-node.ensures.step) passing
