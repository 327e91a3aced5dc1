use Rattle.std.proofs.Common.{rules, sym, ap, subst, ◌∙◌}
use Rattle.std.proofs.lemmas.List.Sorted.{IsNonDecreasingBy-from_sort_by_key}
use Rattle.extent_alloc.specs.Chain.{Links}
use Rattle.extent_alloc.specs.Chains.{extents_of}
use Rattle.extent_alloc.specs.Gaps.{AreFoundFrom, end_in_64_bits}
use Rattle.extent_alloc.proofs.Sweeping.{all_left}
use Rattle.extent_alloc.proofs.extents.Extents.outside.Goals as goal

pub loop-range-init : goal.loop-range-init
loop-range-init c =
    let ranges = c.sort_unstable_by_key.new.self.items in
    let up = IsNonDecreasingBy-from_sort_by_key end_in_64_bits ranges c.sort_unstable_by_key.ensures.sorted (λ a r q k. search rules) in
    record {
      found = subst (AreFoundFrom c.args.whole c.args.whole c.args.ranges.items ranges) (ap (λ (l : Links). extents_of l.links) (sym c.new-chain.ensures))
          (all_left c.args.whole c.args.ranges.items ranges c.sort_unstable_by_key.ensures.permutation up);
      spare = ap (λ (l : Links). l.spare) c.new-chain.ensures;
    }

pub loop-range-preserved : goal.loop-range-preserved
loop-range-preserved c = record {
  found = c.in_ok-end.ensures.found c.args.whole c.args.ranges.items c.pop.new.self.items c.ranges.whole.fits
      (subst (λ xs. AreFoundFrom c.loop-range.end c.args.whole c.args.ranges.items xs (extents_of c.loop-range.chain.links)) c.in-Some.ensures.items c.loop-range.invariant.found);
  spare = c.in_ok-end.ensures.spare ∙ c.loop-range.invariant.spare;
}
