use Rattle.std.proofs.Common.{rules}
use Rattle.std.proofs.lemmas.List.Sorted.{IsNonDecreasingBy-from_sort_by_key}
use Rattle.region_map.specs.declared.platform.Member.{Member}
use Rattle.region_map.proofs.regions.members_by_offset.Goals as goal

pub returns : goal.returns
returns c = record {
  same = rw (← c.in_ok-members.ensures) c.sort_unstable_by_key.ensures.permutation;
  order = IsNonDecreasingBy-from_sort_by_key (λ (m : Member). m.region_offset) _ c.sort_unstable_by_key.ensures.sorted (λ a r q k. search rules);
}
