use Rattle.std.proofs.Common.{rules}
use Rattle.std.proofs.lemmas.List.Sorted.{IsNonDecreasingBy-from_sort_by_key}
use Rattle.region_map.specs.declared.records.PersistentRange.{PersistentRange}
use Rattle.region_map.proofs.records.ranges_by_index.Goals as goal

pub returns : goal.returns
returns c = record {
  same = rw (← c.in_ok-ranges.ensures) c.sort_unstable_by_key.ensures.permutation;
  order = IsNonDecreasingBy-from_sort_by_key (λ (r : PersistentRange). r.index) _ c.sort_unstable_by_key.ensures.sorted (λ a r q k. search rules);
}
