use Rattle.std.proofs.Common.{rules}
use Rattle.std.proofs.lemmas.List.Sorted.{IsNonDecreasingBy-from_sort_by_key}
use Rattle.region_map.specs.declared.platform.LineTable.{LineTable}
use Rattle.region_map.proofs.records.tables_by_index.Goals as goal

pub returns : goal.returns
returns c = record {
  same = rw (← c.in_ok-tables.ensures, c.from_vec.ensures) c.sort_unstable_by_key.ensures.permutation;
  order = rw c.from_vec.ensures (IsNonDecreasingBy-from_sort_by_key (λ (t : LineTable). t.index) _ c.sort_unstable_by_key.ensures.sorted (λ a r q k. search rules));
}
