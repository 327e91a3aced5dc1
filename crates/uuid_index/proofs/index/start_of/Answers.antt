use Rattle.std.proofs.Common.{◌≡◌, true, false, rules, arith}
use Rattle.std.specs.List.Sorted.{IsPartitionPoint}
use Rattle.std.proofs.lemmas.List.Sorted.{IsPartitionPoint-from_clause}
use Rattle.uuid_index.proofs.Searches.{is_before, partitioned}
use Rattle.uuid_index.proofs.index.start_of.Goals as goal

pub returns : goal.returns
returns c =
    let entries = c.args.entries.now in
    let before = is_before c.args.uuid.now c.args.position in
    let at = c.partition_point.result in
    let point : IsPartitionPoint (λ e. before e ≡ true) (λ e. before e ≡ false) entries at = IsPartitionPoint-from_clause before entries at c.partition_point.ensures.partitioned (partitioned c.args.uuid.now c.args.position entries c.requires) (λ a r f called. search rules) in
    record {
      within = c.partition_point.ensures.bound;
      before = λ k d lt. point.0 k d (omega arith) lt;
      from = point.1;
    }
