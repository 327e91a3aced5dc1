use Rattle.std.proofs.Common.{◌≡◌, drop, map}
use Rattle.label_table.specs.Namespaces.{first_clash_from}
use Rattle.region_labels.specs.Statuses.{space_in}
use Rattle.region_labels.proofs.clashes.clash_behind.Given as goal

abbrev pub invariant-loop-next : goal.invariant-loop-next
invariant-loop-next l = first_clash_from (space_in l.space) (map space_in (drop l.next-index l.others)) ≡ first_clash_from (space_in l.fn.first) (map space_in l.others)
