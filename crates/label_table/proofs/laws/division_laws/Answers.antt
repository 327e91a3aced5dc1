use Rattle.label_table.specs.Division.{is_common_free, part_size}
use Rattle.label_table.proofs.Partition.{partition, some_extents}
use Rattle.label_table.proofs.laws.division_laws.Goals as goal
use Rattle.view_types.proofs.Maximal.{one_list}

pub returns-clause-parts : goal.returns-clause-parts
returns-clause-parts c = λ P L r es maximal ready o lt. partition P L r es maximal ready o lt

pub returns-clause-some_list : goal.returns-clause-some_list
returns-clause-some_list c = some_extents

pub returns-clause-one_list : goal.returns-clause-one_list
returns-clause-one_list c = λ P L r es fs a b. one_list (part_size r) (is_common_free P L r) es fs a b
