use Rattle.std.proofs.lemmas.List.Sorted.{IsPermutation-trans}
use Rattle.uuid_index.proofs.index.Index.of.Goals as goal

pub returns-clause-labels : goal.returns-clause-labels
returns-clause-labels c modules labels live = record {
  live = IsPermutation-trans _ _ _ live c.sort_unstable.ensures.permutation;
  ordered = c.sort_unstable.ensures.sorted;
}
