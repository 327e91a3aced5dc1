use Rattle.std.proofs.Common.{List, subst, rules}
use Rattle.std.specs.List.Sorted.{IsPermutation}
use Rattle.std.proofs.lemmas.List.Sorted.{answers_always}
use Rattle.view_types.specs.declared.namespaces.Held.{Held}
use Rattle.region_labels.specs.Held.{held_key}
use Rattle.region_labels.proofs.held.held_labels.Goals as goal

pub returns : goal.returns
returns c = record {
  same = subst (λ (hs : List Held). IsPermutation hs c.sort_unstable_by_key.new.self.items) c.in_ok-held.ensures c.sort_unstable_by_key.ensures.permutation;
  order = c.sort_unstable_by_key.ensures.sorted held_key (answers_always _ _ _ (λ f a r g called. search rules));
}
