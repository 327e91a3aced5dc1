use Rattle.std.proofs.Common.{List, subst, rules}
use Rattle.std.specs.List.Sorted.{IsPermutation}
use Rattle.std.proofs.lemmas.List.Sorted.{answers_always}
use Rattle.view_types.specs.declared.namespaces.Namespace.{Namespace}
use Rattle.region_labels.specs.Modules.{labels_in}
use Rattle.region_labels.specs.Namespaces.{space_key}
use Rattle.region_labels.proofs.Sorted.{sorted-namespaces}
use Rattle.region_labels.proofs.region.RegionLabels.namespaces.Goals as goal

pub returns : goal.returns
returns c =
    sorted-namespaces (labels_in c.args.modules.now) c.args.self.now.region c.sort_unstable_by_key.new.self.items
    (subst (λ (ns : List Namespace). IsPermutation ns c.sort_unstable_by_key.new.self.items) c.in_ok-spaces.ensures c.sort_unstable_by_key.ensures.permutation)
    (c.sort_unstable_by_key.ensures.sorted space_key (answers_always _ _ _ (λ f a r g called. search rules)))
