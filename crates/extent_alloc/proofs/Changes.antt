-- What stays of a chain where one node is changed.
use Rattle.std.proofs.Common.{◌≡◌, ◌≢◌, ℕ, List, Option, Some, slice_get, slice_set, sym, ap, ◌∙◌, subst, arith}
use Rattle.std.proofs.lemmas.List.{length-set}
use Rattle.std.proofs.lemmas.Option.{slice_get_within}
use Rattle.extent_alloc.specs.declared.pool.Node.{Node}
use Rattle.extent_alloc.specs.declared.pool.Link.{Link}
use Rattle.extent_alloc.specs.Chains.{times}
use Rattle.extent_alloc.specs.Changes.{ChangesAt}
use Rattle.extent_alloc.proofs.Chains.{Keeps, slice_get-set_same, slice_get-set_other}

pub changes_set : (at : ℕ) (change : Node → Node) (nodes : List Node) (node : Node) → slice_get nodes at ≡ Some node
    → ChangesAt (Some at) change nodes (slice_set nodes at (change node))
changes_set at change nodes node e = record {
  others = λ k other. slice_get-set_other nodes at k (change node) (λ same. other (ap Some (sym same)));
  changed = λ k was same there.
      let one : at ≡ k = cc in
      let both : Some node ≡ Some was = sym e ∙ ap (slice_get nodes) one ∙ there in
      let same_node : node ≡ was = cc in
      (λ i. slice_get (slice_set nodes at (change (same_node i))) (sym one i)) ∙ slice_get-set_same nodes at (change was) (slice_get_within nodes at node e);
  len = length-set nodes at (change node);
}

pub keeps_trans : (a b c : List Node) (ls : List Link) → Keeps a b ls → Keeps b c ls → Keeps a c ls
keeps_trans a b c ls first second k node some e = second k node some (first k node some e)

pub keeps_change : (at : Option ℕ) (change : Node → Node) (old new : List Node) (ls : List Link) → ChangesAt at change old new
    → ((k : ℕ) → at ≡ Some k → times k ls ≡ 0) → Keeps old new ls
keeps_change at change old new ls changes none k node some e = changes.others k (λ is. absurd (omega (arith, none k is))) ∙ e

pub keeps_others : (at : ℕ) (old new : List Node) (ls : List Link) → ((k : ℕ) → k ≢ at → slice_get new k ≡ slice_get old k) → times at ls ≡ 0 → Keeps old new ls
keeps_others at old new ls others none k node some e =
    others k (λ same. let no : times k ls ≡ 0 = subst (λ j. times j ls ≡ 0) (sym same) none in absurd (omega arith)) ∙ e
