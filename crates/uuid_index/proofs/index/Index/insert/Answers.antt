use Rattle.std.proofs.Common.{◌≡◌, ◌∷◌, sym, subst, arith}
use Rattle.std.specs.List.{insert}
use Rattle.std.specs.List.Sorted.{IsPermutation}
use Rattle.std.proofs.lemmas.Grind.{common_steps}
use Rattle.std.proofs.lemmas.List.Sorted.{IsPermutation-insert}
use Rattle.uuid_index.specs.Entries.{IsOrdered, IsPlace}
use Rattle.uuid_index.proofs.Places.{ordered-insert}
use Rattle.uuid_index.proofs.Changes.{index-gain}
use Rattle.uuid_index.proofs.index.Index.insert.Goals as goal

-- with room the insertion succeeds
inserted : (c : goal.After-insert) → c.insert.new.self.items ≡ insert c.self.inside.entries.items c.place_of-at.result c.args.entry
inserted c = grind (arith, common_steps)

ordered : (c : goal.After-insert) → IsOrdered c.insert.new.self.items
ordered c =
    let items = c.self.inside.entries.items in
    subst IsOrdered (sym (inserted c))
    (ordered-insert c.args.entry items c.place_of-at.result c.self.invariant (subst (λ es. IsPlace c.args.entry es c.place_of-at.result) c.deref.ensures.value c.place_of-at.ensures))

added : (c : goal.After-insert) → IsPermutation (c.args.entry ∷ c.self.inside.entries.items) c.insert.new.self.items
added c = subst (IsPermutation (c.args.entry ∷ c.self.inside.entries.items)) (sym (inserted c)) (IsPermutation-insert c.self.inside.entries.items c.place_of-at.result c.args.entry)

pub invariant_of-self : goal.invariant_of-self
invariant_of-self c = ordered c

pub returns-clause-entries : goal.returns-clause-entries
returns-clause-entries c = rw (← c.self.view_is) (added c)

pub returns-clause-labels : goal.returns-clause-labels
returns-clause-labels c modules before after gain index =
    index-gain modules c.args.entry before after _ _ gain (rw (← c.self.view_is) (added c)) (ordered c) index
