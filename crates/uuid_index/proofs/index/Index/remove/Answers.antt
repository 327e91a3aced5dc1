use Rattle.std.proofs.Common.{◌≡◌, ◌<◌, ◌∷◌, List, Err, Equal, length, get_or, refl, sym, subst}
use Rattle.std.specs.List.{Contains}
use Rattle.std.specs.List.Sorted.{IsBinarySearchResult, IsPermutation}
use Rattle.std.proofs.lemmas.List.Sorted.{IsPermutation-remove}
use Rattle.uuid_index.specs.declared.entry.Entry.{Entry}
use Rattle.uuid_index.specs.Contents.{Contents}
use Rattle.uuid_index.specs.Entries.{IsOrdered, entry_cmp}
use Rattle.uuid_index.proofs.Changes.{has_entry, index-loss}
use Rattle.uuid_index.proofs.Order.{exact_entries}
use Rattle.uuid_index.proofs.Places.{not_missing, ordered-remove}
use Rattle.uuid_index.proofs.index.Index.remove.Goals as goal

-- what the search found is the entry
within : (c : goal.After-remove) → c.in-Ok.at < length c.self.inside.entries.items
within c = subst (λ (es : List Entry). c.in-Ok.at < length es) c.deref.ensures.value c.in-Ok.ensures.bound

is_entry : (c : goal.After-remove) → get_or c.self.inside.entries.items c.in-Ok.at c.args.entry.now ≡ c.args.entry.now
is_entry c = exact_entries _ _ (subst (λ (es : List Entry). entry_cmp (get_or es c.in-Ok.at c.args.entry.now) c.args.entry.now ≡ Equal) c.deref.ensures.value (c.in-Ok.ensures.position c.args.entry.now))

removed : (c : goal.After-remove) → IsPermutation c.args.self.now.entries (c.args.entry.now ∷ c.remove.new.self.items)
removed c = rw (c.remove.ensures.items, ← c.self.view_is) (IsPermutation-remove c.self.inside.entries.items c.in-Ok.at c.args.entry.now (within c) (sym (is_entry c)))

ordered : (c : goal.After-remove) → IsOrdered c.remove.new.self.items
ordered c = subst IsOrdered (sym c.remove.ensures.items) (ordered-remove c.self.inside.entries.items c.in-Ok.at (within c) c.self.invariant)

missing : (c : goal.In-Err) → Contains c.args.self.now.entries c.args.entry.now → ⊥
missing c there = not_missing c.args.entry.now c.self.inside.entries.items c.in-Err.field-0 c.self.invariant (subst (λ (seen : Contents). Contains seen.entries c.args.entry.now) (sym c.self.view_is) there)
    (subst (λ (es : List Entry). IsBinarySearchResult (λ y. entry_cmp y c.args.entry.now) es (Err c.in-Err.field-0)) c.deref.ensures.value c.in-Err.ensures.position)

pub invariant_of-self : goal.invariant_of-self
invariant_of-self c = ordered c

pub returns-in-Ok-clause-there : goal.returns-in-Ok-clause-there
returns-in-Ok-clause-there c = (λ _. rw (← c.self.view_is) (c.in-Ok.at, within c, is_entry c), λ _. refl)

pub returns-in-Ok-clause-removed : goal.returns-in-Ok-clause-removed
returns-in-Ok-clause-removed c = removed c

pub returns-in-Ok-clause-labels : goal.returns-in-Ok-clause-labels
returns-in-Ok-clause-labels c modules before after loss index =
    index-loss modules c.args.entry.now before after _ _ loss (removed c) (ordered c) index

pub returns-in-Err-clause-there : goal.returns-in-Err-clause-there
returns-in-Err-clause-there c = (λ never. absurd cc, λ there. absurd (missing c there))

pub returns-in-Err-clause-labels : goal.returns-in-Err-clause-labels
returns-in-Err-clause-labels c modules before after loss index =
    absurd (missing c (has_entry modules c.args.entry.now before after _ loss index))
