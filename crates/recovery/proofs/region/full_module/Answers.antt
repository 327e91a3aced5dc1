use Rattle.std.proofs.Common.{◌≡◌, ℕ, ◌<◌, false, true, List, Option, Some, None, refl, sym, ap, ◌∙◌}
use Rattle.std.specs.Prelude.{is_some, not}
use Rattle.label_table.proofs.ListTests.{never}
use Rattle.label_sets.specs.Sets.{labels_in}
use Rattle.recovery.specs.Recovery.{pending_count}
use Rattle.recovery.proofs.Full.{full-by, unhealed-none, unhealed-some}
use Rattle.recovery.proofs.Pending.{first-in, none-count, none-in, pending-some, spare-in}
use Rattle.recovery.proofs.region.full_module.Goals as goal

none-of : {A : Type 0} → (o : Option A) → is_some o ≡ false → o ≡ None
none-of None e = refl
none-of (Some x) e = never true refl e

some-of : {A : Type 0} → (o : Option A) → is_some o ≡ true → (x : A) × (o ≡ Some x)
some-of None e = never false e refl
some-of (Some x) e = (x, refl)

pub returns-then-is_none : goal.returns-then-is_none
returns-then-is_none c = λ r there.
    let sets = c.args.sets.now in
    let none : c.first_pending.result ≡ None = none-of c.first_pending.result (c.is_none.ensures ∙ ap not c.if-is_none.true) in
    sym (unhealed-none sets r (none-count (labels_in sets) r (none-in sets c.args.region r there (sym c.first_pending.ensures ∙ none))))

pub returns-in-Some : goal.returns-in-Some
returns-in-Some c = λ r there.
    let sets = c.args.sets.now in
    let first = some-of c.first_pending.result (c.is_none.ensures ∙ ap not c.if-is_none.false) in
    let some : 0 < pending_count (labels_in sets) r = pending-some (labels_in sets) r first.0 (first-in sets c.args.region r there first.0 (sym c.first_pending.ensures ∙ first.1)) in
    sym (unhealed-some sets r some ∙ full-by sets r (Some c.in-Some.short) (spare-in sets c.args.region r there (Some c.in-Some.short) c.in-Some.ensures))

pub returns-in-None : goal.returns-in-None
returns-in-None c = λ r there.
    let sets = c.args.sets.now in
    let first = some-of c.first_pending.result (c.is_none.ensures ∙ ap not c.if-is_none.false) in
    let some : 0 < pending_count (labels_in sets) r = pending-some (labels_in sets) r first.0 (first-in sets c.args.region r there first.0 (sym c.first_pending.ensures ∙ first.1)) in
    sym (unhealed-some sets r some ∙ full-by sets r None (spare-in sets c.args.region r there None c.in-None.ensures))
