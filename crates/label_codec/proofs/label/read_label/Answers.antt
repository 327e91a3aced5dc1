use Rattle.std.proofs.Common.{◌≡◌, sym, subst, Some, rules, ℕ}
use Rattle.label_codec.specs.Labels.{label_of, label_text}
use Rattle.label_codec.proofs.Slots.{slot_of_label}
use Rattle.label_codec.proofs.Written.{label_of-text}
use Rattle.label_codec.proofs.label.read_label.Goals as goal

pub returns-clause-exact : goal.returns-clause-exact
returns-clause-exact c = search rules

pub returns-clause-again : goal.returns-clause-again
returns-clause-again c =
    let l = c.fields.result in
    let slot = slot_of_label c.args.bytes.now c.args.slot l (sym (returns-clause-exact c)) in
    subst (λ (n : ℕ). label_of (label_text l) n ≡ Some l) slot (label_of-text l c.fields.ensures.namespace c.fields.ensures.part)
