use Rattle.std.proofs.Common.{◌≡◌, ◌<◌, length, map, sym, ap, subst, ◌∙◌, arith}
use Rattle.std.specs.Option.{option_and_then, option_copied}
use Rattle.std.proofs.lemmas.Map.Entries.{option_filter}
use Rattle.label_codec.specs.declared.label.Label.{Label}
use Rattle.label_table.specs.Namespaces.{spaces_below, spaces_by_slot}
use Rattle.region_labels.specs.Marks.{listed_in, namespace_at}
use Rattle.region_labels.specs.Modules.{labels_in, module_in}
use Rattle.region_labels.proofs.Slots.{spaces-next}
use Rattle.region_labels.specs.ListedSpaces.{is_sought}
use Rattle.region_labels.specs.Tallies.{IsTally}
use Rattle.region_labels.proofs.CountedSpaces.{slots-of-first, tally-count, tally-few, tally-first}
use Rattle.region_labels.proofs.Leading.{leads-at}
use Rattle.region_labels.proofs.tallies.tally_of.Goals as goal

pub with-tally-requires : goal.with-tally-requires
with-tally-requires c =
    let few = tally-few (labels_in c.args.modules.now) c.args.kept.now.region (is_sought c.args.sought.now) (module_in c.module_at-leading.result.now).at c.loop-slot.slot c.loop-slot.tally c.loop-slot.invariant in
    omega (arith, few, c.loop-slot-test.true, c.slots-slot-end.type_inv)

pub namespace_of-requires-clause-leads : goal.namespace_of-requires-clause-leads
namespace_of-requires-clause-leads c =
    let area = module_in c.module_at-leading.result.now in
    let within : c.loop-slot.slot < area.slots = omega (arith, c.slots-slot-end.ensures, c.loop-slot-test.true) in
    leads-at (labels_in c.args.modules.now) c.args.kept.now.region area c.module_at-leading.ensures.stands c.loop-slot.slot within (option_copied c.label.result) c.label.ensures

pub loop-slot-preserved : goal.loop-slot-preserved
loop-slot-preserved c =
    let L = labels_in c.args.modules.now in
    let r = c.args.kept.now.region in
    let at = (module_in c.module_at-leading.result.now).at in
    let test = is_sought c.args.sought.now in
    let space_in = option_and_then (λ (l : Label). namespace_at L r l.uuid) in
    let before = map (listed_in L r) (spaces_below L r at c.loop-slot.slot) in
    subst (λ ns. IsTally test ns c.with-tally.result) (spaces-next L r at c.loop-slot.slot)
    (c.with-tally.ensures test before (space_in (at c.loop-slot.slot)) (c.namespace_of.ensures ∙ ap (λ o. option_filter test (space_in o)) c.label.ensures) c.loop-slot.invariant)

-- at the end of the walk, those of all slots
abbrev AreAll : goal.After-loop-slot → Type 0
AreAll c = IsTally (is_sought c.args.sought.now) (map (listed_in (labels_in c.args.modules.now) c.args.kept.now.region) (spaces_by_slot (labels_in c.args.modules.now) c.args.kept.now.region)) c.loop-slot.tally

all-slots : (c : goal.After-loop-slot) → AreAll c
all-slots c =
    let L = labels_in c.args.modules.now in
    let r = c.args.kept.now.region in
    let area = module_in c.module_at-leading.result.now in
    let end : c.loop-slot.slot ≡ area.slots = omega (arith, c.loop-slot.auto.slot-end, c.loop-slot-test.false, c.slots-slot-end.ensures) in
    let some : 0 < length r.members = omega (arith, c.len.ensures, c.if-len-eq0.false) in
    let all = ap (λ n. spaces_below L r area.at n) end ∙ ap (λ a. spaces_below L r a.at a.slots) c.module_at-leading.ensures.stands ∙ sym (slots-of-first L r some) in
    subst (λ ss. IsTally (is_sought c.args.sought.now) (map (listed_in L r) ss) c.loop-slot.tally) all c.loop-slot.invariant

pub returns-clause-count : goal.returns-clause-count
returns-clause-count c = tally-count (labels_in c.args.modules.now) c.args.kept.now.region (is_sought c.args.sought.now) c.loop-slot.tally (all-slots c)

pub returns-clause-first : goal.returns-clause-first
returns-clause-first c = tally-first (labels_in c.args.modules.now) c.args.kept.now.region (is_sought c.args.sought.now) c.loop-slot.tally (all-slots c)
