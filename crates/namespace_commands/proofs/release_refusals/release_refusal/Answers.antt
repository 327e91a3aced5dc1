use Rattle.std.proofs.Common.{[], ◌∷◌, Some, sym, ap, subst, ◌∙◌}
use Rattle.std.specs.List.{list_any}
use Rattle.label_sets.specs.Sets.{labels_in}
use Rattle.table_steps.specs.Refusals.{first_of}
use Rattle.table_steps.specs.Release.{held_fixed, not_held, region_lacks_area, release_refusals}
use Rattle.namespace_commands.specs.Keys.{IsRefusedBy}
use Rattle.namespace_commands.specs.Releases.{is_fixed_with, is_with}
use Rattle.namespace_commands.proofs.ReleaseRefusals.{release-fixed, release-none, release-not_held, release-region}
use Rattle.namespace_commands.proofs.release_refusals.release_refusal.Goals as goal

pub returns-in-Err-Refused : goal.returns-in-Err-Refused
returns-in-Err-Refused c =
    let P = c.args.platform.now in
    let L = labels_in c.args.sets.now in
    let dimm = c.args.dimm in
    let u = c.args.uuid.now in
    ap Some c.in-Err-Refused.refusal-is ∙ sym (subst (IsRefusedBy (first_of (release_refusals P L dimm u))) c.in-Err-Refused.field-0-is (c.in-Err-Refused.ensures.refused (not_held P L dimm u ∷ region_lacks_area P L dimm u ∷ held_fixed P L dimm u ∷ [])))

pub returns-then-not-has_one : goal.returns-then-not-has_one
returns-then-not-has_one c =
    let u = c.args.uuid.now in
    sym (release-not_held c.args.platform.now (labels_in c.args.sets.now) c.args.dimm u c.in-Ok.held c.in-Ok.ensures.held
    (ap (list_any (is_with u)) (sym c.as_slice-held.ensures) ∙ sym c.has_one.ensures ∙ c.if-not-has_one.true))

pub returns-in-Ok-Some : goal.returns-in-Ok-Some
returns-in-Ok-Some c =
    let u = c.args.uuid.now in
    sym (release-region c.args.platform.now (labels_in c.args.sets.now) c.args.dimm u c.in-Ok.held c.in-Ok.ensures.held
    (ap (list_any (is_with u)) (sym c.as_slice-held.ensures) ∙ sym c.has_one.ensures ∙ c.if-not-has_one.false)
    c.in-Ok-Some.refusal (sym c.in-Ok-Some.ensures ∙ c.in-Ok-Some.field-0-is))

pub returns-then-has_fixed : goal.returns-then-has_fixed
returns-then-has_fixed c =
    let u = c.args.uuid.now in
    sym (release-fixed c.args.platform.now (labels_in c.args.sets.now) c.args.dimm u c.in-Ok.held c.in-Ok.ensures.held
    (ap (list_any (is_with u)) (sym c.as_slice-held.ensures) ∙ sym c.has_one.ensures ∙ c.if-not-has_one.false)
    (sym c.in-Ok-None.ensures ∙ c.in-Ok-None.field-0-is)
    (ap (list_any (is_fixed_with u)) (sym c.as_slice-held.ensures) ∙ sym c.has_fixed.ensures ∙ c.if-has_fixed.true))

pub returns : goal.returns
returns c =
    let u = c.args.uuid.now in
    sym (release-none c.args.platform.now (labels_in c.args.sets.now) c.args.dimm u c.in-Ok.held c.in-Ok.ensures.held
    (ap (list_any (is_with u)) (sym c.as_slice-held.ensures) ∙ sym c.has_one.ensures ∙ c.if-not-has_one.false)
    (sym c.in-Ok-None.ensures ∙ c.in-Ok-None.field-0-is)
    (ap (list_any (is_fixed_with u)) (sym c.as_slice-held.ensures) ∙ sym c.has_fixed.ensures ∙ c.if-has_fixed.false))
