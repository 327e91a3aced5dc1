use Rattle.std.proofs.Common.{◌≡◌, ◌∙◌, true, false, None, sym, subst}
use Rattle.std.specs.Prelude.{IfErr}
use Rattle.spa_translate.specs.Faults.{IsRefused, first_fault_of_strands, is_linear, no_interleave, too_many_lines}
use Rattle.spa_translate.proofs.Fit.{fit_linear, fit_named}
use Rattle.spa_translate.proofs.Testing.{first_linear, linear_passes}
use Rattle.spa_translate.proofs.weave.Weave.check.Goals as goal

pub of_strands-requires : goal.of_strands-requires
of_strands-requires c = rw (c.in-Ok.ensures, c.as_slice-members.ensures) (fit_linear c.args.platform.now c.args.region.now c.requires)

pub returns-in-Ok-clause-fault : goal.returns-in-Ok-clause-fault
returns-in-Ok-clause-fault c =
    let members = c.args.region.now.members in
    let tables = c.args.platform.now.tables in
    let linear : is_linear members ≡ true = rw (← c.as_slice-members.ensures) (sym c.is_linear.ensures ∙ c.if-is_linear.true) in
    let none : first_fault_of_strands c.in-Ok.strands.items ≡ None = rw (c.in-Ok.ensures, c.as_slice-members.ensures) (linear_passes members linear) in
    subst (λ o. IfErr c.of_strands.result (IsRefused o)) (none ∙ sym (first_linear tables members linear)) c.of_strands.ensures.fault

pub of_strands-requires-in-Ok-strands_of : goal.of_strands-requires-in-Ok-strands_of
of_strands-requires-in-Ok-strands_of c =
    let members = c.args.region.now.members in
    let tables = c.args.platform.now.tables in
    let named : no_interleave tables members ≡ false = rw (← c.as_slice-members.ensures, ← c.as_slice-tables.ensures) (sym c.no_interleave.ensures ∙ c.if-no_interleave.false) in
    let few : too_many_lines tables members ≡ false = rw (← c.as_slice-members.ensures, ← c.as_slice-tables.ensures) (sym c.too_many_lines.ensures ∙ c.if-too_many_lines.false) in
    rw (c.in-Ok-strands_of.ensures, c.as_slice-members.ensures, c.as_slice-tables.ensures) (fit_named c.args.platform.now c.args.region.now tables c.requires named few)
