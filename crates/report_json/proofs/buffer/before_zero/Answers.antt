use Rattle.std.proofs.Common.{◌≡◌, ◌≤◌, ℕ, ◌==◌, Bool, true, false, Some, None, refl, sym, ap, ◌∙◌, tests, rules}
use Rattle.std.specs.Prelude.{if◌then◌else◌, nat_lt, take}
use Rattle.std.specs.List.{position_or_len}
use Rattle.std.proofs.lemmas.Bool.{ltb-false}
use Rattle.std.proofs.lemmas.Iterator.{YieldsList-from_slice}
use Rattle.std.proofs.lemmas.Iterator.Search.{position_from_yields_List}
use Rattle.std.proofs.lemmas.List.{take_all}
use Rattle.report_json.proofs.buffer.before_zero.Goals as goal

at_place : (within : Bool) (place end : ℕ) → Some end ≡ (if within then Some place else None) → end ≡ place
at_place true place end is = cc
at_place false place end is = cc

nowhere : (within : Bool) (place len : ℕ) → nat_lt place len ≡ within → None ≡ (if within then Some place else None) → len ≤ place
nowhere true place len test is = cc
nowhere false place len test is = ltb-false place len test

pub returns-in-Some-clause-bytes : goal.returns-in-Some-clause-bytes
returns-in-Some-clause-bytes c =
    let name = c.args.name.now in
    let first = position_from_yields_List (λ byte. byte == 0) _ _ _ c.position.ensures.ran (YieldsList-from_slice name cc) (λ x b q k. search (rules, tests)) in
    let end : c.in-Some.end ≡ position_or_len (λ byte. byte == 0) name = at_place _ _ _ (sym c.in-Some.is ∙ first) in
    ap (λ n. take n name) end

pub returns-in-None-clause-bytes : goal.returns-in-None-clause-bytes
returns-in-None-clause-bytes c =
    let name = c.args.name.now in
    let first = position_from_yields_List (λ byte. byte == 0) _ _ _ c.position.ensures.ran (YieldsList-from_slice name cc) (λ x b q k. search (rules, tests)) in
    sym (take_all _ name (nowhere _ _ _ refl (sym c.in-None.is ∙ first)))
