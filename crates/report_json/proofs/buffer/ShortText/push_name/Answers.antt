use Rattle.std.proofs.Common.{◌≡◌, ◌++◌, ℕ, ◌==◌, length, true, false, List, ◌∙◌, arith}
use Rattle.std.specs.Prelude.{codes}
use Rattle.std.specs.List.{flat_map}
use Rattle.std.proofs.lemmas.Bool.Decides.{nat_tests}
use Rattle.label_codec.specs.Names.{name_before_zero, is_dash, printed_byte, printed_name}
use Rattle.report_json.proofs.buffer.ShortText.push_name.Goals as goal

module _ (bytes name : List ℕ) (is : name ≡ name_before_zero bytes) where
  empty : length name ≡ 0 → codes "-" ≡ printed_name bytes
  unfolding printed_name
  empty none = rw (← is, none)

  dash : (length name == 0) ≡ false → is_dash name ≡ true → codes "%2D" ≡ printed_name bytes
  unfolding printed_name
  dash some one = rw (← is, some, one)

  other : (length name == 0) ≡ false → is_dash name ≡ false → flat_map printed_byte name ≡ printed_name bytes
  unfolding printed_name
  other some more = rw (← is, some, more)

pub returns-in-empty-clause-text : goal.returns-in-empty-clause-text
returns-in-empty-clause-text c =
    let printed = empty c.args.name.now c.before_zero.result.now c.before_zero.ensures.bytes (omega arith) in
    c.push_str-in-empty.ensures ∙ (λ i. c.push_str.ensures i ++ printed i)

pub returns-in-45-clause-text : goal.returns-in-45-clause-text
returns-in-45-clause-text c =
    let printed = dash c.args.name.now c.before_zero.result.now c.before_zero.ensures.bytes (grind (arith, nat_tests)) (grind (arith, nat_tests)) in
    c.push_str-in-45.ensures ∙ (λ i. c.push_str.ensures i ++ printed i)

pub returns-in_default-clause-text : goal.returns-in_default-clause-text
returns-in_default-clause-text c =
    let printed = other c.args.name.now c.before_zero.result.now c.before_zero.ensures.bytes (grind (arith, nat_tests)) (grind (arith, nat_tests)) in
    c.push_printed.ensures.text ∙ (λ i. c.push_str.ensures i ++ printed i)
