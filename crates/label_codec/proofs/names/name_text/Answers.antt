use Rattle.std.proofs.Common.{◌≡◌, ℕ, ◌==◌, length, true, false, List, arith}
use Rattle.std.specs.Prelude.{codes}
use Rattle.std.specs.List.{flat_map}
use Rattle.std.proofs.lemmas.Bool.Decides.{nat_tests}
use Rattle.label_codec.specs.Names.{name_before_zero, is_dash, printed_byte, printed_name}
use Rattle.label_codec.proofs.names.name_text.Goals as goal

module _ (bytes name : List ℕ) (is : name ≡ name_before_zero bytes) where
  printed_name-empty : length name ≡ 0 → printed_name bytes ≡ codes "-"
  unfolding printed_name
  printed_name-empty empty = rw (← is, empty)

  printed_name-dash : (length name == 0) ≡ false → is_dash name ≡ true → printed_name bytes ≡ codes "%2D"
  unfolding printed_name
  printed_name-dash some dash = rw (← is, some, dash)

  printed_name-other : (length name == 0) ≡ false → is_dash name ≡ false → printed_name bytes ≡ flat_map printed_byte name
  unfolding printed_name
  printed_name-other some other = rw (← is, some, other)

pub returns-in-empty : goal.returns-in-empty
returns-in-empty c = rw (printed_name-empty c.args.name.now c.before_zero.result.now c.before_zero.ensures (omega arith)) c.from_slice.ensures.items

pub returns-in-45 : goal.returns-in-45
returns-in-45 c = rw (printed_name-dash c.args.name.now c.before_zero.result.now c.before_zero.ensures (grind (arith, nat_tests)) (grind (arith, nat_tests))) c.from_slice-in-45.ensures.items

pub returns-in_default : goal.returns-in_default
returns-in_default c =
    rw (printed_name-other c.args.name.now c.before_zero.result.now c.before_zero.ensures (grind (arith, nat_tests)) (grind (arith, nat_tests))) c.printed.ensures
