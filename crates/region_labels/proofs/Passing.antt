-- A label in one of a module's slots that passes a test is one of those that pass it.
use Rattle.std.proofs.Common.{◌≡◌, ℕ, ◌≤◌, ◌<◌, true, false, sym, arith}
use Rattle.std.specs.Prelude.{Bool, nat_lt}
use Rattle.std.specs.Option.{option_map_or}
use Rattle.label_codec.specs.declared.label.Label.{Label}
use Rattle.label_codec.specs.ModuleLabels.{Module, count, number, one}
use Rattle.label_codec.proofs.Counting.{count-least}
use Rattle.label_table.proofs.ListTests.{lt_from}
use Rattle.region_labels.proofs.Slots.{one-is}

pub some-pass : (test : Label → Bool) (area : Module) (slot : ℕ) → slot < area.slots → option_map_or test (area.at slot) false ≡ true → true ≡ nat_lt 0 (number test area)
some-pass test area slot within passes =
    let here : one test (area.at slot) ≡ 1 = one-is test (area.at slot) true passes in
    let least : one test (area.at slot) ≤ count test area.at area.slots = count-least test area.at slot area.slots within in
    let some : 0 < count test area.at area.slots = omega arith in
    sym (lt_from 0 (count test area.at area.slots) some)
