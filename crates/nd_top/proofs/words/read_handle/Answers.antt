use Rattle.std.proofs.Common.{◌≡◌, ◌^◌, ◌≤◌, Some, None, arith}
use Rattle.cmd_words.specs.Numbers.{below, number}
use Rattle.nd_top.proofs.Handles.{none_below, not_below}
use Rattle.nd_top.proofs.words.read_handle.Goals as goal

pub returns-in_default : goal.returns-in_default
returns-in_default c =
    let over : 2 ^ 32 ≤ c.in-Some.number = omega (arith, c.if-number-from.false, c.from.ensures) in
    let read : Some c.in-Some.number ≡ below (2 ^ 64) (number c.args.text.now) = cc in
    not_below (number c.args.text.now) c.in-Some.number read over

pub returns-in_default-2 : goal.returns-in_default-2
returns-in_default-2 c =
    let read : None ≡ below (2 ^ 64) (number c.args.text.now) = cc in
    none_below (number c.args.text.now) read
