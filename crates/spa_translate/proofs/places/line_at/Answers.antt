use Rattle.std.proofs.Common.{◌≡◌, ◌+◌, ◌/◌, arith, get_or}
use Rattle.spa_translate.specs.Faults.{all_lines}
use Rattle.spa_translate.proofs.Slots.{line_is}
use Rattle.spa_translate.proofs.places.line_at.Goals as goal
use Rattle.spa_translate.proofs.places.line_at.Goals.{else-first-total-via-then-first-total+else-first-offset, else-first-total-via-else-first-total}

pub returns-then-first-offset : goal.returns-then-first-offset
returns-then-first-offset c =
    let strand = c.index-strands-place.result in
    let line = line_is c.args.lines c.args.strands.now strand c.args.place c.requires.each c.requires.below in
    let here : strand.offset / c.from.result + c.from-offset.result ≡ get_or (all_lines c.args.strands.now) c.args.place 0 = cc line in
    (here, omega (arith, c.if-first-offset.true))

pub returns-else-first-total : goal.returns-else-first-total
returns-else-first-total c =
    let strand = c.index-strands-place.result in
    let line = line_is c.args.lines c.args.strands.now strand c.args.place c.requires.each c.requires.below in
    let here : strand.offset / c.from.result + c.from-offset.result ≡ get_or (all_lines c.args.strands.now) c.args.place 0 = cc line in
    elim c.else-first-total.branch [
      | else-first-total-via-then-first-total+else-first-offset w ↦ omega (arith, here)
      | else-first-total-via-else-first-total w ↦ omega (arith, here)
    ]
