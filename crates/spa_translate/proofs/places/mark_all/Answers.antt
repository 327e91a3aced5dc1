use Rattle.std.proofs.Common.{◌*◌, ◌<◌, ◌∙◌, arith, length}
use Rattle.spa_translate.specs.Faults.{all_lines}
use Rattle.spa_translate.proofs.Slots.{length_marked, many_lines, slots_step, slots_until}
use Rattle.spa_translate.proofs.places.mark_all.Goals as goal

pub loop-place-preserved : goal.loop-place-preserved
loop-place-preserved c =
    let strands = c.args.strands.now in
    let total = length strands * c.args.lines in
    let long = many_lines c.args.lines strands c.requires.each in
    let below : c.loop-place.place < length (all_lines strands) = omega (arith, long, c.loop-place-test.true) in
    let step = slots_step (all_lines strands) total c.loop-place.place c.line_at-line.result c.loop-place.slots below c.loop-place.invariant.len c.loop-place.invariant.slots c.line_at-line.ensures in
    rw c.mark.ensures (record { len = length_marked c.line_at-line.result c.loop-place.slots c.loop-place.place ∙ c.loop-place.invariant.len; slots = step })

pub returns : goal.returns
returns c =
    slots_until (all_lines c.args.strands.now) c.loop-place.place (length c.args.strands.now * c.args.lines) c.loop-place.slots (omega arith) c.loop-place.invariant.slots
