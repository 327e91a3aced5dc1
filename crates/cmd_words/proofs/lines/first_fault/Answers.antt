use Rattle.std.proofs.Common.{rules, arith}
use Rattle.cmd_words.proofs.Behind.{one_behind, one_more}
use Rattle.cmd_words.proofs.lines.first_fault.Goals as goal

pub piece_fault-requires-clause-few : goal.piece_fault-requires-clause-few
piece_fault-requires-clause-few c =
    let more = one_more c.args.keys.now c.args.text.now c.loop-piece.rest.now c.loop-piece.earlier c.loop-piece.invariant.1 c.in-Some.piece.now c.in-Some.behind.now c.in-Some.ensures in
    omega arith

pub overflow_add-earlier : goal.overflow_add-earlier
overflow_add-earlier c =
    let more = one_more c.args.keys.now c.args.text.now c.loop-piece.rest.now c.loop-piece.earlier c.loop-piece.invariant.1 c.in-Some.piece.now c.in-Some.behind.now c.in-Some.ensures in
    omega arith

pub loop-piece-preserved : goal.loop-piece-preserved
loop-piece-preserved c = (search rules, one_behind c.args.keys.now c.args.text.now c.loop-piece.rest.now c.loop-piece.earlier c.loop-piece.invariant.1 c.in-Some.piece.now c.in-Some.behind.now c.in-Some.ensures c.in_default-piece_fault.ensures)
