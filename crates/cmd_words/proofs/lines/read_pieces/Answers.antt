use Rattle.std.proofs.Common.{length, ap, arith}
use Rattle.cmd_words.proofs.Behind.{length-pieces}
use Rattle.cmd_words.proofs.lines.read_pieces.Goals as goal

pub keys_fault-requires : goal.keys_fault-requires
keys_fault-requires c =
    let most = length-pieces c.args.line.now in
    let one = ap length c.in-Some.ensures in
    omega arith
