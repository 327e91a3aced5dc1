use Rattle.cmd_words.proofs.Ascii.{line_is_text}
use Rattle.cmd_words.proofs.lines.read_line.Goals as goal

pub unreachable-requires : goal.unreachable-requires
unreachable-requires c = c.in-Err.ensures.cases.0 (line_is_text c.args.bytes.now c.in_default.ensures)
