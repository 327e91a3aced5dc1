use Rattle.std.proofs.Common.{length}
use denote.Text.{Utf8}
use denote.Shadow.{shadow}
use Rattle.cmd_words.specs.Pieces.{pieces}
use Rattle.cmd_words.proofs.Behind.{IsBehind}
use Rattle.cmd_words.proofs.lines.first_fault.Given as goal

abbrev pub invariant-loop-piece : goal.invariant-loop-piece
invariant-loop-piece l = shadow (Utf8 l.rest) × IsBehind l.keys l.text l.rest l.earlier

abbrev pub decreases-loop-piece : goal.decreases-loop-piece
decreases-loop-piece l = length (pieces l.rest)
