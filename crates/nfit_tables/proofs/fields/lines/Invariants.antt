use Rattle.std.proofs.Common.{◌≡◌}
use Rattle.nfit_tables.specs.Reading.{lines_in}
use Rattle.nfit_tables.proofs.fields.lines.Given as goal

abbrev pub invariant-loop-line : goal.invariant-loop-line
invariant-loop-line l = l.lines ≡ lines_in l.line l.bytes
