use Rattle.std.proofs.Common.{ℕ, ◌+◌, ◌*◌, sym, arith}
use Rattle.std.proofs.lemmas.List.FromFn.{map-range_with_len_more}
use Rattle.byte_ranges.specs.Ranges.{number_at}
use Rattle.nfit_tables.proofs.fields.lines.Goals as goal

pub loop-line-preserved : goal.loop-line-preserved
loop-line-preserved c = rw (c.in_ok-push.ensures.ok, c.u32_at.ensures, c.loop-line.invariant) (sym (map-range_with_len_more (λ (line : ℕ). number_at 4 c.args.bytes.now (16 + 4 * line)) 0 c.loop-line.line c.loop-line.line (omega arith)))
