use Rattle.std.proofs.Common.{arith, ap, ◌∙◌, ℕ, length, List, ◌++◌}
use Rattle.std.specs.List.{flat_map}
use Rattle.std.proofs.lemmas.Result.{on_ok_weaker}
use Rattle.byteorder.specs.Endian.{little_bytes}
use Rattle.nfit_tables.specs.Spelling.{interleave_fields}
use Rattle.nfit_tables.proofs.Appends.{and_then}
use Rattle.nfit_tables.proofs.Sizes.{length-interleave}
use Rattle.nfit_tables.proofs.writing.put_interleave.Goals as goal

pub overflow_cast-len : goal.overflow_cast-len
overflow_cast-len c = omega (arith, length-interleave c.args.p.now)

pub returns : goal.returns
unfolding interleave_fields
returns c =
    let p = c.args.p.now in
    let counted = c.in_ok-push_u32.ensures ∙ ap (λ (n : ℕ). c.push_u16-2.new.out.items ++ little_bytes 4 n) c.len.ensures in
    let lines = λ (before : List ℕ). ap (λ (lines : List ℕ). before ++ flat_map (little_bytes 4) lines) c.as_slice.ensures in
    on_ok_weaker c.put_lines.result
    (λ last.
    and_then _ (little_bytes 2 p.index) _ c.in_ok-push_u16.ensures
    (and_then _ (little_bytes 2 p.reserved) _ c.in_ok-push_u16-2.ensures
    (and_then _ (little_bytes 4 (length p.lines)) _ counted
    (and_then _ (little_bytes 4 p.line_size) (flat_map (little_bytes 4) p.lines) c.in_ok-push_u32-2.ensures (last ∙ lines _)))))
    c.put_lines.ensures
