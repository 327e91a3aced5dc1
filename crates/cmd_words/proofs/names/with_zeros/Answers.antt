use Rattle.std.proofs.Common.{◌++◌, drop, length, ap, ◌∙◌}
use Rattle.std.specs.Prelude.{replicate}
use Rattle.std.proofs.lemmas.List.{drop-replicate}
use Rattle.cmd_words.proofs.names.with_zeros.Goals as goal

pub returns : goal.returns
returns c =
    ap (λ written. written ++ drop (length c.args.text.now) (replicate 64 0)) (c.copy_from_slice.ensures.after ∙ c.as_bytes.ensures.value)
    ∙ ap (λ zeros. c.args.text.now ++ zeros) (drop-replicate (length c.args.text.now) 64 0)
