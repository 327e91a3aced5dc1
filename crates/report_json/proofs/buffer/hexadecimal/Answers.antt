use Rattle.std.proofs.Common.{List, ℕ, ◌++◌, codes, ap, ◌∙◌}
use Rattle.report_json.specs.Numbers.{hexadecimal, hexadecimal_digits}
use Rattle.report_json.proofs.buffer.hexadecimal.Goals as goal

pub returns-clause-text : goal.returns-clause-text
unfolding hexadecimal
returns-clause-text c =
    let front = c.push_str.ensures ∙ ap (λ (t : List ℕ). t ++ codes "0x") c.new-text.ensures in
    c.push_digits.ensures.text ∙ ap (λ (t : List ℕ). t ++ hexadecimal_digits c.args.count c.args.number) front
