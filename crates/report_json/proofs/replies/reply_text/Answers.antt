use Rattle.std.proofs.Common.{◌≡◌, ◌++◌, ℕ, List, IfOk, sym, ap, ◌∙◌, subst}
use Rattle.std.specs.List.{flat_map}
use Rattle.report_json.specs.Lines.{namespace_line, region_line}
use Rattle.report_json.specs.Texts.{namespaces_end, regions_end, reply_text}
use Rattle.report_json.proofs.replies.reply_text.Goals as goal

pub returns-in-Namespaces : goal.returns-in-Namespaces
returns-in-Namespaces c =
    let items = c.as_slice.ensures in
    let last = c.counted-last.ensures ∙ ap namespaces_end c.len.ensures in
    let all = (λ i. flat_map namespace_line (items i) ++ last i) ∙ ap reply_text (sym c.in-Namespaces.is) in
    subst (λ (t : List ℕ). IfOk c.lines.result (λ text. text.items ≡ t)) all c.lines.ensures

pub returns-in-Regions : goal.returns-in-Regions
returns-in-Regions c =
    let items = c.as_slice-in-Regions.ensures in
    let last = c.counted-last-in-Regions.ensures ∙ ap regions_end c.len-in-Regions.ensures in
    let all = (λ i. flat_map region_line (items i) ++ last i) ∙ ap reply_text (sym c.in-Regions.is) in
    subst (λ (t : List ℕ). IfOk c.lines-in-Regions.result (λ text. text.items ≡ t)) all c.lines-in-Regions.ensures
