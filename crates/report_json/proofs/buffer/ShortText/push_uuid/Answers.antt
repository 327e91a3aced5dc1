use Rattle.std.proofs.Common.{◌≡◌, ◌+◌, length, ap, ◌∙◌, arith}
use Rattle.std.proofs.lemmas.List.{length-append}
use Rattle.uuid.proofs.TextLemmas.{by_index_length}
use Rattle.report_json.proofs.buffer.ShortText.push_uuid.Goals as goal

pub push_str-requires-2 : goal.push_str-requires-2
push_str-requires-2 c =
    let behind : length c.push_str.new.self ≡ length c.args.self.now + length c.args.label.now = ap length c.push_str.ensures ∙ length-append _ _ in
    let long : length c.encode_lower.result.now ≡ 36 = ap length c.encode_lower.ensures.text ∙ by_index_length 36 _ in
    omega (arith, behind, long, c.requires)

pub returns-clause-long : goal.returns-clause-long
returns-clause-long c =
    let behind : length c.push_str.new.self ≡ length c.args.self.now + length c.args.label.now = ap length c.push_str.ensures ∙ length-append _ _ in
    let long : length c.encode_lower.result.now ≡ 36 = ap length c.encode_lower.ensures.text ∙ by_index_length 36 _ in
    let all : length c.push_str-2.new.self ≡ length c.push_str.new.self + length c.encode_lower.result.now = ap length c.push_str-2.ensures ∙ length-append _ _ in
    omega (arith, behind, long, all)
