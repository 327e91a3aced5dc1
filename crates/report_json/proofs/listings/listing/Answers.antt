use Rattle.std.proofs.Common.{◌≡◌, ℕ, ◌++◌, List, Some, None, length, sym, ap, ◌∙◌, arith}
use Rattle.std.specs.FinMap.{get}
use Rattle.std.specs.List.{filter_map, flat_map, range_with_len}
use Rattle.std.specs.Option.{option_copied}
use Rattle.report_json.specs.Listing.{label_line, last_line}
use Rattle.report_json.proofs.LabelLines.{count-none, count-some, filter_map-map, lines-none, lines-some, live_front}
use Rattle.report_json.proofs.listings.listing.Goals as goal
use Rattle.report_json.proofs.listings.listing.Goals.{in-Some+in_ok-extend_from_slice, in_default}

pub loop-slot-preserved : goal.loop-slot-preserved
loop-slot-preserved c =
    let at = get c.args.area.now.live in
    let n = c.loop-slot.slot in
    elim c.match-label.branch [
      | in-Some+in_ok-extend_from_slice w ↦
          let some : at n ≡ Some w.in-Some.label.now = sym c.label.ensures ∙ ap option_copied w.in-Some.is in
          let line : w.as_bytes.result.now ≡ label_line w.in-Some.label.now = w.as_bytes.ensures.bytes ∙ w.label_line.ensures in
          let more : w.extend_from_slice.new.self.items ≡ c.loop-slot.text.items ++ label_line w.in-Some.label.now =
          w.in_ok-extend_from_slice.ensures.items ∙ ap (λ (t : List ℕ). c.loop-slot.text.items ++ t) line in
          record {
            text_is = ap (λ text. text.items) w.text-is ∙ lines-some at n w.in-Some.label.now c.loop-slot.text.items w.extend_from_slice.new.self.items some c.loop-slot.invariant.text_is more;
            count_is = omega (arith, w.count-is, c.loop-slot.invariant.count_is, count-some at n w.in-Some.label.now some);
            bound = omega (arith, w.count-is, c.loop-slot.invariant.bound);
          }
      | in_default w ↦
          let none : at n ≡ None = sym c.label.ensures ∙ ap option_copied w.in_default.is in
          record {
            text_is = ap (λ text. text.items) w.text-is ∙ c.loop-slot.invariant.text_is ∙ sym (lines-none at n none);
            count_is = omega (arith, w.count-is, c.loop-slot.invariant.count_is, count-none at n none);
            bound = omega (arith, w.count-is, c.loop-slot.invariant.bound);
          }
    ]

pub returns : goal.returns
returns c =
    let area = c.args.area.now in
    let end : c.loop-slot.slot ≡ area.geometry.slots = omega (arith, c.loop-slot-test.false, c.loop-slot.auto.slot-end, c.slots-slot-end.ensures) in
    let all : live_front (get area.live) c.loop-slot.slot ≡ filter_map (get area.live) (range_with_len 0 area.geometry.slots) =
    ap (live_front (get area.live)) end ∙ filter_map-map (get area.live) (range_with_len 0 area.geometry.slots) in
    let text : c.loop-slot.text.items ≡ flat_map label_line (filter_map (get area.live) (range_with_len 0 area.geometry.slots)) = c.loop-slot.invariant.text_is ∙ ap (flat_map label_line) all in
    let count : c.loop-slot.count ≡ length (filter_map (get area.live) (range_with_len 0 area.geometry.slots)) = c.loop-slot.invariant.count_is ∙ ap length all in
    c.in_ok-extend_from_slice-2.ensures.items ∙ ap (λ (t : List ℕ). c.loop-slot.text.items ++ t) (c.as_bytes-2.ensures.bytes ∙ c.last_line.ensures)
    ∙ (λ i. text i ++ last_line (count i) (record { geometry = area.geometry; place = area.place; seq = area.seq }))
