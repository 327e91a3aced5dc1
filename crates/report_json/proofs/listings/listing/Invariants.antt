use Rattle.std.proofs.Common.{◌≡◌, ◌≤◌, length}
use Rattle.std.specs.FinMap.{get}
use Rattle.std.specs.List.{flat_map}
use Rattle.report_json.specs.Listing.{label_line}
use Rattle.report_json.proofs.LabelLines.{live_front}
use Rattle.report_json.proofs.listings.listing.Given as goal

abbrev pub invariant-loop-slot : goal.invariant-loop-slot
invariant-loop-slot l = record {
  text_is : l.text.items ≡ flat_map label_line (live_front (get l.area.live) l.slot);
  count_is : l.count ≡ length (live_front (get l.area.live) l.slot);
  bound : l.count ≤ l.slot;
}
