use Rattle.std.proofs.Common.{◌≡◌, ◌+◌, ◌*◌, ◌≤◌, ◌++◌, length, take}
use Rattle.std.specs.List.{flat_map}
use Rattle.label_codec.specs.Names.{printed_byte}
use Rattle.report_json.proofs.buffer.ShortText.push_printed.Given as goal

abbrev pub invariant-loop-byte : goal.invariant-loop-byte
invariant-loop-byte l = record {
  text : l.self ≡ l.fn.self ++ flat_map printed_byte (take l.byte-index l.bytes);
  long : length l.self ≤ length l.fn.self + 3 * l.byte-index;
}
