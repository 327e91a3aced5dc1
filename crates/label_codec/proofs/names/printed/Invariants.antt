use Rattle.std.proofs.Common.{◌≡◌, take}
use Rattle.std.specs.List.{flat_map}
use Rattle.label_codec.specs.Names.{printed_byte}
use Rattle.label_codec.proofs.names.printed.Given as goal

abbrev pub invariant-loop-byte : goal.invariant-loop-byte
invariant-loop-byte l = l.text.items ≡ flat_map printed_byte (take l.byte-index l.name)
