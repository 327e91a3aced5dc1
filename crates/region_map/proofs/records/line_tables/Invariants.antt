use Rattle.std.proofs.Common.{◌≡◌, take}
use Rattle.region_map.specs.Records.{line_tables}
use Rattle.region_map.proofs.records.line_tables.Given as goal

abbrev pub invariant-loop-piece : goal.invariant-loop-piece
invariant-loop-piece l = l.tables.items ≡ line_tables (take l.piece-index l.pieces)
